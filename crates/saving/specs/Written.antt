-- What a function that writes part of a text leaves behind.
use Rattle.std.specs.Prelude.{◌≡◌, List, ℕ, ◌+◌, length, get_or, Option, Some, None, if◌then◌else◌}
use Rattle.std.proofs.lemmas.List.Edits.{sets}
use Rattle.forms.specs.Kinds.{Kind}

-- `after` is `before` with `text` from place `at` on, and `next` is the place behind the text.
pub record Written (before : List ℕ) (at : ℕ) (text : List ℕ) (after : List ℕ) (next : ℕ) : Type 0 where
  pub stored : after ≡ sets before at text
  pub ends : next ≡ at + length text

-- the two values of the frame of number k, from both arrays; none where no frame is written for it
abbrev pub values_of : Kind → List ℕ → List ℕ → ℕ → Option (ℕ × ℕ)
values_of K xs ys k =
    if K.bare (get_or xs k 0) (get_or ys k 0)
    then None
    else Some (K.first_value (get_or xs k 0) (get_or ys k 0), K.second_value (get_or xs k 0) (get_or ys k 0))
