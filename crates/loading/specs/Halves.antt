-- Frames read into a list of two halves: a number's two elements stand at its place in each.
use Rattle.std.specs.Prelude.{List, ◌≡◌, ℕ, ◌+◌, length, take, drop}
use Rattle.forms.specs.Kinds.{Kind}
use Rattle.forms.specs.WellShaped.{Taken, take_of, take_from}

-- what has been read of n numbers: up to this place of the text, and the two halves of a list
abbrev pub halves : ℕ → ℕ → List ℕ → Taken
halves n at l = record { at = at; first = take n l; second = drop n l }

-- The frames of n numbers are read from place `from` on into a list that was `before` and is `after`; they end at `end`. Into a list of another length
-- than both halves have nothing is read.
pub record ReadInto (K : Kind) (n : ℕ) (text : List ℕ) (from : ℕ) (before : List ℕ) (end : ℕ) (after : List ℕ) : Type 0 where
  pub long : length after ≡ length before
  pub read : length before ≡ n + n → halves n end after ≡ take_from (take_of K text) n 0 (halves n from before)
  pub other : (length before ≡ n + n → ⊥) → (end ≡ from) × (after ≡ before)
