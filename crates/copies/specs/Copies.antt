-- Words copied from list to list, where there is room for them or so many of them.
use Rattle.std.specs.Prelude.{cond, List, ℕ, ◌+◌, leb, length, take, drop, replicate}
use Rattle.std.proofs.lemmas.List.Edits.{sets}

-- a list with words put into it from a place on, and as it was where they don't all fit
abbrev pub words_put : {A : Type 0} → List A → ℕ → List A → List A
words_put words at from = cond (leb (at + length from) (length words)) (sets words at from) words

-- n words of a list from a place on, and blank ones where it doesn't have so many
abbrev pub words_from : {A : Type 0} → (n : ℕ) → (blank : A) → List A → ℕ → List A
words_from n blank words at = cond (leb (at + n) (length words)) (take n (drop at words)) (replicate n blank)
