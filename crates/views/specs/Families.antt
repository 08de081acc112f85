-- Families among the 64 actions, gathered by passes over the parents.
use Rattle.std.specs.Prelude.{Bool, List, ℕ}
use Rattle.sets.specs.Sets.{member}
use Rattle.tables.specs.Families as tables
use Rattle.tables.specs.Changes as changes

-- One of the numbers 32 to 63 has a parent.
abbrev pub upper_child : List ℕ → Bool
upper_child = tables.upper_child 64 32

-- No number from `first` on has a parent.
abbrev pub NoParentsFrom : List ℕ → ℕ → Type 0
NoParentsFrom = tables.NoParentsFrom 64

-- the set, with k where k's parent is in it
abbrev pub adopted : ℕ → ℕ → ℕ → ℕ
adopted = tables.adopted 64

-- A set grown by the children among the numbers below k.
abbrev pub GrownTo : List ℕ → ℕ → ℕ → ℕ → Type 0
GrownTo = tables.GrownTo 64

-- A set grown by children.
abbrev pub Grown : List ℕ → ℕ → ℕ → Type 0
Grown = tables.Grown 64

-- number k's byte when the numbers of a set have got another
abbrev pub given : ℕ → ℕ → ℕ → ℕ → ℕ
given numbers = changes.given (member numbers)

-- what is left of number k's byte when the numbers of a set have gone
abbrev pub kept : ℕ → ℕ → ℕ → ℕ
kept gone = changes.kept (member gone)
