-- The tree of 64 actions: what parents' bytes say, and parents with states.
use Rattle.std.specs.Prelude.{Bool, List, ℕ, leb, if◌then◌else◌}
use Rattle.std.proofs.Math.Option.{Option, none}
use Rattle.tables.specs.Table.{parent_of}
use Rattle.tables.specs.Tree as tables

-- These parents and states are those of a sound bench.
abbrev pub SoundTree : List ℕ → List ℕ → Type 0
SoundTree = tables.SoundTree 64

-- These parents are those of a sound bench.
abbrev pub SoundParents : List ℕ → Type 0
SoundParents = tables.SoundParents 64

-- k is the asker or one of its ancestors
abbrev pub in_line : List ℕ → ℕ → ℕ → Bool
in_line = tables.in_line 64

-- k is a or one of its descendants
abbrev pub descends : List ℕ → ℕ → ℕ → Bool
descends = tables.descends 64

-- the number that a parent's byte names, where it names one of the 64 numbers
abbrev pub named : ℕ → Option ℕ
named byte = if leb byte 64 then parent_of byte else none

-- the parent of k where its byte names one of the 64 numbers
abbrev pub known_up : List ℕ → ℕ → Option ℕ
known_up = tables.known_up 64

-- k is a, or is met going up from it by parents that name one of the 64 numbers, within 64 steps
abbrev pub met_from : List ℕ → ℕ → ℕ → Bool
met_from = tables.met_from 64

-- the nearest running one among k and what is met going up from it by such parents, within 64 numbers
abbrev pub nearest_from : List ℕ → List ℕ → ℕ → Option ℕ
nearest_from = tables.nearest_from 64
