-- Going up from one of the 64 numbers, by parents' bytes of any value, until a number is met that is asked for.
use Rattle.std.specs.Prelude.{Bool, List, ℕ}
use Rattle.std.proofs.Math.Option.{Option}
use Rattle.tables.specs.Reach as tables

-- the number that k's holdings wait for: its parent, and nobody where k runs
abbrev pub waits_for : List ℕ → List ℕ → ℕ → Option ℕ
waits_for = tables.waits_for 64

-- going up from k, one of the line is met before any other number that runs, within 64 numbers
abbrev pub held_by : List ℕ → List ℕ → (ℕ → Bool) → ℕ → Bool
held_by = tables.held_by 64

-- each owner is held so
abbrev pub all_held : List ℕ → List ℕ → (ℕ → Bool) → ℕ → Bool
all_held = tables.all_held 64

-- h owns a set: going up from one of its numbers, not past one that runs, one is met that holds for h
abbrev pub owns_set : List ℕ → List ℕ → ℕ → ℕ → Bool
owns_set = tables.owns_set 64

-- going up from k by parents that are known, a is met, k among them, within 64 steps
abbrev pub descends_known : List ℕ → ℕ → ℕ → Bool
descends_known = tables.descends_known 64

-- A set with a, of numbers that lead to a by parents that are known: it has all those below k.
abbrev pub GatheredTo : List ℕ → ℕ → ℕ → ℕ → Type 0
GatheredTo = tables.GatheredTo 64

-- At each place below `up_to`, its number and the numbers met going up from it.
abbrev pub LinesMet : List ℕ → List ℕ → ℕ → Type 0
LinesMet = tables.LinesMet 64
