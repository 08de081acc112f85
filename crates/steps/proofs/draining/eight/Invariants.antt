-- `eight` meets its contract. The loop's invariant: of the last numbers of the eight, the set has those with the byte.
-- Assumes nothing.
use Prim.Native.Nat.{ℕ, ◌≤◌, ◌+◌, ◌-◌}
use mathlib.Core.Bool.{Bool}
use mathlib.Core.List.{List}
use lib.Dec.{eqb}
use lib.ListN.{get_or}
use Rattle.steps.proofs.Gathered.{Moved}
use Rattle.steps.proofs.draining.eight.Given as goal

-- number k has the byte
abbrev pub has : List ℕ → ℕ → ℕ → Bool
has states byte k = eqb (get_or states k 0) byte

abbrev pub invariant-loop-k : goal.invariant-loop-k
invariant-loop-k l = (l.k ≤ 8) × Moved (has l.states l.byte) (l.first + 8 - l.k) l.k l.part
