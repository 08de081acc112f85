-- `running_in` meets its contract. The loop's invariant: of the numbers passed, the set has those that run.
-- Assumes nothing.
use Prim.Native.Nat.{ℕ, ◌≤◌}
use mathlib.Core.Bool.{Bool}
use mathlib.Core.List.{List}
use lib.Dec.{eqb}
use lib.ListN.{get_or}
use Rattle.tables.proofs.Gathering.{TakenTo}
use Rattle.tree.proofs.each.running_in.Given as goal

-- number k runs
abbrev pub runs : List ℕ → ℕ → Bool
runs states k = eqb (get_or states k 0) 1

abbrev pub invariant-loop-k : goal.invariant-loop-k
invariant-loop-k l = (l.k ≤ 64) × TakenTo (runs l.states) l.running l.k
