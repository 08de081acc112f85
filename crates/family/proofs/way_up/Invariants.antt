-- `way_up` meets its contract. The loop's invariant: `x` and what was met are a climb from k. The measure is how far `met` lies below 2 ^ 64, since a
-- number that is met for the first time makes the word larger. Assumes nothing.
use mathlib.Core.Bool.{Bool}
use Prim.Native.Nat.{ℕ, ◌-◌, ◌<◌, ◌^◌}
use Rattle.views.specs.Tree.{known_up}
use Rattle.tables.specs.Reach.{Sorted}
use Rattle.tables.proofs.Sorting.{Climb}
use Rattle.family.proofs.way_up.Given as goal

abbrev pub invariant-loop-met : goal.invariant-loop-met
invariant-loop-met l = (l.x < 64) × (l.met < 2 ^ 64) × ((hit : ℕ → Bool) → Sorted hit (known_up l.parents) l.inside l.outside → Climb hit (known_up l.parents) l.inside l.outside l.k l.met l.x)

abbrev pub decreases-loop-met : goal.decreases-loop-met
decreases-loop-met l = 2 ^ 64 - l.met
