-- `all_zero` meets its contract. The loop's invariant: `broken` is 0 where the table has 0 for the bytes of all numbers passed. Assumes nothing.
use Prim.Native.Nat.{◌≤◌}
use lib.Dec.{eqb}
use lib.ListN.{get_or}
use mathlib.Core.Path.{◌≡◌}
use Rattle.rules.specs.Tests.{all}
use Rattle.soundness.proofs.draining.all_zero.Given as goal

abbrev pub invariant-loop-state : goal.invariant-loop-state
invariant-loop-state l = (l.state-index ≤ 64) × (eqb l.broken 0 ≡ all l.state-index (λ j. eqb (get_or l.table (get_or l.states j 0) 0) 0))
