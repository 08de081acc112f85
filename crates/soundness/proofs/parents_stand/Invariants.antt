-- `parents_stand` meets its contract. The loop's invariant: `broken` is 0 where no number passed is what its parent forbids; those not passed have no
-- parent. Assumes nothing.
use Prim.Native.Nat.{◌≤◌}
use lib.Dec.{eqb}
use mathlib.Core.Path.{◌≡◌}
use Rattle.rules.specs.Tests.{all}
use Rattle.tables.specs.Soundness.{permitted}
use Rattle.soundness.proofs.parents_stand.Given as goal

abbrev pub invariant-loop-k : goal.invariant-loop-k
invariant-loop-k l = (l.k ≤ l.end) × (eqb l.broken 0 ≡ all l.k (permitted l.parents l.states))
