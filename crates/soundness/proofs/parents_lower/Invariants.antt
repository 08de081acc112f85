-- `parents_lower` meets its contract. The loop's invariant: `ok` is the test of all numbers passed.
-- Assumes nothing.
use Prim.Native.Nat.{◌≤◌}
use lib.Dec.{leb}
use lib.ListN.{get_or}
use mathlib.Core.Path.{◌≡◌}
use Rattle.rules.specs.Tests.{all}
use Rattle.soundness.proofs.parents_lower.Given as goal

abbrev pub invariant-loop-k : goal.invariant-loop-k
invariant-loop-k l = (l.k ≤ 64) × (l.ok ≡ all l.k (λ j. leb (get_or l.parents j 0) j))
