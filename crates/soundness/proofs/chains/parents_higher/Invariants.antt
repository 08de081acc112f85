-- `parents_higher` meets its contract. The loop's invariant: `ok` is the test of all numbers passed.
-- Assumes nothing.
use Prim.Native.Nat.{◌≤◌}
use mathlib.Core.Path.{◌≡◌}
use Rattle.rules.specs.Tests.{all}
use Rattle.tables.specs.Climbs.{parent_higher}
use Rattle.soundness.proofs.chains.parents_higher.Given as goal

abbrev pub invariant-loop-k : goal.invariant-loop-k
invariant-loop-k l = (l.k ≤ 64) × (l.ok ≡ all l.k (parent_higher l.parents))
