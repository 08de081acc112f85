-- `none_free` meets its contract. The loop's invariant: the test of the numbers that are left is the test of all of them, since those taken out pass it.
-- The measure is the set of those left, which falls with each number taken out. Assumes nothing.
use Prim.Native.Nat.{◌<◌, ◌^◌}
use mathlib.Core.Path.{◌≡◌}
use Rattle.tables.specs.Owners.{of_members}
use Rattle.tables.specs.Tree.{in_use}
use Rattle.soundness.proofs.draining.none_free.Given as goal

abbrev pub invariant-loop-rest : goal.invariant-loop-rest
invariant-loop-rest l = (l.rest < 2 ^ 64) × (of_members 64 l.rest (in_use l.states) ≡ of_members 64 l.numbers (in_use l.states))

abbrev pub decreases-loop-rest : goal.decreases-loop-rest
decreases-loop-rest l = l.rest
