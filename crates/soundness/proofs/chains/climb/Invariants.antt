-- `climb` meets its contract. The loop's invariant: the numbers taken lead to where the climb has come. The measure is the set that is left, which
-- falls with each number taken. Assumes nothing.
use Prim.Native.Nat.{◌<◌, ◌≤◌}
use Rattle.tables.specs.Table.{parent_of}
use Rattle.tables.specs.Tree.{up_of}
use Rattle.tables.proofs.Climbs.{Climbing}
use Rattle.soundness.proofs.chains.climb.Given as goal

abbrev pub invariant-loop-up : goal.invariant-loop-up
invariant-loop-up l = (l.up ≤ 64) × (l.left < l.rest) × Climbing 64 (up_of l.parents) l.rest l.left (parent_of l.up)

abbrev pub decreases-loop-up : goal.decreases-loop-up
decreases-loop-up l = l.left
