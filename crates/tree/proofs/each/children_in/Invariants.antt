-- `children_in` meets its contract. The loop's invariant: at the place of each number stand those of its children that were passed. Assumes nothing.
use Prim.Native.Nat.{◌≤◌}
use Rattle.tables.proofs.Gathering.{ChildrenTo}
use Rattle.tree.proofs.each.children_in.Given as goal

abbrev pub invariant-loop-k : goal.invariant-loop-k
invariant-loop-k l = (l.k ≤ 64) × ChildrenTo 64 l.parents l.children l.k
