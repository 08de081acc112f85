-- `adopting_half` meets its contract. The loop's invariant: a set with all that lead to a among the numbers below `from` has now those among the numbers
-- passed. Assumes nothing.
use Prim.Native.Nat.{ℕ, ◌+◌, ◌≤◌}
use Rattle.views.specs.Reach.{GatheredTo}
use Rattle.family.proofs.adopting_half.Given as goal

abbrev pub invariant-loop-k : goal.invariant-loop-k
invariant-loop-k l = (l.k ≤ l.from + 32) × ((a : ℕ) → GatheredTo l.parents a l.set l.from → GatheredTo l.parents a l.grown l.k)
