-- `lines_in` meets its contract. The loop's invariant: at the places passed stand the lines of their numbers.
-- Assumes nothing.
use Prim.Native.Nat.{◌≤◌}
use mathlib.Core.Path.{◌≡◌}
use lib.ListN.{length}
use Rattle.views.specs.Reach.{LinesMet}
use Rattle.tree.proofs.each.lines_in.Given as goal

abbrev pub invariant-loop-k : goal.invariant-loop-k
invariant-loop-k l = (l.k ≤ 64) × (length l.lines ≡ 64) × LinesMet l.parents l.lines l.k
