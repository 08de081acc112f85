-- `all_held` meets its contract. The loop's invariant: the owners that are not left are cleared, and what is cleared leads to the line. The measure is the
-- set that is left. Assumes nothing.
use Rattle.sets.specs.Sets.{member}
use Rattle.views.specs.Reach.{waits_for}
use Rattle.tables.proofs.Sorting.{Sorting}
use Rattle.heirs.proofs.held.all_held.Given as goal

abbrev pub invariant-loop-rest : goal.invariant-loop-rest
invariant-loop-rest l = Sorting 64 (member l.line) (waits_for l.parents l.states) l.owners l.cleared 0 l.rest

abbrev pub decreases-loop-rest : goal.decreases-loop-rest
decreases-loop-rest l = l.rest
