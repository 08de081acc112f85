-- `chains_end` meets its contract. The loop's invariant: the chains of the numbers that aren't left end. The measure is the set of those left, which falls
-- with each climb that ends. Assumes nothing.
use Rattle.views.specs.Soundness.{EndOutside}
use Rattle.soundness.proofs.chains.chains_end.Given as goal

abbrev pub invariant-loop-rest : goal.invariant-loop-rest
invariant-loop-rest l = EndOutside l.parents l.rest

abbrev pub decreases-loop-rest : goal.decreases-loop-rest
decreases-loop-rest l = l.rest
