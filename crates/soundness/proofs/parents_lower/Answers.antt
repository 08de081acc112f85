use borrow.Author.Rules.{rules}
use native.Mathlib.Numerals.{add-one}
use Rattle.rules.proofs.Tests.{all_more}
use Rattle.rules.specs.Tests.{all}
use Rattle.soundness.proofs.parents_lower.Goals as goal

pub loop-k-init : goal.loop-k-init
unfolding all
loop-k-init c = search rules

pub loop-k-preserved : goal.loop-k-preserved
loop-k-preserved c = (search rules, rw (add-one, all_more, c.from.ensures, c.loop-k.invariant.1))
