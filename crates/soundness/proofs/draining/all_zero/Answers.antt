use borrow.Author.Rules.{rules}
use native.Mathlib.Numerals.{add-one}
use Rattle.rules.proofs.Tests.{all_more}
use Rattle.rules.specs.Tests.{all}
use Rattle.tables.proofs.Bytes.{or_ended}
use Rattle.soundness.proofs.draining.all_zero.Goals as goal

pub loop-state-init : goal.loop-state-init
unfolding all
loop-state-init c = search rules

pub loop-state-preserved : goal.loop-state-preserved
loop-state-preserved c = (search rules, rw (add-one, all_more, or_ended, c.loop-state.invariant.1, c.from.ensures))
