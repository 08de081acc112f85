use mathlib.Core.Path.{◌≡◌, ◌∙◌}
use native.Mathlib.Numerals.{add-one}
use native.Mathlib.Omega.{arith}
use Rattle.trials.specs.Sums.{after_steps}
use Rattle.trials.proofs.Steps.{steps_more}
use borrow.Author.Rules.{rules}
use Rattle.trials.proofs.sums.folded_record.Goals as goal

pub loop-n-init : goal.loop-n-init
unfolding after_steps
loop-n-init c = search rules

pub loop-n-preserved : goal.loop-n-preserved
loop-n-preserved c =
    (search rules, c.folded_number-sum.ensures ∙ rw (add-one, steps_more, c.loop-n.invariant.1))

pub loop-i-init : goal.loop-i-init
unfolding after_steps
loop-i-init c =
    (search rules, let e : c.loop-n.n ≡ 64 = omega arith in rw e at c.loop-n.invariant.1)

pub loop-i-preserved : goal.loop-i-preserved
loop-i-preserved c =
    (search rules, c.folded_sets-sum.ensures ∙ rw (add-one, steps_more c.loop-i.i, c.loop-i.invariant.1))

pub returns : goal.returns
returns c = let e : c.loop-i.i ≡ 128 = omega arith in rw e at c.loop-i.invariant.1
