use borrow.Author.Rules.{rules}
use lib.ListN.{get_or}
use mathlib.Core.Path.{◌≡◌, ◌∙◌}
use native.Mathlib.Numerals.{add-one}
use native.Mathlib.Omega.{arith}
use Rattle.rules.proofs.Tests.{all_more}
use Rattle.rules.specs.Tests.{all}
use Rattle.tables.proofs.Bytes.{or_ended, permitted_all}
use Rattle.soundness.proofs.parents_stand.Goals as goal

pub loop-k-init : goal.loop-k-init
unfolding all
loop-k-init c = search rules

pub loop-k-preserved : goal.loop-k-preserved
loop-k-preserved c =
    let h = c.requires c.loop-k.k (omega arith) in (
      search rules,
      rw (add-one, all_more, or_ended, c.loop-k.invariant.1, c.from.ensures, c.forbidden-table.ensures (get_or c.args.parents.now c.loop-k.k 0) (omega arith)),
    )

pub returns : goal.returns
returns c =
    let end = c.end_of_children-end in
    let e : c.loop-k.k ≡ end.result = omega arith in
    (rw e at c.loop-k.invariant.1) ∙ permitted_all 64 c.args.parents.now c.args.states.now end.result end.ensures.0 end.ensures.1
