use borrow.Author.Rules.{rules}
use Rattle.tables.proofs.Told.{heading_none, heading_more}
use Rattle.soundness.proofs.draining.misfits.Goals as goal

pub loop-h-init : goal.loop-h-init
loop-h-init c = (search rules, heading_none 64 c.args.states.now c.args.missing.now)

pub loop-h-preserved : goal.loop-h-preserved
loop-h-preserved c = (
  search rules,
  rw c.from.ensures
      (heading_more 64 c.args.states.now c.args.missing.now c.loop-h.h c.loop-h.table c.loop-h-test.true c.loop-h.invariant.1),
)
