use borrow.Author.Rules.{rules}
use Rattle.tables.proofs.Taken.{taken_next}
use Rattle.tables.proofs.Told.{marking_none, marking_more, marking_all}
use Rattle.soundness.proofs.draining.missing.Goals as goal

pub loop-k-init : goal.loop-k-init
loop-k-init c = rw c.into_iter-k-iterator.ensures.into_iter_gives (search rules, marking_none 64 67 c.args.states.now c.args.numbers)

pub bounds-states-k : goal.bounds-states-k
bounds-states-k c = (taken_next c.loop-k.invariant.0 c.in-Some.ensures.steps).known

pub loop-k-preserved : goal.loop-k-preserved
loop-k-preserved c =
    let take = taken_next c.loop-k.invariant.0 c.in-Some.ensures.steps in
    rw c.from.ensures (
      take.fits,
      marking_more 64 67 c.args.states.now c.args.numbers c.loop-k.k-iterator.0 c.in-Some.k _ c.loop-k.table take
          (c.requires c.in-Some.k take.known) c.loop-k.invariant.1,
    )

pub returns : goal.returns
returns c =
    marking_all 64 67 c.args.states.now c.args.numbers c.loop-k.table (rw c.in-None.ensures.steps.0 at c.loop-k.invariant.1)
