use Rattle.tables.proofs.Taken.{taken_next}
use Rattle.tables.proofs.Cleared.{going_start, going_turn, going_end}
use Rattle.steps.proofs.Clears.{changed_put}
use Rattle.steps.proofs.clear.put_bytes.Goals as goal

pub loop-k-init : goal.loop-k-init
loop-k-init c = rw c.into_iter-k-iterator.ensures.into_iter_gives (going_start 64 c.args.byte c.args.bytes.now c.args.numbers c.ranges.numbers.fits)

pub bounds-bytes-k : goal.bounds-bytes-k
bounds-bytes-k c = (taken_next c.loop-k.invariant.fits c.in-Some.ensures.steps).known

pub loop-k-preserved : goal.loop-k-preserved
loop-k-preserved c =
    going_turn 64 c.args.byte c.args.bytes.now c.args.numbers c.loop-k.bytes c.loop-k.k-iterator.0 c.in-Some.k _ c.loop-k.invariant
    (taken_next c.loop-k.invariant.fits c.in-Some.ensures.steps)

pub returns : goal.returns
returns c =
    changed_put c.args.numbers c.args.byte c.args.bytes.now c.loop-k.bytes
    (going_end 64 c.args.byte c.args.bytes.now c.args.numbers c.loop-k.bytes c.loop-k.k-iterator.0 c.in-None.ensures.steps.0 c.loop-k.invariant)
