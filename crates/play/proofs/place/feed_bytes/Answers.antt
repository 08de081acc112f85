use native.Mathlib.Omega.{arith}
use Rattle.lines.proofs.FeedLaws.{left_none, left_more, left_room, left_all}
use Rattle.play.proofs.place.feed_bytes.Goals as goal

pub loop-place-init : goal.loop-place-init
loop-place-init g c =
    (rw (c.requires.1, c.requires.2) (left_none c.requires.3), c.requires.0)

pub feed_next-place-requires : goal.feed_next-place-requires
feed_next-place-requires g c =
    let inside = c.loop-place-test.true in
    (c.loop-place.invariant.1, c.values-values.ensures, record { more = inside; room = left_room inside c.loop-place.invariant.0 })

pub loop-place-smaller : goal.loop-place-smaller
loop-place-smaller g c =
    let turn = c.feed_next-place.ensures.on in
    let moved = turn.moved in
    let within = turn.within in
    omega arith

pub loop-place-preserved : goal.loop-place-preserved
loop-place-preserved g c =
    let turn = c.feed_next-place.ensures in
    (left_more g.met.T.Telling.short c.loop-place.invariant.0 turn.on, turn.known)

pub shape_of-out : goal.shape_of-out
shape_of-out g c = c.loop-place.invariant.0.long

pub returns : goal.returns
returns g c =
    let inv = c.loop-place.invariant in
    (left_all c.loop-place-test.false inv.0, inv.1.owners_long)
