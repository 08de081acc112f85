use mathlib.Core.Path.{refl, ◌∙◌, sym}
use Rattle.tables.proofs.Taken.{taken_least}
use Rattle.index.proofs.Walks.{still_turn, still_none, still_hit}
use Rattle.index.proofs.places.still_in.Goals as goal

pub loop-rest-init : goal.loop-rest-init
loop-rest-init c = (c.ranges.places.fits, refl)

pub stand_in_place-requires : goal.stand_in_place-requires
stand_in_place-requires c =
    -- the place that a turn takes
    let take = taken_least 64 c.loop-rest.rest c.least-first.result c.least-first.ensures c.loop-rest.invariant.0 c.loop-rest-test.true in
    take.known

pub returns-then-stand_in_place : goal.returns-then-stand_in_place
returns-then-stand_in_place c =
    still_hit c.args.owners.now c.args.numbers c.loop-rest.rest c.loop-rest.invariant.0 c.loop-rest-test.true
    (rw (← c.least-first.ensures, ← c.stand_in_place.ensures) c.if-stand_in_place.true)
    ∙ c.loop-rest.invariant.1

pub loop-rest-smaller : goal.loop-rest-smaller
loop-rest-smaller c =
    -- the place that a turn takes
    let take = taken_least 64 c.loop-rest.rest c.least-first.result c.least-first.ensures c.loop-rest.invariant.0 c.loop-rest-test.true in
    rw c.without_least-rest.ensures take.falls

pub loop-rest-preserved : goal.loop-rest-preserved
loop-rest-preserved c =
    -- the place that a turn takes
    let take = taken_least 64 c.loop-rest.rest c.least-first.result c.least-first.ensures c.loop-rest.invariant.0 c.loop-rest-test.true in
    rw c.without_least-rest.ensures (
      take.fits,
      still_turn c.args.owners.now c.args.numbers c.loop-rest.rest c.least-first.result _ take c.least-first.ensures
          (sym c.stand_in_place.ensures ∙ c.if-stand_in_place.false)
          ∙ c.loop-rest.invariant.1,
    )

pub returns : goal.returns
returns c =
    still_none c.args.owners.now c.args.numbers c.loop-rest.rest c.loop-rest-test.false ∙ c.loop-rest.invariant.1
