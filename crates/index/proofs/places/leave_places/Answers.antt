use mathlib.Core.Path.{refl, ◌∙◌}
use borrow.Author.Tests.{eq-eqb, ne_eqb}
use Rattle.tables.proofs.Taken.{taken_next}
use Rattle.index.proofs.Leaving.{left_nowhere, left_turn}
use Rattle.index.proofs.places.leave_places.Goals as goal

pub returns-then-places-eq-UNKNOWN : goal.returns-then-places-eq-UNKNOWN
returns-then-places-eq-UNKNOWN c = rw (eq-eqb _ _ c.if-places-eq-UNKNOWN.true, c.clear_words.ensures)

pub loop-place-init : goal.loop-place-init
loop-place-init c = rw c.into_iter-place-iterator.ensures.into_iter_gives (c.ranges.places.fits, refl)

pub leave_place-requires : goal.leave_place-requires
leave_place-requires c = (taken_next c.loop-place.invariant.0 c.in-Some.ensures.steps).known

pub loop-place-preserved : goal.loop-place-preserved
loop-place-preserved c =
    let take = taken_next c.loop-place.invariant.0 c.in-Some.ensures.steps in
    rw c.leave_place.ensures (
      take.fits,
      left_turn c.in-Some.place c.args.gone c.loop-place.owners take.known c.loop-place.place-iterator.0 _ take ∙ c.loop-place.invariant.1,
    )

pub returns : goal.returns
returns c =
    rw (ne_eqb _ _ c.if-places-eq-UNKNOWN.false)
    (left_nowhere c.args.gone c.loop-place.owners c.loop-place.place-iterator.0 c.in-None.ensures.steps.0 ∙ c.loop-place.invariant.1)
