use mathlib.Core.Path.{◌∙◌}
use borrow.Author.Rules.{rules}
use Rattle.tables.proofs.Taken.{taken_next}
use Rattle.index.proofs.Walks.{joining_start, joining_turn, joining_end}
use Rattle.index.proofs.places.places_of.Goals as goal

pub loop-k-init : goal.loop-k-init
loop-k-init c = rw c.into_iter-k-iterator.ensures.into_iter_gives (joining_start c.args.index.now c.args.numbers c.ranges.numbers.fits)

pub places-requires : goal.places-requires
places-requires c = (taken_next c.loop-k.invariant.rest_fits c.in-Some.ensures.steps).known

pub loop-k-preserved : goal.loop-k-preserved
loop-k-preserved c =
    joining_turn c.args.index.now c.args.numbers c.loop-k.places c.loop-k.k-iterator.0 c.in-Some.k _ c.union-places.result c.loop-k.invariant
    (taken_next c.loop-k.invariant.rest_fits c.in-Some.ensures.steps) (search (rules, c.union-places.type_inv)) (c.union-places.ensures ∙ rw c.places.ensures)

pub returns : goal.returns
returns c =
    joining_end c.args.index.now c.args.numbers c.loop-k.places c.loop-k.k-iterator.0 c.loop-k.invariant c.in-None.ensures.steps.0
