use mathlib.Core.Path.{◌∙◌}
use Rattle.sets.proofs.Laws.{least_inside}
use Rattle.index.proofs.Families.{gathering_start, gathering_turn, gathering_falls, gathering_end}
use Rattle.index.proofs.kept_family.family_in.Goals as goal

pub loop-rest-init : goal.loop-rest-init
loop-rest-init c =
    let a = c.args in
    gathering_start a.index.now a.a c.with-gone.result c.difference-rest.result c.requires
    c.with-gone.ensures
    (c.difference-rest.ensures ∙ rw c.children.ensures)
    c.difference-rest.type_inv

pub children-requires-in-loop-rest : goal.children-requires-in-loop-rest
children-requires-in-loop-rest c =
    -- the number that a turn takes is of the table
    rw c.least-k.ensures (least_inside 64 c.loop-rest.rest c.loop-rest.invariant.rest_fits c.loop-rest-test.true)

pub loop-rest-smaller : goal.loop-rest-smaller
loop-rest-smaller c =
    let a = c.args in
    gathering_falls a.index.now a.a c.loop-rest.gone c.loop-rest.rest c.loop-rest.invariant
    c.loop-rest-test.true
    c.least-k.result
    c.with-gone-in-loop-rest.result
    c.least-k.ensures
    c.with-gone-in-loop-rest.ensures

pub loop-rest-preserved : goal.loop-rest-preserved
loop-rest-preserved c =
    let a = c.args in
    gathering_turn a.index.now a.a c.loop-rest.gone c.loop-rest.rest c.loop-rest.invariant
    c.loop-rest-test.true
    c.least-k.result
    c.with-gone-in-loop-rest.result
    c.least-k.ensures
    c.with-gone-in-loop-rest.ensures
    c.difference-rest-in-loop-rest.result
    (c.difference-rest-in-loop-rest.ensures ∙ rw (c.union.ensures, c.children-in-loop-rest.ensures))
    c.difference-rest-in-loop-rest.type_inv

pub returns : goal.returns
returns c =
    let a = c.args in
    gathering_end a.index.now a.a c.loop-rest.gone c.loop-rest.rest c.loop-rest.invariant c.loop-rest-test.false
