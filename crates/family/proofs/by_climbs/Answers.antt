use mathlib.Core.Path.{sym, ◌∙◌}
use Prim.Native.Nat.{◌-◌, ◌<◌, ◌^◌}
use lib.Dec.{eqb}
use Rattle.sets.proofs.Laws.{member_empty, member_with, member_union, member_difference}
use Rattle.views.specs.Tree.{known_up}
use Rattle.tables.proofs.Sorting.{sorting_start, sorting_takes, sorting_falls, sorting_in, sorting_out}
use Rattle.tables.proofs.Descendants.{gathered_sorted, member_ones}
use Rattle.family.proofs.by_climbs.Goals as goal

pub loop-rest-init : goal.loop-rest-init
loop-rest-init c =
    let a = c.args.a in
    sorting_start 64 (λ j. eqb j a) (known_up c.args.parents.now) (2 ^ 64 - 1) c.with-inside.result c.difference-rest.result
    (λ j. rw (c.with-inside.ensures, member_with 64 0 a j c.requires, member_empty j))
    c.difference-rest.type_inv
    c.difference-rest.ensures

pub way_up-met-requires : goal.way_up-met-requires
way_up-met-requires c =
    (sorting_takes 64 (λ j. eqb j c.args.a) (known_up c.args.parents.now) (2 ^ 64 - 1) c.loop-rest.inside c.loop-rest.outside c.loop-rest.rest c.loop-rest.invariant
    c.loop-rest-test.true
    c.least-k.result
    c.least-k.ensures).known

pub loop-rest-smaller-then-meet : goal.loop-rest-smaller-then-meet
loop-rest-smaller-then-meet c =
    -- what is met from the least number that is left
    let climbed = c.way_up-met.ensures (λ j. eqb j c.args.a) c.loop-rest.invariant.sorted in
    -- what is left
    let falls : c.difference-rest-in-loop-rest.result < c.loop-rest.rest = let args = c.args in
    sorting_falls 64 (λ j. eqb j args.a) (known_up args.parents.now) (2 ^ 64 - 1) c.loop-rest.inside c.loop-rest.outside c.loop-rest.rest c.loop-rest.invariant
    c.loop-rest-test.true
    c.least-k.result
    c.least-k.ensures
    c.way_up-met.result
    climbed
    c.difference-rest-in-loop-rest.result
    c.difference-rest-in-loop-rest.ensures
    c.difference-rest-in-loop-rest.type_inv in
    falls

pub loop-rest-preserved-then-meet : goal.loop-rest-preserved-then-meet
loop-rest-preserved-then-meet c =
    -- what is met from the least number that is left
    let climbed = c.way_up-met.ensures (λ j. eqb j c.args.a) c.loop-rest.invariant.sorted in
    let args = c.args in
    sorting_in 64 (λ j. eqb j args.a) (known_up args.parents.now) (2 ^ 64 - 1) c.loop-rest.inside c.loop-rest.outside c.loop-rest.rest c.loop-rest.invariant
    c.loop-rest-test.true
    c.least-k.result
    c.least-k.ensures
    c.way_up-met.result
    climbed
    c.difference-rest-in-loop-rest.result
    c.difference-rest-in-loop-rest.ensures
    c.difference-rest-in-loop-rest.type_inv
    (sym c.meet.ensures ∙ c.if-meet.true)
    c.union-inside.result
    (λ j. rw (c.union-inside.ensures, c.difference.ensures, member_union, member_difference))

pub loop-rest-smaller : goal.loop-rest-smaller
loop-rest-smaller c =
    -- what is met from the least number that is left
    let climbed = c.way_up-met.ensures (λ j. eqb j c.args.a) c.loop-rest.invariant.sorted in
    -- what is left
    let falls : c.difference-rest-in-loop-rest.result < c.loop-rest.rest = let args = c.args in
    sorting_falls 64 (λ j. eqb j args.a) (known_up args.parents.now) (2 ^ 64 - 1) c.loop-rest.inside c.loop-rest.outside c.loop-rest.rest c.loop-rest.invariant
    c.loop-rest-test.true
    c.least-k.result
    c.least-k.ensures
    c.way_up-met.result
    climbed
    c.difference-rest-in-loop-rest.result
    c.difference-rest-in-loop-rest.ensures
    c.difference-rest-in-loop-rest.type_inv in
    falls

pub loop-rest-preserved : goal.loop-rest-preserved
loop-rest-preserved c =
    -- what is met from the least number that is left
    let climbed = c.way_up-met.ensures (λ j. eqb j c.args.a) c.loop-rest.invariant.sorted in
    let args = c.args in
    sorting_out 64 (λ j. eqb j args.a) (known_up args.parents.now) (2 ^ 64 - 1) c.loop-rest.inside c.loop-rest.outside c.loop-rest.rest c.loop-rest.invariant
    c.loop-rest-test.true
    c.least-k.result
    c.least-k.ensures
    c.way_up-met.result
    climbed
    c.difference-rest-in-loop-rest.result
    c.difference-rest-in-loop-rest.ensures
    c.difference-rest-in-loop-rest.type_inv
    (sym c.meet.ensures ∙ c.if-meet.false)

pub returns : goal.returns
returns c =
    let args = c.args in
    gathered_sorted 64 args.parents.now args.a (2 ^ 64 - 1) c.loop-rest.inside c.loop-rest.outside c.loop-rest.rest c.loop-rest.invariant (member_ones 64) c.loop-rest-test.false
