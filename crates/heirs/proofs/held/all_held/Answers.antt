use mathlib.Core.Bool.{◌||◌, ◌&&◌, not, and-true}
use mathlib.Core.Path.{◌≡◌, refl, sym, ◌∙◌, ap}
use Prim.Native.Nat.{ℕ}
use Rattle.sets.specs.Sets.{member, union}
use Rattle.sets.proofs.Laws.{member_empty, member_union}
use Rattle.views.specs.Reach.{waits_for}
use Rattle.tables.proofs.Sorting.{sorting_start, sorting_takes, sorting_falls, sorting_in}
use Rattle.tables.proofs.Held.{held_end, held_refused}
use Rattle.heirs.proofs.held.all_held.Goals as goal

-- nobody is outside
joined : (cleared met j : ℕ) → member (union cleared met) j ≡ (member cleared j || (member met j && not (member 0 j)))
joined cleared met j = member_union cleared met j ∙ ap (λ t. member cleared j || t) (rw (member_empty j) (sym (and-true (member met j))))

pub loop-rest-init : goal.loop-rest-init
loop-rest-init c =
    let a = c.args in
    sorting_start 64 (member a.line) (waits_for a.parents.now a.states.now) a.owners a.line c.difference-rest.result (λ j. refl)
    c.difference-rest.type_inv
    c.difference-rest.ensures

pub waiting-met-requires : goal.waiting-met-requires
waiting-met-requires c =
    let a = c.args in
    (sorting_takes 64 (member a.line) (waits_for a.parents.now a.states.now) a.owners c.loop-rest.cleared 0 c.loop-rest.rest c.loop-rest.invariant
    c.loop-rest-test.true
    c.least-k.result
    c.least-k.ensures).known

pub returns-then-not-meet : goal.returns-then-not-meet
returns-then-not-meet c =
    -- what is met from the least owner that is left
    let climbed = c.waiting-met.ensures (member c.args.line) c.loop-rest.invariant.sorted in
    let a = c.args in
    held_refused 64 a.parents.now a.states.now (member a.line) a.owners c.loop-rest.cleared c.loop-rest.rest c.loop-rest.invariant
    c.loop-rest-test.true
    c.least-k.result
    c.least-k.ensures
    c.waiting-met.result
    climbed
    (sym c.meet.ensures ∙ c.if-not-meet.true)

pub loop-rest-smaller : goal.loop-rest-smaller
loop-rest-smaller c =
    -- what is met from the least owner that is left
    let climbed = c.waiting-met.ensures (member c.args.line) c.loop-rest.invariant.sorted in
    let a = c.args in
    sorting_falls 64 (member a.line) (waits_for a.parents.now a.states.now) a.owners c.loop-rest.cleared 0 c.loop-rest.rest c.loop-rest.invariant
    c.loop-rest-test.true
    c.least-k.result
    c.least-k.ensures
    c.waiting-met.result
    climbed
    c.difference-rest-in-loop-rest.result
    c.difference-rest-in-loop-rest.ensures
    c.difference-rest-in-loop-rest.type_inv

pub loop-rest-preserved : goal.loop-rest-preserved
loop-rest-preserved c =
    -- what is met from the least owner that is left
    let climbed = c.waiting-met.ensures (member c.args.line) c.loop-rest.invariant.sorted in
    let a = c.args in
    sorting_in 64 (member a.line) (waits_for a.parents.now a.states.now) a.owners c.loop-rest.cleared 0 c.loop-rest.rest c.loop-rest.invariant
    c.loop-rest-test.true
    c.least-k.result
    c.least-k.ensures
    c.waiting-met.result
    climbed
    c.difference-rest-in-loop-rest.result
    c.difference-rest-in-loop-rest.ensures
    c.difference-rest-in-loop-rest.type_inv
    (sym c.meet.ensures ∙ c.if-not-meet.false)
    c.union-cleared.result
    (λ j. rw c.union-cleared.ensures (joined c.loop-rest.cleared c.waiting-met.result j))

pub returns : goal.returns
returns c =
    let a = c.args in
    held_end 64 a.parents.now a.states.now (member a.line) a.owners c.loop-rest.cleared c.loop-rest.rest c.loop-rest.invariant c.loop-rest-test.false
