use borrow.Author.Rules.{rules}
use borrow.Author.Tests.{ne_eqb}
use lib.ListN.{get_or}
use mathlib.Core.Bool.{not}
use mathlib.Core.Path.{refl, sym, ◌∙◌, ap}
use Rattle.tables.proofs.Members.{of_nobody, of_one_refused, of_one_passed}
use Rattle.tables.proofs.Taken.{taken_least}
use Rattle.tables.specs.Tree.{in_use}
use Rattle.soundness.proofs.draining.none_free.Goals as goal

pub loop-rest-init : goal.loop-rest-init
loop-rest-init c = (search rules, refl)

pub bounds-states-k : goal.bounds-states-k
bounds-states-k c =
    -- the number that a turn takes
    let take = taken_least 64 c.loop-rest.rest c.least-k.result c.least-k.ensures c.loop-rest.invariant.0 c.loop-rest-test.true in
    take.known

pub returns-then-states-k-eq-FREE : goal.returns-then-states-k-eq-FREE
returns-then-states-k-eq-FREE c =
    -- the number that a turn takes
    let take = taken_least 64 c.loop-rest.rest c.least-k.result c.least-k.ensures c.loop-rest.invariant.0 c.loop-rest-test.true in
    sym (sym c.loop-rest.invariant.1
    ∙ of_one_refused 64 c.loop-rest.rest c.least-k.result _ (in_use c.args.states.now) take (rw c.if-states-k-eq-FREE.true))

pub loop-rest-smaller : goal.loop-rest-smaller
loop-rest-smaller c =
    -- the number that a turn takes
    let take = taken_least 64 c.loop-rest.rest c.least-k.result c.least-k.ensures c.loop-rest.invariant.0 c.loop-rest-test.true in
    rw c.without_least-rest.ensures take.falls

pub loop-rest-preserved : goal.loop-rest-preserved
loop-rest-preserved c =
    -- the number that a turn takes
    let take = taken_least 64 c.loop-rest.rest c.least-k.result c.least-k.ensures c.loop-rest.invariant.0 c.loop-rest-test.true in
    let states = c.args.states.now in
    rw c.without_least-rest.ensures (
      take.fits,
      of_one_passed 64 c.loop-rest.rest c.least-k.result _ (in_use states) take (ap not (ne_eqb (get_or states c.least-k.result 0) 0 c.if-states-k-eq-FREE.false))
          ∙ c.loop-rest.invariant.1,
    )

pub returns : goal.returns
returns c =
    sym (of_nobody 64 (in_use c.args.states.now)) ∙ (rw c.loop-rest-test.false at c.loop-rest.invariant.1)
