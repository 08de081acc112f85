use native.Mathlib.Omega.{arith}
use Rattle.tables.proofs.Owning.{owning_start, owning_takes, owning_falls, owning_turn, owning_end}
use mathlib.Core.Path.{◌≡◌, refl, sym}
use Rattle.sets.specs.Sets.{with}
use Rattle.sets.proofs.Laws.{with_outside}
use Rattle.rules.specs.Tests.{from}
use Rattle.views.specs.Reach.{waits_for}
use Rattle.heirs.proofs.owners.owners_of.Goals as goal
use Rattle.heirs.proofs.owners.owners_of.Goals.{in-Some, in_default}

pub loop-rest-init : goal.loop-rest-init
loop-rest-init c = owning_start 64 c.args.parents.now c.args.states.now c.args.set c.ranges.set.fits (omega arith)

pub holder-requires : goal.holder-requires
holder-requires c =
    let a = c.args in
    (owning_takes 64 a.parents.now a.states.now a.set c.loop-rest.owners c.loop-rest.passed c.loop-rest.rest c.loop-rest.invariant c.loop-rest-test.true
    c.least-k.result c.least-k.ensures).0

pub waits_for-requires : goal.waits_for-requires
waits_for-requires c = holder-requires c.before.before

pub loop-rest-smaller : goal.loop-rest-smaller
loop-rest-smaller c =
    let a = c.args in
    rw c.with-passed.ensures
    (owning_falls 64 a.parents.now a.states.now a.set c.loop-rest.owners c.loop-rest.passed c.loop-rest.rest c.loop-rest.invariant c.loop-rest-test.true
    c.least-k.result c.least-k.ensures)

pub loop-rest-preserved : goal.loop-rest-preserved
loop-rest-preserved c =
    let a = c.args in
    let up = waits_for a.parents.now a.states.now c.least-k.result in
    -- what is left with the number that it waits for
    let joined : c.match-waits_for.rest ≡ with 64 c.loop-rest.rest (from up 64 (λ p. p)) = elim c.match-waits_for.branch [
      | in-Some w ↦ rw (w.rest-is, w.with-rest.ensures, w.in-Some.ensures.1)
      | in_default w ↦ rw (w.rest-is, w.in_default.ensures) (sym (with_outside 64 c.loop-rest.rest 64 (omega arith)))
    ] in
    rw (c.difference-rest.ensures, joined, c.with-owners.ensures, c.with-passed.ensures)
    (owning_turn 64 a.parents.now a.states.now a.set c.loop-rest.owners c.loop-rest.passed c.loop-rest.rest c.loop-rest.invariant c.loop-rest-test.true
    c.least-k.result c.least-k.ensures c.holder.result (from up 64 (λ p. p)) c.holder.ensures refl)

pub returns : goal.returns
returns c =
    let a = c.args in
    owning_end 64 a.parents.now a.states.now a.set c.loop-rest.owners c.loop-rest.passed c.loop-rest.rest c.loop-rest.invariant c.loop-rest-test.false
