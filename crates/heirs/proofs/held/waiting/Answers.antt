use mathlib.Core.Path.{sym, ◌∙◌}
use Rattle.sets.proofs.Laws.{with_fits}
use Rattle.views.specs.Reach.{waits_for}
use Rattle.tables.proofs.Sorting.{climb_met, climb_falls, climb_found, climb_ends, climb_turn}
use Rattle.tables.proofs.Held.{runs_alone, waits_up}
use Rattle.heirs.proofs.held.waiting.Goals as goal

pub returns-then-member : goal.returns-then-member
returns-then-member c =
    let a = c.args in
    let inv = c.loop-met.invariant in
    λ hit s.
    rw c.with-met.ensures
    (climb_found 64 hit (waits_for a.parents.now a.states.now) a.cleared 0 a.k s c.loop-met.met c.loop-met.x inv.1 inv.0 (inv.2 hit s)
    (sym c.member-in-loop-met.ensures ∙ c.if-member.true))

pub returns-then-states-x-eq-RUNNING : goal.returns-then-states-x-eq-RUNNING
returns-then-states-x-eq-RUNNING c =
    let a = c.args in
    let inv = c.loop-met.invariant in
    λ hit s.
    rw c.with-met.ensures
    (climb_ends 64 hit (waits_for a.parents.now a.states.now) a.cleared 0 a.k s c.loop-met.met c.loop-met.x inv.1 inv.0 (inv.2 hit s)
    (sym c.member-in-loop-met.ensures ∙ c.if-member.false)
    (runs_alone 64 a.parents.now a.states.now c.loop-met.x c.if-states-x-eq-RUNNING.true))

pub loop-met-smaller : goal.loop-met-smaller
loop-met-smaller c =
    let inv = c.loop-met.invariant in
    rw c.with-met.ensures
    (climb_falls 64 c.loop-met.met c.loop-met.x inv.1 inv.0 (sym c.member.ensures ∙ c.loop-met-test.true))

pub returns-in_default : goal.returns-in_default
returns-in_default c =
    let a = c.args in
    let inv = c.loop-met.invariant in
    λ hit s.
    rw c.with-met.ensures
    (climb_ends 64 hit (waits_for a.parents.now a.states.now) a.cleared 0 a.k s c.loop-met.met c.loop-met.x inv.1 inv.0 (inv.2 hit s)
    (sym c.member-in-loop-met.ensures ∙ c.if-member.false)
    (waits_up 64 a.parents.now a.states.now c.loop-met.x c.if-states-x-eq-RUNNING.false ∙ c.in_default.ensures))

pub loop-met-preserved : goal.loop-met-preserved
loop-met-preserved c =
    let a = c.args in
    let inv = c.loop-met.invariant in (
      c.in-Some.ensures.0,
      rw c.with-met.ensures (with_fits 64 c.loop-met.met c.loop-met.x inv.1),
      λ hit s.
          rw c.with-met.ensures
          (climb_turn 64 hit (waits_for a.parents.now a.states.now) a.cleared 0 a.k s c.loop-met.met c.loop-met.x inv.1 inv.0 (inv.2 hit s)
          (sym c.member-in-loop-met.ensures ∙ c.if-member.false)
          _
          (waits_up 64 a.parents.now a.states.now c.loop-met.x c.if-states-x-eq-RUNNING.false ∙ c.in-Some.ensures.1)),
    )

pub returns : goal.returns
returns c =
    let a = c.args in
    let inv = c.loop-met.invariant in
    λ hit s.
    climb_met 64 hit (waits_for a.parents.now a.states.now) a.cleared 0 a.k s c.loop-met.met c.loop-met.x inv.1 inv.0 (inv.2 hit s)
    (sym c.member.ensures ∙ c.loop-met-test.false)
