use mathlib.Core.Path.{sym, ◌∙◌}
use Rattle.sets.proofs.Laws.{with_fits}
use Rattle.views.specs.Tree.{known_up}
use Rattle.tables.proofs.Sorting.{climb_met, climb_falls, climb_found, climb_ends, climb_turn}
use Rattle.family.proofs.way_up.Goals as goal

pub returns-then-member : goal.returns-then-member
returns-then-member c =
    let a = c.args in
    let inv = c.loop-met.invariant in
    λ hit s.
    rw c.with-met.ensures
    (climb_found 64 hit (known_up a.parents.now) a.inside a.outside a.k s c.loop-met.met c.loop-met.x inv.1 inv.0 (inv.2 hit s)
    (sym c.member-in-loop-met.ensures ∙ c.if-member.true))

pub loop-met-smaller : goal.loop-met-smaller
loop-met-smaller c =
    let inv = c.loop-met.invariant in
    rw c.with-met.ensures
    (climb_falls 64 c.loop-met.met c.loop-met.x inv.1 inv.0 (sym c.member.ensures ∙ c.loop-met-test.true))

pub returns-in_default : goal.returns-in_default
returns-in_default c =
    let a = c.args in
    let inv = c.loop-met.invariant in
    λ hit s.
    rw c.with-met.ensures
    (climb_ends 64 hit (known_up a.parents.now) a.inside a.outside a.k s c.loop-met.met c.loop-met.x inv.1 inv.0 (inv.2 hit s)
    (sym c.member-in-loop-met.ensures ∙ c.if-member.false)
    c.in_default.ensures)

pub loop-met-preserved : goal.loop-met-preserved
loop-met-preserved c =
    let a = c.args in
    let inv = c.loop-met.invariant in (
      c.in-Some.ensures.0,
      rw c.with-met.ensures (with_fits 64 c.loop-met.met c.loop-met.x inv.1),
      λ hit s.
          rw c.with-met.ensures
          (climb_turn 64 hit (known_up a.parents.now) a.inside a.outside a.k s c.loop-met.met c.loop-met.x inv.1 inv.0 (inv.2 hit s)
          (sym c.member-in-loop-met.ensures ∙ c.if-member.false)
          _
          c.in-Some.ensures.1),
    )

pub returns : goal.returns
returns c =
    let a = c.args in
    let inv = c.loop-met.invariant in
    λ hit s.
    climb_met 64 hit (known_up a.parents.now) a.inside a.outside a.k s c.loop-met.met c.loop-met.x inv.1 inv.0 (inv.2 hit s)
    (sym c.member.ensures ∙ c.loop-met-test.false)
