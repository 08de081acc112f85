use borrow.Author.Rules.{rules}
use borrow.Author.Tests.{eq-eqb, ne_eqb}
use lib.ListN.{get_or}
use Rattle.tables.proofs.Gathering.{taken_none, taken_in, taken_out}
use Rattle.tree.proofs.each.running_in.Invariants.{runs}
use Rattle.tree.proofs.each.running_in.Goals as goal
use Rattle.tree.proofs.each.running_in.Goals.{then-states-k-eq-RUNNING, else-states-k-eq-RUNNING}

pub loop-k-init : goal.loop-k-init
loop-k-init c = (search rules, taken_none (runs c.args.states.now))

pub loop-k-preserved : goal.loop-k-preserved
loop-k-preserved c =
    let states = c.args.states.now in (
      search rules,
      elim c.if-states-k-eq-RUNNING.branch [
        | then-states-k-eq-RUNNING w ↦
            rw (w.running-is, w.with-running.ensures)
            (taken_in 64 (runs states) c.loop-k.running c.loop-k.k c.loop-k-test.true (eq-eqb (get_or states c.loop-k.k 0) 1 w.if-states-k-eq-RUNNING.true)
            c.loop-k.invariant.1)
        | else-states-k-eq-RUNNING w ↦
            rw w.running-is
            (taken_out (runs states) c.loop-k.running c.loop-k.k (ne_eqb (get_or states c.loop-k.k 0) 1 w.if-states-k-eq-RUNNING.false) c.loop-k.invariant.1)
      ],
    )
