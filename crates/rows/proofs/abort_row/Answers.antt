-- `abort_row` meets its contract: each return is the row of the tests that led there. Assumes nothing.
use borrow.Author.Tests.{le-leb, lt-leb, eq-eqb, ne_eqb}
use lib.ListN.{get_or}
use Rattle.rules.specs.Answers.{row_by}
use Rattle.tables.proofs.States.{running_byte}
use Rattle.rows.proofs.abort_row.Goals as goal

pub returns-then-a-ge-ACTIONS : goal.returns-then-a-ge-ACTIONS
unfolding row_by
returns-then-a-ge-ACTIONS c = rw (le-leb 64 c.args.a c.if-a-ge-ACTIONS.true)

pub returns-then-states-a-ne-RUNNING : goal.returns-then-states-a-ne-RUNNING
unfolding row_by
returns-then-states-a-ne-RUNNING c =
    let state = get_or c.args.states.now c.args.a 0 in
    rw (lt-leb 64 c.args.a c.if-a-ge-ACTIONS.false, running_byte 64 state, ne_eqb state 1 c.if-states-a-ne-RUNNING.true)

pub returns : goal.returns
unfolding row_by
returns c =
    let state = get_or c.args.states.now c.args.a 0 in
    rw (lt-leb 64 c.args.a c.if-a-ge-ACTIONS.false, running_byte 64 state, eq-eqb state 1 c.if-states-a-ne-RUNNING.false)
