-- `open_top_row` meets its contract: each return is the row of the tests that led there. Assumes nothing.
use borrow.Author.Tests.{le-leb, lt-leb, eq-eqb, ne_eqb}
use lib.ListN.{get_or}
use Rattle.rules.specs.Answers.{row_by}
use Rattle.tables.proofs.States.{free_byte}
use Rattle.rows.proofs.open_top_row.Goals as goal

pub returns-then-n-ge-ACTIONS : goal.returns-then-n-ge-ACTIONS
unfolding row_by
returns-then-n-ge-ACTIONS c = rw (le-leb 64 c.args.n c.if-n-ge-ACTIONS.true)

pub returns-then-states-n-ne-FREE : goal.returns-then-states-n-ne-FREE
unfolding row_by
returns-then-states-n-ne-FREE c =
    let state = get_or c.args.states.now c.args.n 0 in
    rw (lt-leb 64 c.args.n c.if-n-ge-ACTIONS.false, free_byte 64 state, ne_eqb state 0 c.if-states-n-ne-FREE.true)

pub returns : goal.returns
unfolding row_by
returns c =
    let state = get_or c.args.states.now c.args.n 0 in
    rw (lt-leb 64 c.args.n c.if-n-ge-ACTIONS.false, free_byte 64 state, eq-eqb state 0 c.if-states-n-ne-FREE.false)
