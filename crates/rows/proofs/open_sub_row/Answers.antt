-- `open_sub_row` meets its contract: each return is the row of the tests that led there. Assumes nothing.
use mathlib.Core.Bool.{true, false}
use borrow.Author.Tests.{le-leb, lt-leb, eq-eqb, ne_eqb}
use lib.ListN.{get_or}
use Rattle.rules.specs.Answers.{row_by}
use Rattle.tables.proofs.States.{free_byte}
use Rattle.tables.proofs.Rows.{open_sub_last}
use Rattle.rows.proofs.open_sub_row.Goals as goal

pub returns-then-n-ge-ACTIONS : goal.returns-then-n-ge-ACTIONS
unfolding row_by
returns-then-n-ge-ACTIONS c = rw (le-leb 64 c.args.n c.if-n-ge-ACTIONS.true)

pub returns-then-p-ge-ACTIONS : goal.returns-then-p-ge-ACTIONS
unfolding row_by
returns-then-p-ge-ACTIONS c =
    rw (lt-leb 64 c.args.n c.if-n-ge-ACTIONS.false, le-leb 64 c.args.p c.if-p-ge-ACTIONS.true)

pub returns-then-states-n-ne-FREE : goal.returns-then-states-n-ne-FREE
unfolding row_by
returns-then-states-n-ne-FREE c =
    let state = get_or c.args.states.now c.args.n 0 in
    rw (lt-leb 64 c.args.n c.if-n-ge-ACTIONS.false, lt-leb 64 c.args.p c.if-p-ge-ACTIONS.false, free_byte 64 state, ne_eqb state 0 c.if-states-n-ne-FREE.true)

pub returns-then-states-p-ne-RUNNING : goal.returns-then-states-p-ne-RUNNING
returns-then-states-p-ne-RUNNING c =
    let args = c.args in
    open_sub_last 64 args.states.now args.n args.p false c.if-n-ge-ACTIONS.false
    c.if-p-ge-ACTIONS.false c.if-states-n-ne-FREE.false (ne_eqb (get_or args.states.now args.p 0) 1 c.if-states-p-ne-RUNNING.true)

pub returns : goal.returns
returns c =
    let args = c.args in
    open_sub_last 64 args.states.now args.n args.p true c.if-n-ge-ACTIONS.false
    c.if-p-ge-ACTIONS.false c.if-states-n-ne-FREE.false (eq-eqb (get_or args.states.now args.p 0) 1 c.if-states-p-ne-RUNNING.false)
