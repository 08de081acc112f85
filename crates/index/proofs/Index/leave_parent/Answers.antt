-- `leave_parent` meets its contract: a byte that names no parent leaves the children as they were. Assumes nothing.
use Rattle.tables.proofs.Gathering.{names_known}
use borrow.Author.Rules.{rules}
use Rattle.index.proofs.Index.leave_parent.Goals as goal

pub overflow_sub-up : goal.overflow_sub-up
overflow_sub-up c =
    let known = names_known 64 c.args.up c.if-up.true in search rules

pub children-requires : goal.children-requires
children-requires c =
    let known = names_known 64 c.args.up c.if-up.true in search rules

pub overflow_sub-up-then-up : goal.overflow_sub-up-then-up
overflow_sub-up-then-up c =
    let known = names_known 64 c.args.up c.if-up.true in search rules

pub put_children-requires : goal.put_children-requires
put_children-requires c =
    let known = names_known 64 c.args.up c.if-up.true in search rules

pub returns-then-up : goal.returns-then-up
returns-then-up c =
    rw (c.if-up.true, c.put_children.ensures, c.difference-children.ensures, c.children.ensures, c.stop.ensures)

pub returns-else-up : goal.returns-else-up
returns-else-up c = rw (c.if-up.false, c.stop.ensures)
