-- `next_line` meets its contract: from the line of the parent, where it was passed. Assumes nothing.
use Rattle.tables.proofs.EachLine.{line_met}
use Rattle.tree.proofs.each.next_line.Goals as goal

pub returns-in-Some : goal.returns-in-Some
returns-in-Some c =
    rw c.with.ensures
    (line_met 64 c.args.parents.now c.args.lines.now c.args.k c.in-Some.up c.requires.0 c.if-up-k.true c.in-Some.ensures.1 c.requires.1)
