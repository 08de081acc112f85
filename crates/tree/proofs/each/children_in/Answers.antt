use borrow.Author.Rules.{rules}
use Rattle.tables.proofs.Gathering.{children_none, child_named, nobody_named}
use Rattle.tree.proofs.each.children_in.Goals as goal
use Rattle.tree.proofs.each.children_in.Goals.{in-Some, in_default}

pub loop-k-init : goal.loop-k-init
loop-k-init c = (search rules, children_none 64 c.args.parents.now)

pub loop-k-preserved : goal.loop-k-preserved
loop-k-preserved c =
    let parents = c.args.parents.now in (
      search rules,
      elim c.match-named.branch [
        | in-Some w ↦
            rw (w.children-is, w.with.ensures)
            (child_named 64 parents c.loop-k.children c.loop-k.k c.loop-k.invariant.1 w.in-Some.up c.loop-k-test.true w.in-Some.ensures.1)
        | in_default w ↦ rw w.children-is (nobody_named 64 parents c.loop-k.children c.loop-k.k c.loop-k.invariant.1 w.in_default.ensures)
      ],
    )
