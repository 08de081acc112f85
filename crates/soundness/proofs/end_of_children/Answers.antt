-- `end_of_children` meets its contract: 64 is the end of all numbers, and 32 that of the children where no upper number is one. Assumes nothing.
use borrow.Author.Rules.{rules}
use mathlib.Core.Path.{sym, ◌∙◌}
use Rattle.tables.proofs.Bytes.{no_upper_child}
use Rattle.soundness.proofs.end_of_children.Goals as goal

pub returns : goal.returns
returns c = (search rules, no_upper_child 64 32 c.args.parents.now (sym c.upper_child.ensures ∙ c.if-upper_child.false))
