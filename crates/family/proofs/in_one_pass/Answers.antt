-- `in_one_pass` meets its contract: one half of the numbers after the other, or the lower half alone where no upper number has a parent. Assumes nothing.
use mathlib.Core.Path.{sym, ◌∙◌}
use Rattle.views.specs.Reach.{GatheredTo}
use Rattle.tables.proofs.Bytes.{no_upper_child}
use Rattle.tables.proofs.Descendants.{gathered_start, gathered_tops}
use Rattle.family.proofs.in_one_pass.Goals as goal

pub returns-then-upper_child : goal.returns-then-upper_child
returns-then-upper_child c =
    -- the lower half
    let lower : GatheredTo c.args.parents.now c.args.a c.adopting_half-lower.result 32 = c.adopting_half-lower.ensures c.args.a (rw c.with.ensures (gathered_start 64 c.args.parents.now c.args.a c.requires.0)) in
    c.adopting_half.ensures c.args.a lower

pub returns : goal.returns
returns c =
    -- the lower half
    let lower : GatheredTo c.args.parents.now c.args.a c.adopting_half-lower.result 32 = c.adopting_half-lower.ensures c.args.a (rw c.with.ensures (gathered_start 64 c.args.parents.now c.args.a c.requires.0)) in
    gathered_tops 64 c.args.parents.now c.args.a c.adopting_half-lower.result 32
    (no_upper_child 64 32 c.args.parents.now (sym c.upper_child.ensures ∙ c.if-upper_child.false))
    lower
