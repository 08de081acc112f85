-- `family_of` meets its contract: a alone where nobody has it for a parent, and else by the way that fits the numbers. Assumes nothing.
use Prim.Native.Nat.{◌+◌, ◌%◌}
use mathlib.Core.Path.{sym, ◌∙◌}
use native.Mathlib.Omega.{arith}
use Rattle.tables.proofs.Descendants.{gathered_descends, gathered_alone}
use Rattle.family.proofs.family_of.Goals as goal

pub returns-then-not-has_child : goal.returns-then-not-has_child
returns-then-not-has_child c =
    let args = c.args in
    gathered_descends 64 args.parents.now (args.a % 64) c.with.result c.with.type_inv
    (rw c.with.ensures
    (gathered_alone 64 args.parents.now (args.a % 64) (omega arith) (args.a % 64 + 1) (omega arith)
    (sym c.has_child.ensures ∙ c.if-not-has_child.true)))

pub returns-then-parents_lower : goal.returns-then-parents_lower
returns-then-parents_lower c =
    let args = c.args in
    gathered_descends 64 args.parents.now (args.a % 64) c.in_one_pass.result c.in_one_pass.type_inv c.in_one_pass.ensures

pub returns : goal.returns
returns c =
    let args = c.args in
    gathered_descends 64 args.parents.now (args.a % 64) c.by_climbs.result c.by_climbs.type_inv c.by_climbs.ensures
