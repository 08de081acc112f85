-- `held` meets its contract: owners of the line itself are held, and the others are looked for. Assumes nothing.
use mathlib.Core.Path.{sym, ◌∙◌}
use Rattle.sets.specs.Sets.{member}
use Rattle.rows.specs.Rows.{line_for}
use Rattle.rows.proofs.Asking.{within_held}
use Rattle.rows.proofs.held.Goals as goal

pub returns-then-within : goal.returns-then-within
returns-then-within c =
    let args = c.args in
    within_held args.parents.now args.states.now args.line args.owners args.a (sym c.within.ensures ∙ c.if-within.true)
