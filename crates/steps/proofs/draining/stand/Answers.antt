-- `stand` meets its contract: the numbers that the pass finds are all that stand. Assumes nothing.
use mathlib.Core.Path.{◌∙◌}
use borrow.Author.Rules.{rules}
use Rattle.steps.proofs.Standing.{stand_found}
use Rattle.steps.proofs.draining.stand.Goals as goal

pub returns : goal.returns
returns c =
    let args = c.args in
    c.meet.ensures ∙ stand_found args.words.now c.standing.result args.numbers (search rules) c.standing.ensures
