-- `sound` meets its contract: the test of the numbers that stand in a set is soundness. Assumes nothing.
use mathlib.Core.Path.{◌∙◌}
use Rattle.views.proofs.Words.{sound_with_lem}
use Rattle.bench.proofs.Bench.sound.Goals as goal

pub returns : goal.returns
returns c =
    let numbers = c.standing in
    let args = c.args in
    c.sound.ensures ∙ sound_with_lem args.self.now.parents args.self.now.states args.self.now.reads args.self.now.writes numbers.result numbers.ensures
