use mathlib.Core.Path.{◌∙◌}
use native.Mathlib.Omega.{arith}
use Rattle.sets.specs.Sets.{difference}
use Rattle.steps.proofs.Clears.{map_none, map_more, map_all}
use Rattle.steps.proofs.clear.clear_words.Goals as goal

pub loop-word-init : goal.loop-word-init
loop-word-init c = map_none (λ s. difference s c.args.gone) c.args.words.now

pub loop-word-preserved : goal.loop-word-preserved
loop-word-preserved c =
    rw (c.difference.ensures, c.loop-word.invariant) (map_more (λ s. difference s c.args.gone) c.loop-word.word-index c.args.words.now)

pub returns : goal.returns
returns c =
    c.loop-word.invariant ∙ map_all (λ s. difference s c.args.gone) c.loop-word.word-index c.args.words.now (omega arith)
