-- `nobody_drains` meets its contract: a pass over the bytes joins their tests. Assumes nothing.
use borrow.Author.Rules.{rules}
use lib.Dec.{leb}
use Rattle.std.proofs.lemmas.Iterator.{YieldsList-from_slice}
use Rattle.tables.proofs.Folds.{all_passed}
use Rattle.soundness.proofs.draining.nobody_drains.Goals as goal

pub returns : goal.returns
returns c =
    all_passed _ (λ s. leb s 2) 0 _ c.fold.ensures.ran (YieldsList-from_slice c.args.states.now c.iter.ensures.rest) c.told-states (λ ok x b q k. search rules)
