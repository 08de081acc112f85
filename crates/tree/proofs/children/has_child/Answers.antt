-- `has_child` meets its contract: a pass over the bytes joins their tests. Assumes nothing.
use borrow.Author.Rules.{rules}
use lib.Dec.{eqb}
use Rattle.std.proofs.lemmas.Iterator.{YieldsList-from_slice}
use Rattle.tables.proofs.Folds.{any_passed}
use Rattle.tree.proofs.children.has_child.Goals as goal

pub returns : goal.returns
returns c =
    any_passed _ (λ p. eqb p c.args.parent) 0 _ c.fold.ensures.ran (YieldsList-from_slice c.args.parents.now c.iter.ensures.rest) c.told-parents (λ found x b q k. search rules)
