-- `standing` meets its contract: a number stands in the union of the words where it stands in any. Assumes nothing.
use borrow.Author.Rules.{rules}
use mathlib.Core.Path.{◌∙◌, ap, refl}
use Rattle.std.proofs.lemmas.Iterator.{YieldsList-from_slice}
use Rattle.std.proofs.lemmas.Iterator.Consumers.{fold_from_yields_List}
use Rattle.sets.specs.Sets.{member, union}
use Rattle.sets.proofs.Laws.{member_empty, member_union}
use Rattle.tables.proofs.Folds.{any_folded}
use Rattle.soundness.proofs.standing.Goals as goal

pub returns : goal.returns
returns c k =
    let words = c.args.words.now in
    ap (λ s. member s k) (fold_from_yields_List _ union 0 _ c.fold.ensures.ran (YieldsList-from_slice words c.iter.ensures.rest) (λ s x b q k. search rules))
    ∙ any_folded (λ s. member s k) union 0 (λ s. member s k) 0 _ words refl (member_empty k) (λ s t. member_union s t k)
