-- `upper_child` meets its contract: a pass over the upper bytes joins their tests. Assumes nothing.
use borrow.Author.Rules.{rules}
use mathlib.Core.Bool.{not}
use mathlib.Core.Path.{◌∙◌, ap}
use native.Mathlib.Omega.{arith}
use lib.Dec.{eqb}
use lib.ListN.{take, drop, length-drop}
use Rattle.std.proofs.lemmas.Iterator.{YieldsList-from_slice}
use Rattle.std.proofs.lemmas.List.{length-take-le, get_or-take, get_or-drop}
use Rattle.rules.proofs.Tests.{any_cong}
use Rattle.tables.proofs.Folds.{any_passed}
use Rattle.soundness.proofs.upper_child.Goals as goal

pub returns : goal.returns
returns c =
    let parents = c.args.parents.now in
    any_passed _ (λ p. not (eqb p 0)) 0 {n = 32} _ c.fold.ensures.ran (YieldsList-from_slice (take 32 (drop 32 parents)) c.iter.ensures.rest)
    (length-take-le 32 (drop 32 parents) (omega (arith, length-drop 32 parents, c.told-parents))) (λ found x b q k. search rules)
    ∙ any_cong 32 _ _ (λ k l. ap (λ p. not (eqb p 0)) (get_or-take 32 (drop 32 parents) k 0 l ∙ get_or-drop 32 parents k 0))
