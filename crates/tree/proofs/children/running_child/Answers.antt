-- `running_child` meets its contract: a pass over both lists joins the tests of the pairs. Assumes nothing.
use borrow.Author.Rules.{rules}
use mathlib.Core.Bool.{◌&&◌}
use mathlib.Core.Path.{◌∙◌, ap}
use native.Mathlib.Omega.{arith}
use lib.Dec.{eqb}
use Rattle.std.proofs.lemmas.Iterator.{YieldsList-from_slice, YieldsList-from_zip}
use Rattle.std.proofs.lemmas.Slice.Zip.{get_or-zip, length-zip}
use Rattle.rules.proofs.Tests.{any_cong}
use Rattle.tables.proofs.Folds.{any_passed}
use Rattle.tree.proofs.children.running_child.Goals as goal

pub returns : goal.returns
returns c =
    any_passed _ (λ b. eqb b.1 1 && eqb b.0 c.args.parent) (0, 0) {n = 64} _ c.fold.ensures.ran
    (YieldsList-from_zip (YieldsList-from_slice c.args.parents.now (search rules)) (YieldsList-from_slice c.args.states.now (search rules)))
    (let long = length-zip c.args.parents.now c.args.states.now in search rules) (λ found x b q k. search rules)
    ∙ any_cong 64 _ _ (λ k l. ap (λ b. eqb b.1 1 && eqb b.0 c.args.parent)
    (get_or-zip c.args.parents.now c.args.states.now k (0, 0) (omega (arith, c.told-parents)) (omega (arith, c.told-states))))
