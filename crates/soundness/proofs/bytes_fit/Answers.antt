-- `bytes_fit` meets its contract: a pass over both lists joins the tests of the pairs. Assumes nothing.
use borrow.Author.Rules.{rules}
use mathlib.Core.Path.{◌∙◌, ap}
use native.Mathlib.Omega.{arith}
use Rattle.std.proofs.lemmas.Iterator.{YieldsList-from_slice, YieldsList-from_zip}
use Rattle.std.proofs.lemmas.Slice.Zip.{get_or-zip, length-zip}
use Rattle.rules.proofs.Tests.{all_cong}
use Rattle.tables.specs.Soundness.{fit}
use Rattle.tables.proofs.Folds.{all_passed}
use Rattle.soundness.proofs.bytes_fit.Goals as goal

pub returns : goal.returns
returns c =
    all_passed _ (λ b. fit 64 b.0 b.1) (0, 0) {n = 64} _ c.fold.ensures.ran
    (YieldsList-from_zip (YieldsList-from_slice c.args.parents.now (search rules)) (YieldsList-from_slice c.args.states.now (search rules)))
    (let long = length-zip c.args.parents.now c.args.states.now in search rules) (λ ok x b q k. search rules)
    ∙ all_cong 64 _ _ (λ k l. ap (λ b. fit 64 b.0 b.1) (get_or-zip c.args.parents.now c.args.states.now k (0, 0) (omega (arith, c.told-parents)) (omega (arith, c.told-states))))
