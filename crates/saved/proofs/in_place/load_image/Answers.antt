-- `load_image` meets its contract: slices that are no image are left, and an image is cleared before the text is read into it, and again where that is refused.
-- Assumes nothing.
use mathlib.Core.Bool.{not}
use mathlib.Core.Path.{ap}
use mathlib.Core.Path.{◌≡◌}
use mathlib.Core.Bool.{true}
use borrow.Author.Rules.{rules}
use Rattle.marks.specs.Answers.{answer_number}
use Rattle.image.specs.Image.{is_image}
use Rattle.image.proofs.Images.{was_image, was_none}
use Rattle.saved.proofs.InPlaceLaws.{none_loaded, cleared_zeros, accepted_loaded, refused_loaded}
use Rattle.saved.proofs.in_place.load_image.Goals as goal

pub returns-then-not-is_image : goal.returns-then-not-is_image
returns-then-not-is_image c =
    let a = c.args in
    none_loaded a.text.now a.actions.now a.owners.now (was_none c.is_image.result c.is_image.ensures (ap not c.if-not-is_image.true))

pub read_into-answer-requires : goal.read_into-answer-requires
read_into-answer-requires c =
    -- on the way on from the test of the lengths
    let image : let a = c.args in is_image a.actions.now a.owners.now ≡ true = was_image c.is_image.result c.is_image.ensures (ap not c.if-not-is_image.false) in
    let a = c.args in
    cleared_zeros a.text.now a.actions.now a.owners.now image c.clear.ensures

pub returns-then-is_err : goal.returns-then-is_err
returns-then-is_err c =
    let a = c.args in
    -- on the way on from the test of the lengths
    let image : is_image a.actions.now a.owners.now ≡ true = was_image c.is_image.result c.is_image.ensures (ap not c.if-not-is_image.false) in
    let refused : answer_number c.read_into-answer.result ≡ 0 → ⊥ = search rules in
    refused_loaded a.text.now a.actions.now a.owners.now image c.read_into-answer.ensures refused c.clear-then-is_err.ensures

pub returns-else-is_err : goal.returns-else-is_err
returns-else-is_err c =
    let a = c.args in
    -- on the way on from the test of the lengths
    let image : is_image a.actions.now a.owners.now ≡ true = was_image c.is_image.result c.is_image.ensures (ap not c.if-not-is_image.false) in
    let accepted : answer_number c.read_into-answer.result ≡ 0 = search rules in
    accepted_loaded a.text.now a.actions.now a.owners.now image c.read_into-answer.ensures accepted
