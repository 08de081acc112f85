-- `bench_of` meets its contract. Assumes nothing.
use mathlib.Core.Bool.{not}
use mathlib.Core.Path.{ap}
use Rattle.image.proofs.Images.{was_image, image_record}
use Rattle.image.proofs.bench_of.Goals as goal

pub returns : goal.returns
returns c =
    let a = c.args in
    image_record a.actions.now a.owners.now c.words_from.result c.words_from-2.result c.words_from-3.result c.words_from-4.result
    (was_image c.is_image.result c.is_image.ensures (ap not c.if-not-is_image.false)) c.words_from.ensures c.words_from-2.ensures c.words_from-3.ensures c.words_from-4.ensures
