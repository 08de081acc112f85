-- `play_words` meets its contract: a list that is too long is refused before slices that are no image are. Assumes nothing.
use mathlib.Core.Bool.{not}
use mathlib.Core.Path.{ap}
use Rattle.image.proofs.Images.{was_image, was_none}
use Rattle.desk.proofs.WordLaws.{too_long_lem, short_enough}
use Rattle.desk.proofs.Calls.{long_refused, none_refused}
use Rattle.desk.proofs.play_words.Goals as goal

pub returns-then-words-gt-LONGEST_LIST : goal.returns-then-words-gt-LONGEST_LIST
returns-then-words-gt-LONGEST_LIST c =
    let a = c.args in
    long_refused a.actions.now a.owners.now a.words.now (too_long_lem a.words.now c.if-words-gt-LONGEST_LIST.true)

pub returns-then-not-is_image : goal.returns-then-not-is_image
returns-then-not-is_image c =
    let a = c.args in
    none_refused a.actions.now a.owners.now a.words.now (short_enough a.words.now c.if-words-gt-LONGEST_LIST.false)
    (was_none c.is_image.result c.is_image.ensures (ap not c.if-not-is_image.true))

pub play_on_image-requires : goal.play_on_image-requires
play_on_image-requires c =
    (was_image c.is_image.result c.is_image.ensures (ap not c.if-not-is_image.false), short_enough c.args.words.now c.if-words-gt-LONGEST_LIST.false)
