-- `save_image` meets its contract: an image that isn't sound is refused, and else its record's text is stored. Assumes nothing.
use mathlib.Core.Bool.{not}
use mathlib.Core.Path.{ap}
use Rattle.saved.proofs.InPlaceLaws.{unsound_saved, sound_saved}
use Rattle.saved.proofs.in_place.save_image.Goals as goal

pub returns-then-not-is_sound : goal.returns-then-not-is_sound
returns-then-not-is_sound c =
    let a = c.args in
    unsound_saved a.actions.now a.owners.now c.is_sound.result a.out.now c.is_sound.ensures (ap not c.if-not-is_sound.true)

pub returns : goal.returns
returns c =
    let a = c.args in
    sound_saved a.actions.now a.owners.now c.is_sound.result c.is_sound.ensures (ap not c.if-not-is_sound.false) c.store_text.ensures
