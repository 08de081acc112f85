-- `image_text_size` meets its contract: nothing of an image that isn't sound, else the length of its record's text. Assumes nothing.
use mathlib.Core.Bool.{not}
use mathlib.Core.Path.{ap}
use lib.ListN.{take}
use Rattle.saved.proofs.InPlaceLaws.{unsound_size, sound_size}
use Rattle.saved.proofs.in_place.image_text_size.Goals as goal

pub returns-then-not-is_sound : goal.returns-then-not-is_sound
returns-then-not-is_sound c =
    let a = c.args in unsound_size a.actions.now a.owners.now c.is_sound.result c.is_sound.ensures (ap not c.if-not-is_sound.true)

pub returns : goal.returns
returns c =
    let a = c.args in
    sound_size a.actions.now a.owners.now c.is_sound.result c.is_sound.ensures (ap not c.if-not-is_sound.false) (c.text_length.ensures (take 64 a.actions.now))
