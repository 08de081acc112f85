-- `read_into` meets its contract: a text with something left over is malformed, and of one read whole the image's soundness decides. Assumes nothing.
use mathlib.Core.Bool.{not}
use mathlib.Core.Path.{ap}
use Rattle.saved.proofs.InPlaceLaws.{read_malformed, read_unsound, read_sound}
use Rattle.saved.proofs.in_place.read_into.Goals as goal

pub returns-then-end-text : goal.returns-then-end-text
returns-then-end-text c =
    read_malformed c.args.text.now c.requires.0 c.requires.1 c.read_actions-behind.ensures c.read_instruments-end.ensures c.if-end-text.true

pub returns-then-not-is_sound : goal.returns-then-not-is_sound
returns-then-not-is_sound c =
    read_unsound c.args.text.now c.requires.0 c.requires.1 c.read_actions-behind.ensures c.read_instruments-end.ensures c.if-end-text.false
    c.is_sound.result c.is_sound.ensures (ap not c.if-not-is_sound.true)

pub returns : goal.returns
returns c =
    read_sound c.args.text.now c.requires.0 c.requires.1 c.read_actions-behind.ensures c.read_instruments-end.ensures c.if-end-text.false
    c.is_sound.result c.is_sound.ensures (ap not c.if-not-is_sound.false)
