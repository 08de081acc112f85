-- `save` meets its contract: a record that isn't sound is refused, and else its text is stored. Assumes nothing.
use mathlib.Core.Path.{sym, ◌∙◌}
use Rattle.saved.specs.Saved.{saved_as, buffer_after}
use Rattle.saved.proofs.save.Goals as goal

pub returns-then-not-is_sound : goal.returns-then-not-is_sound
unfolding saved_as buffer_after
returns-then-not-is_sound c =
    let said = c.is_sound in
    let broken = sym said.ensures ∙ c.if-not-is_sound.true in (rw broken, rw broken)

pub returns : goal.returns
unfolding saved_as buffer_after
returns c =
    let said = c.is_sound in
    let ok = sym said.ensures ∙ c.if-not-is_sound.false in
    (rw ok c.store_text.ensures.0, rw ok c.store_text.ensures.1)
