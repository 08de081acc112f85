-- `in_place` meets its contract: arrays that aren't those of a sound bench are answered 7 or 8, and those of one take the request's step. Assumes nothing.
use mathlib.Core.Bool.{not}
use mathlib.Core.Path.{ap, refl}
use borrow.Author.Rules.{rules}
use Rattle.image.proofs.Images.{halves_read, read_sound, read_arrays, unsound_requested, stepped_requested}
use Rattle.image.proofs.in_place.Goals as goal

pub returns-then-not-sound : goal.returns-then-not-sound
returns-then-not-sound c =
    let a = c.args in
    let read = halves_read a.parents.now a.states.now a.owners.now (search rules) (search rules) c.requires in
    let tested = read_sound read c.standing.result c.standing.ensures c.sound.ensures in
    unsound_requested read c.sound.result a.asked _ tested (ap not c.if-not-sound.true) c.unsound_refusal.ensures

pub returns : goal.returns
returns c =
    let a = c.args in
    let read = halves_read a.parents.now a.states.now a.owners.now (search rules) (search rules) c.requires in
    let arrays = read_arrays read c.sound.result (read_sound read c.standing.result c.standing.ensures c.sound.ensures) (ap not c.if-not-sound.false) in
    stepped_requested read a.asked c.make.ensures arrays refl
