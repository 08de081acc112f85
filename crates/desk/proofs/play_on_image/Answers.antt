-- `play_on_image` meets its contract: the two halves of an image's bytes are the parents and the states of the bench on which the list is played. Assumes nothing.
use mathlib.Core.Path.{◌≡◌}
use borrow.Author.Rules.{rules}
use lib.ListN.{take, drop}
use Rattle.desk.proofs.Calls.{image_known, image_played}
use Rattle.desk.proofs.play_on_image.Goals as goal

pub play_records-requires : goal.play_records-requires
play_records-requires c =
    let a = c.args in
    let p : c.in-Some.parents.now ≡ take 64 a.actions.now = search rules in
    let s : c.in-Some-as_mut_array.states.now ≡ drop 64 a.actions.now = search rules in
    image_known a.actions.now a.owners.now a.words.now c.requires.0 p s c.standing.result c.sound-is_sound.result c.standing.ensures c.sound-is_sound.ensures

pub returns-in-Some-as_mut_array : goal.returns-in-Some-as_mut_array
returns-in-Some-as_mut_array c =
    let a = c.args in
    let p : c.in-Some.parents.now ≡ take 64 a.actions.now = search rules in
    let s : c.in-Some-as_mut_array.states.now ≡ drop 64 a.actions.now = search rules in
    image_played a.actions.now a.owners.now a.words.now c.requires.0 p s c.requires.1 c.play_records.ensures
