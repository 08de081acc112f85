-- `is_sound` meets its contract: of an image the two halves of its bytes and the words in place are tested. Assumes nothing.
use mathlib.Core.Path.{◌≡◌, ◌∙◌, sym}
use mathlib.Core.Bool.{true}
use borrow.Author.Rules.{rules}
use lib.ListN.{take, drop}
use Rattle.image.specs.Image.{is_image}
use Rattle.image.proofs.Images.{image_long, second_half, sound_image_lem}
use Rattle.image.proofs.is_sound.Goals as goal

pub returns-in-Some-as_array : goal.returns-in-Some-as_array
returns-in-Some-as_array c =
    let actions = c.args.actions.now in
    let image : is_image actions c.args.owners.now ≡ true = search rules in
    let p : c.in-Some.parents.now ≡ take 64 actions = search rules in
    let s : c.in-Some-as_array.states.now ≡ drop 64 actions = search rules in
    sound_image_lem {actions = actions} {owners = c.args.owners.now}
    (record { image = image; is_parents = p; is_states = s ∙ sym (second_half 64 actions (image_long actions c.args.owners.now image).0) })
    c.standing.result c.standing.ensures c.sound.ensures
