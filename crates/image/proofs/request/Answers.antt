-- `request` meets its contract: the two halves of an image's bytes are the parents and the states of its arrays. Assumes nothing.
use mathlib.Core.Path.{◌≡◌}
use mathlib.Core.List.{◌++◌}
use borrow.Author.Rules.{rules}
use lib.ListN.{take, drop, take-append-drop}
use Rattle.image.proofs.request.Goals as goal

pub returns-in-Some-as_mut_array : goal.returns-in-Some-as_mut_array
returns-in-Some-as_mut_array c =
    let actions = c.args.actions.now in
    let p : c.in-Some.parents.now ≡ take 64 actions = search rules in
    let s : c.in-Some-as_mut_array.states.now ≡ drop 64 actions = search rules in
    let whole : c.in-Some.parents.now ++ c.in-Some-as_mut_array.states.now ≡ actions = rw (p, s) (take-append-drop 64 actions) in
    rw whole at c.in_place.ensures
