-- `dikothelm_image_play` meets its contract: the caller's player is fed, and what it became is stored. Assumes nothing.
use mathlib.Core.Bool.{not}
use mathlib.Core.Path.{ap}
use borrow.Author.Rules.{rules}
use lib.ListN.{length}
use mathlib.Core.Path.{◌≡◌}
use mathlib.Core.Bool.{true}
use Rattle.image.proofs.Images.{was_image, was_none}
use Rattle.dikothelm.specs.Calls.{playable}
use Rattle.dikothelm.proofs.PlayLaws.{none_moved, playable_long, chunk_played}
use Rattle.dikothelm.proofs.feed.dikothelm_image_play.Goals as goal

pub returns-then-not-is_playable : goal.returns-then-not-is_playable
returns-then-not-is_playable c =
    let a = c.args in
    rw c.number.ensures
    (none_moved _ _ _ a.actions.now a.owners.now a.progress.now a.out.now
    (was_none c.is_playable.result c.is_playable.ensures (ap not c.if-not-is_playable.true)))

pub player_of-player-requires : goal.player_of-player-requires
player_of-player-requires c =
    -- on the way on from the test of the lengths
    let ok : playable c.args.actions.now c.args.owners.now c.args.progress.now ≡ true = was_image c.is_playable.result c.is_playable.ensures (ap not c.if-not-is_playable.false) in
    ok

pub put_progress-requires : goal.put_progress-requires
put_progress-requires c =
    -- on the way on from the test of the lengths
    let ok : playable c.args.actions.now c.args.owners.now c.args.progress.now ≡ true = was_image c.is_playable.result c.is_playable.ensures (ap not c.if-not-is_playable.false) in
    let a = c.args in
    playable_long a.actions.now a.owners.now a.progress.now ok

pub returns : goal.returns
returns c =
    -- on the way on from the test of the lengths
    let ok : playable c.args.actions.now c.args.owners.now c.args.progress.now ≡ true = was_image c.is_playable.result c.is_playable.ensures (ap not c.if-not-is_playable.false) in
    let a = c.args in
    let b = c.feed-fed.result.player.bench in
    let parents_long : length b.parents ≡ 64 = search (rules, c.feed-fed.type_inv.1.1.0.1.1.0.1.1) in
    let states_long : length b.states ≡ 64 = search (rules, c.feed-fed.type_inv.1.1.0.1.1.0.1.1) in
    let reads_long : length b.reads ≡ 128 = search (rules, c.feed-fed.type_inv.1.1.0.1.1.0.1.1.1) in
    let writes_long : length b.writes ≡ 128 = search (rules, c.feed-fed.type_inv.1.1.0.1.1.0.1.1.1.1) in
    rw c.number-2.ensures
    (chunk_played a.actions.now a.owners.now a.progress.now ok c.player_of-player.result a.input.now a.out.now c.feed-fed.result
    c.player_of-player.ensures c.feed-fed.ensures c.store.ensures parents_long states_long reads_long writes_long c.put_progress.ensures)
