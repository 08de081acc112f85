-- `player_of` meets its contract: it stands where image and progress say. Assumes nothing.
use mathlib.Core.Path.{refl}
use native.Mathlib.Omega.{arith}
use Rattle.dikothelm.proofs.PlayLaws.{playable_long, player_stands}
use Rattle.dikothelm.proofs.feed.player_of.Goals as goal

pub bounds-progress-0 : goal.bounds-progress-0
bounds-progress-0 c =
    let a = c.args in
    let long = playable_long a.actions.now a.owners.now a.progress.now c.requires in
    omega arith

pub bounds-progress-1 : goal.bounds-progress-1
bounds-progress-1 c =
    let a = c.args in
    let long = playable_long a.actions.now a.owners.now a.progress.now c.requires in
    omega arith

pub returns : goal.returns
returns c =
    let a = c.args in
    player_stands a.actions.now a.owners.now a.progress.now c.requires c.bench_of.result c.line_count.result _
    c.bench_of.ensures c.line_count.ensures refl
