-- `play_list` meets its contract. Assumes nothing.
use mathlib.Core.Path.{◌≡◌}
use native.Mathlib.Omega.{arith}
use lib.ListN.{length}
use Rattle.bench.specs.declared.Reply.{Reply}
use Rattle.bench.specs.Record.{viewed, seen}
use Rattle.lists.proofs.Turn.{begins, turns, refuses, played}
use Rattle.lists.proofs.play_list.Goals as goal

pub returns-then-list-gt-LONGEST : goal.returns-then-list-gt-LONGEST
returns-then-list-gt-LONGEST c = rw c.number.ensures (refuses c.args.bench c.args.list.now c.if-list-gt-LONGEST.true)

pub loop-request-init : goal.loop-request-init
loop-request-init c = begins (viewed c.args.bench) c.args.list.now

pub loop-request-preserved : goal.loop-request-preserved
loop-request-preserved c =
    let at = c.loop-request in
    let reply : Reply = record { bench = c.play_in_place-request.new.bench; answer = c.play_in_place-request.result } in
    turns (viewed c.args.bench) c.args.list.now at.request-index (viewed at.bench) at.list (omega arith) at.invariant (seen reply) c.play_in_place-request.ensures

pub returns : goal.returns
returns c =
    let ended : c.loop-request.request-index ≡ length c.args.list.now = omega arith in
    rw c.number-2.ensures (played c.args.bench c.loop-request.bench c.args.list.now c.loop-request.list c.if-list-gt-LONGEST.false (rw ended at c.loop-request.invariant))
