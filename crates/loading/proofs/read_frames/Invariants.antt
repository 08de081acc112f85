-- `read_frames` meets its contract. The loop's invariant: taking the frames that are left gives what taking all of them gives. Assumes nothing.
use mathlib.Core.List.{map}
use Rattle.loading.proofs.ReadHalves.{HalvesLeft}
use Rattle.loading.proofs.read_frames.Given as goal

abbrev pub invariant-loop-k : goal.invariant-loop-k
invariant-loop-k g l =
    let K = g.K.FrameKind in
    let number = g.K.Elements.number in
    HalvesLeft K.kind l.text K.COUNT l.from (map number l.initial.list) l.k l.at (map number l.list)
