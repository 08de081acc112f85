use Prim.Native.Nat.{◌+◌, ◌*◌}
use mathlib.Core.Path.{◌≡◌}
use native.Mathlib.Omega.{arith}
use Rattle.desk.proofs.Playing.{left_more, none_left}
use Rattle.desk.proofs.play_records.Goals as goal

pub loop-k-preserved : goal.loop-k-preserved
loop-k-preserved c =
    let left = c.loop-k.invariant.1 in
    let done = c.play_record-answer.ensures in
    let next : 4 * (c.loop-k.k + 1) ≡ 4 * c.loop-k.k + 4 = omega arith in
    let room = left.long in (
      omega arith,
      rw (next, c.from.ensures, c.number.ensures) (left_more left (omega arith) (rw c.request_of-asked.ensures at done.ended.outcome)),
      record { table = done.ended.table; owners_long = done.owners_long },
    )

pub returns : goal.returns
returns c =
    let left = c.loop-k.invariant.1 in
    let room = left.long in
    let done = none_left left (omega arith) in
    record { list = done.0; bench = done.1; spare = done.2; known = c.loop-k.invariant.2 }
