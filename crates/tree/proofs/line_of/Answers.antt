use mathlib.Core.Path.{◌≡◌}
use Prim.Native.Nat.{◌-◌, ◌+◌, ◌%◌}
use native.Mathlib.Omega.{arith}
use Rattle.tables.proofs.Lines.{line_start, line_turn, line_ends, line_end}
use Rattle.tree.proofs.line_of.Goals as goal

pub loop-init : goal.loop-init
loop-init c = (omega arith, line_start 64 c.args.parents.now (c.args.a % 64) (omega arith))

pub bounds-parents-x : goal.bounds-parents-x
bounds-parents-x c = c.loop.invariant.1.known

pub returns-in_default : goal.returns-in_default
returns-in_default c =
    rw c.with-line.ensures
    (line_ends 64 c.args.parents.now (c.args.a % 64) c.loop.line c.loop.x (65 - c.loop.counter) (let more = c.loop-test.true in omega arith) c.loop.invariant.1
    c.in_default.ensures)

pub loop-preserved : goal.loop-preserved
loop-preserved c =
    let less : 65 - c.loop.counter - 1 ≡ 65 - (c.loop.counter + 1) = omega arith in (
      omega arith,
      rw (c.with-line.ensures, ← less)
          (line_turn 64 c.args.parents.now (c.args.a % 64) c.loop.line c.loop.x (65 - c.loop.counter) (let more = c.loop-test.true in omega arith) c.loop.invariant.1 _
          c.in-Some.ensures.1 c.in-Some.ensures.0),
    )

pub returns : goal.returns
returns c =
    line_end 64 c.args.parents.now (c.args.a % 64) c.loop.line c.loop.x (65 - c.loop.counter) (let done = c.loop-test.false in omega arith) c.loop.invariant.1
