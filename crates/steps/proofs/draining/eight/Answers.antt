use Prim.Native.Nat.{◌≤◌, ◌<◌, ◌+◌, ◌-◌, ◌^◌}
use mathlib.Core.Path.{◌≡◌}
use mir.Val.{bool_byte}
use native.Mathlib.Omega.{arith}
use borrow.Author.Rules.{rules}
use lib.Pow.{pow_mono}
use Rattle.steps.proofs.Gathered.{Moved, moved_none, moved_more, moved_fits}
use Rattle.steps.proofs.draining.eight.Invariants.{has}
use Rattle.steps.proofs.draining.eight.Goals as goal

pub loop-k-init : goal.loop-k-init
loop-k-init c = (search rules, moved_none (has c.args.states.now c.args.byte) (c.args.first + 8 - 0))

pub overflow_add-part : goal.overflow_add-part
overflow_add-part c =
    let room : c.loop-k.part < 2 ^ c.loop-k.k = c.loop-k.invariant.1.fits in
    let few : 2 ^ c.loop-k.k ≤ 2 ^ 8 = pow_mono {i = c.loop-k.k} {j = 8} (omega arith) in
    omega arith

pub overflow_add-part-in-loop-k-2 : goal.overflow_add-part-in-loop-k-2
overflow_add-part-in-loop-k-2 c =
    -- the set of a turn, with the next number
    let more : let args = c.args in
    let k = c.loop-k.k in
    let test = has args.states.now args.byte in
    Moved test (args.first + 7 - k) (k + 1) (c.loop-k.part + c.loop-k.part + bool_byte (test (args.first + 7 - k))) = let args = c.args in
    let k = c.loop-k.k in
    let next : args.first + 8 - k ≡ args.first + 7 - k + 1 = omega arith in
    moved_more (has args.states.now args.byte) (args.first + 7 - k) k c.loop-k.part (rw next at c.loop-k.invariant.1) in
    let args = c.args in
    let fits = moved_fits (has args.states.now args.byte) (args.first + 7 - c.loop-k.k) (c.loop-k.k + 1) _ (omega arith) more in
    omega arith

pub loop-k-preserved : goal.loop-k-preserved
loop-k-preserved c =
    -- the set of a turn, with the next number
    let more : let args = c.args in
    let k = c.loop-k.k in
    let test = has args.states.now args.byte in
    Moved test (args.first + 7 - k) (k + 1) (c.loop-k.part + c.loop-k.part + bool_byte (test (args.first + 7 - k))) = let args = c.args in
    let k = c.loop-k.k in
    let next : args.first + 8 - k ≡ args.first + 7 - k + 1 = omega arith in
    moved_more (has args.states.now args.byte) (args.first + 7 - k) k c.loop-k.part (rw next at c.loop-k.invariant.1) in
    let args = c.args in
    let place : args.first + 8 - (c.loop-k.k + 1) ≡ args.first + 7 - c.loop-k.k = omega arith in
    (search rules, rw place more)

pub returns : goal.returns
returns c =
    let e : c.loop-k.k ≡ 8 = omega arith in
    let place : c.args.first + 8 - 8 ≡ c.args.first = omega arith in
    let all = rw (e, place) at c.loop-k.invariant.1 in
    (all.fits, all.members)
