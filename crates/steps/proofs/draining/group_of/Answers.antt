use Prim.Native.Nat.{◌≤◌, ◌+◌, ◌-◌, ◌*◌, ◌^◌}
use mathlib.Core.Path.{◌≡◌, refl}
use native.Mathlib.Omega.{arith}
use borrow.Author.Rules.{rules}
use lib.Pow.{pow_mono}
use Rattle.steps.proofs.Gathered.{Moved, moved_none, moved_join, moved_fits, moved_all}
use Rattle.steps.proofs.draining.group_of.Invariants.{drains}
use Rattle.steps.proofs.draining.group_of.Goals as goal

pub loop-k-init : goal.loop-k-init
loop-k-init c = (search rules, refl, moved_none (drains c.args.states.now c.args.a) 64)

pub overflow_mul-group : goal.overflow_mul-group
overflow_mul-group c =
    let fits = c.loop-k.invariant.2.fits in
    let few : 2 ^ (8 * c.loop-k.k) ≤ 2 ^ 56 = pow_mono {i = 8 * c.loop-k.k} {j = 56} (omega arith) in
    omega arith

pub overflow_add-group : goal.overflow_add-group
overflow_add-group c =
    -- the set of a turn, with the next eight numbers
    let more : let args = c.args in
    let k = c.loop-k.k in
    Moved (drains args.states.now args.a) (64 - 8 * (k + 1)) (8 * (k + 1)) (c.loop-k.group * 256 + c.eight.result) = let args = c.args in
    let k = c.loop-k.k in
    let place : 64 - 8 * k ≡ 56 - 8 * k + 8 = omega arith in
    let first : 56 - 8 * k ≡ 64 - 8 * (k + 1) = omega arith in
    let many : 8 + 8 * k ≡ 8 * (k + 1) = omega arith in
    let lower : Moved (drains args.states.now args.a) (56 - 8 * k) 8 c.eight.result = record { fits = c.eight.ensures.0; members = c.eight.ensures.1 } in
    rw (first, many) at (moved_join (drains args.states.now args.a) (56 - 8 * k) 8 (8 * k) c.eight.result c.loop-k.group lower (rw place at c.loop-k.invariant.2)) in
    let args = c.args in
    let fits = moved_fits (drains args.states.now args.a) (64 - 8 * (c.loop-k.k + 1)) (8 * (c.loop-k.k + 1)) _ (omega arith) more in
    omega arith

pub loop-k-preserved : goal.loop-k-preserved
loop-k-preserved c =
    -- the set of a turn, with the next eight numbers
    let more : let args = c.args in
    let k = c.loop-k.k in
    Moved (drains args.states.now args.a) (64 - 8 * (k + 1)) (8 * (k + 1)) (c.loop-k.group * 256 + c.eight.result) = let args = c.args in
    let k = c.loop-k.k in
    let place : 64 - 8 * k ≡ 56 - 8 * k + 8 = omega arith in
    let first : 56 - 8 * k ≡ 64 - 8 * (k + 1) = omega arith in
    let many : 8 + 8 * k ≡ 8 * (k + 1) = omega arith in
    let lower : Moved (drains args.states.now args.a) (56 - 8 * k) 8 c.eight.result = record { fits = c.eight.ensures.0; members = c.eight.ensures.1 } in
    rw (first, many) at (moved_join (drains args.states.now args.a) (56 - 8 * k) 8 (8 * k) c.eight.result c.loop-k.group lower (rw place at c.loop-k.invariant.2)) in
    (search rules, c.loop-k.invariant.1, more)

pub returns : goal.returns
returns c =
    let e : c.loop-k.k ≡ 8 = omega arith in
    moved_all (drains c.args.states.now c.args.a) c.loop-k.group (rw e at c.loop-k.invariant.2)
