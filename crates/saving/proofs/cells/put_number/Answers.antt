use mathlib.Core.Path.{◌≡◌, sym, ◌∙◌}
use Prim.Native.Nat.{◌+◌, ◌-◌, suc}
use native.Mathlib.Omega.{arith}
use lib.ListN.{length-set}
use Rattle.saving.proofs.WrittenDigits.{digit_more, digits_done}
use Rattle.saving.proofs.cells.put_number.Goals as goal

pub loop-k-preserved : goal.loop-k-preserved
loop-k-preserved c =
    let a = c.args in
    let k = c.loop-k.k in
    let left : a.n - k ≡ suc (a.n - 1 - k) = omega arith in
    let fewer : a.n - (k + 1) ≡ a.n - 1 - k = omega arith in
    let next : a.at + (k + 1) ≡ a.at + k + 1 = omega arith in
    (omega arith, rw (c.digit.ensures, fewer, next) (digit_more c.loop-k.out (a.at + k) (a.n - 1 - k) a.x ∙ (rw left at c.loop-k.invariant.1)), simp length-set c.loop-k.invariant.2)

pub returns : goal.returns
returns c =
    let a = c.args in
    let none : a.n - c.loop-k.k ≡ 0 = omega arith in
    sym (digits_done c.loop-k.out (a.at + c.loop-k.k) a.x) ∙ (rw none at c.loop-k.invariant.1)
