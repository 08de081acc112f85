use mathlib.Core.Path.{◌≡◌}
use Prim.Native.Nat.{◌<◌, ◌^◌}
use native.Mathlib.Nat.{mod-lt}
use native.Mathlib.Omega.{arith}
use borrow.Author.Rules.{rules}
use Rattle.forms.specs.WellShaped.{number_at}
use Rattle.digits.proofs.Worth.{digit_or_0}
use Rattle.loading.proofs.ReadDigits.{number_more, number_in_word, part_byte, part_long}
use Rattle.loading.proofs.fields.number_at.Goals as goal

pub loop-c-init : goal.loop-c-init
unfolding number_at
loop-c-init c = search rules

pub overflow_mul-number : goal.overflow_mul-number
overflow_mul-number c =
    let a = c.args in
    let long = part_long a.text.now a.at a.n c.requires.0 in
    -- a further digit fits
    let small : c.loop-c.number < 16 ^ 15 = rw c.loop-c.invariant (number_in_word a.text.now a.at c.loop-c.c-index (omega arith)) in omega arith

pub overflow_add-number : goal.overflow_add-number
overflow_add-number c =
    let a = c.args in
    let long = part_long a.text.now a.at a.n c.requires.0 in
    let digit : c.from.result < 16 = rw (c.from.ensures, c.unwrap_or.ensures, c.value.ensures, digit_or_0) (mod-lt _ (omega arith)) in
    -- a further digit fits
    let small : c.loop-c.number < 16 ^ 15 = rw c.loop-c.invariant (number_in_word a.text.now a.at c.loop-c.c-index (omega arith)) in omega arith

pub loop-c-preserved : goal.loop-c-preserved
loop-c-preserved c =
    let a = c.args in
    let long = part_long a.text.now a.at a.n c.requires.0 in
    rw (number_more, c.from.ensures, c.unwrap_or.ensures, c.value.ensures, part_byte a.text.now a.at a.n c.loop-c.c-index (omega arith), digit_or_0, c.loop-c.invariant)

pub returns : goal.returns
returns c =
    let a = c.args in
    let long = part_long a.text.now a.at a.n c.requires.0 in
    let e : c.loop-c.c-index ≡ a.n = omega arith in
    rw e at c.loop-c.invariant
