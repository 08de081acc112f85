-- A number taken into a set where its parent is in it, by shifts and without a case: the digit that a parent's byte leads to. Assumes nothing.
use mathlib.Core.Path.{◌≡◌, refl, ◌∙◌, ap}
use mathlib.Core.Bool.{Bool, true, false, cond}
use Prim.Native.Nat.{ℕ, zero, suc, ◌+◌, ◌*◌, ◌-◌, ◌/◌, ◌%◌, ◌≤◌, ◌<◌, ◌^◌}
use native.Mathlib.Nat.{mod-eq_of_lt, div-eq_of_lt, add-mod_right, add-div_right, zero-mul, zero-mod}
use native.Mathlib.Omega.{arith}
use lib.Bits.{bit_and, bit_or, and_zero_r, or_zero_r, and_mask}
use Rattle.sets.specs.Sets.{member, union, with}
use Rattle.sets.proofs.Laws.{digit, digit_member, single_shifted, with_inside}
use Rattle.tables.specs.Families.{parent_in, adopted}

digit_choice : (t : Bool) → digit t ≡ cond t 1 0
digit_choice true = refl
digit_choice false = refl

-- n ahead of the parent's number, or n - 1 where there is none: the place is the remainder, and the quotient says whether there is one
pub parent_digit : (n set up ahead : ℕ) → 0 < n → up ≤ n → ahead ≡ up + (n - 1) → bit_and (set / 2 ^ (ahead % n)) (ahead / n) ≡ cond (parent_in set up) 1 0
parent_digit n set zero ahead some h e =
    let none : ahead / n ≡ 0 = div-eq_of_lt (omega arith) in
    rw none (and_zero_r (set / 2 ^ (ahead % n)))
parent_digit n set (suc p) ahead some h e =
    let turn : ahead ≡ p + n = omega arith in
    let place : ahead % n ≡ p = ap (λ x. x % n) turn ∙ add-mod_right p n ∙ mod-eq_of_lt h in
    let one : ahead / n ≡ 1 = ap (λ x. x / n) turn ∙ add-div_right p some ∙ ap (λ x. x + 1) (div-eq_of_lt h) in
    rw (place, one) (and_mask (set / 2 ^ p) 1 ∙ digit_member set p ∙ digit_choice (member set p))

-- a digit, shifted to k
digit_taken : (n set k : ℕ) → k < n → (t : Bool) → bit_or set (cond t 1 0 * 2 ^ k % 2 ^ n) ≡ cond t (with n set k) set
unfolding union
digit_taken n set k l true = rw (single_shifted n k l, with_inside n set k l)
digit_taken n set k l false = let none : 0 * 2 ^ k % 2 ^ n ≡ 0 = rw (zero-mul (2 ^ k)) (zero-mod (2 ^ n)) in rw none (or_zero_r set)

pub digit_adopted : (n set k up d : ℕ) → k < n → d ≡ cond (parent_in set up) 1 0 → bit_or set (d * 2 ^ (k % n) % 2 ^ n) ≡ adopted n set k up
digit_adopted n set k up d l e = rw (e, mod-eq_of_lt l) (digit_taken n set k l (parent_in set up))
