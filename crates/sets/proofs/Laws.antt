-- The laws of sets: which numbers are members after each operation, when two words are the same set, inclusion, the least member and the order of words. Each holds at every width w, for words below 2 ^ w. Assumes nothing.
use Rattle.std.proofs.Common.{◌≡◌, ℕ, zero, suc, ◌+◌, ◌-◌, ◌*◌, ◌/◌, ◌%◌, ◌^◌, ◌<◌, ◌≤◌, min, max, Bool, true, false, cond, not, ◌&&◌, ◌||◌, eqb, ltb, sym, refl, ap, ◌∙◌, suc-le-suc, lt_of_lt_of_le, lt_of_le_of_lt, mod-lt, mod-eq_of_lt, zero-lt-suc, one-mul, pow-suc, div-one, mul-div_cancel, arith, pow_pos, pow_mono, ltb-false, ltb-true, le-ltb, lt-ltb, eq-eqb, eqb-true}
use mathlib.Core.Bool.{false≢true}
use native.Mathlib.Nat.{zero-div, div-eq_of_lt, div-div-eq-div-mul, pow-succ', mul-mod_left}
use lib.Dec.{eqb-suc-suc, eqb-suc-zero, eqb-zero-suc}
use lib.Arith.{digits_mod, lt-one}
use lib.Pow.{pow-lt}
use lib.Bits.{bit_and, bit_or, bit_xor, differ, and_shr, or_shr, xor_shr, and_step, or_step, xor_step, or_lt, xor_lt, and_le_l, and_le_r, or_add_and, xor_add_and}
use lib.Count.{count_trailing_zeros, under}
use borrow.Author.Tests.{eqb-false, not-true, not-false}
use Rattle.sets.specs.Sets.{member, single, union, difference, within, meet, with, without, least}

-- ---- tests

-- the two cases of a test, each with its equation
pub by_test : {A : Type 0} (t : Bool) → (t ≡ true → A) → (t ≡ false → A) → A
by_test true f g = f refl
by_test false f g = g refl

-- two tests that imply each other are equal
pub same_tests : (t u : Bool) → (t ≡ true → u ≡ true) → (u ≡ true → t ≡ true) → t ≡ u
same_tests true u f g = sym (f refl)
same_tests false u f g = by_test u (λ e. g e ∙ sym e) sym

-- ---- a word's digits, and its members

-- the binary digit that stands for a test
abbrev pub digit : Bool → ℕ
digit true = 1
digit false = 0

pub digit_test : (t : Bool) → eqb (digit t) 1 ≡ t
digit_test true = refl
digit_test false = refl

pub test_digit : (n : ℕ) → n < 2 → n ≡ digit (eqb n 1)
test_digit zero h = refl
test_digit (suc zero) h = refl
test_digit (suc (suc n)) h = absurd (omega arith)

pub digit_lt : (t : Bool) → digit t < 2
digit_lt true = omega arith
digit_lt false = omega arith

-- the k-th digit of s tells whether k is a member
pub digit_member : (s k : ℕ) → s / 2 ^ k % 2 ≡ digit (member s k)
unfolding member
digit_member s k = test_digit _ (mod-lt (s / 2 ^ k) (zero-lt-suc 1))

pub member_digit : (s k : ℕ) (t : Bool) → s / 2 ^ k % 2 ≡ digit t → member s k ≡ t
unfolding member
member_digit s k t e = rw e (digit_test t)

pub lowest_digit : (s : ℕ) → s % 2 ≡ digit (member s 0)
lowest_digit s = rw div-one at (digit_member s 0)

-- the members above 0 are those of the half, each one more
pub member_suc : (s k : ℕ) → member s (suc k) ≡ member (s / 2) k
unfolding member
member_suc s k = rw (pow-succ', ← div-div-eq-div-mul)

-- An operation op on words that works by f on their digits works by g on membership, where g is f on tests.
module _ (op f : ℕ → ℕ → ℕ) (g : Bool → Bool → Bool)
    (shr : (s t k : ℕ) → op s t / 2 ^ k ≡ op (s / 2 ^ k) (t / 2 ^ k))
    (step : (s t : ℕ) → op s t ≡ op (s / 2) (t / 2) * 2 + f (s % 2) (t % 2))
    (digits : (t u : Bool) → f (digit t) (digit u) ≡ digit (g t u)) where
  pub op_lowest : (s t : ℕ) (x y : Bool) → s % 2 ≡ digit x → t % 2 ≡ digit y → op s t % 2 ≡ digit (g x y)
  op_lowest s t x y p q = rw (step s t, p, q, digits) (digits_mod (op (s / 2) (t / 2)) (digit_lt (g x y)))

  pub member_op : (s t k : ℕ) → member (op s t) k ≡ g (member s k) (member t k)
  member_op s t k =
      let low = op_lowest (s / 2 ^ k) (t / 2 ^ k) (member s k) (member t k) (digit_member s k) (digit_member t k) in
      member_digit (op s t) k (g (member s k) (member t k)) (rw shr low)

pub min_digits : (t u : Bool) → min (digit t) (digit u) ≡ digit (t && u)
min_digits true true = refl
min_digits true false = refl
min_digits false true = refl
min_digits false false = refl

pub max_digits : (t u : Bool) → max (digit t) (digit u) ≡ digit (t || u)
max_digits true true = refl
max_digits true false = refl
max_digits false true = refl
max_digits false false = refl

pub differ_digits : (t u : Bool) → differ (digit t) (digit u) ≡ digit (cond t (not u) u)
differ_digits true true = refl
differ_digits true false = refl
differ_digits false true = refl
differ_digits false false = refl

-- ---- the members after each operation

pub member_empty : (k : ℕ) → member 0 k ≡ false
member_empty k = member_digit 0 k false (ap (λ (n : ℕ). n % 2) (zero-div (2 ^ k)))

pub member_union : (s t k : ℕ) → member (union s t) k ≡ (member s k || member t k)
unfolding union
member_union = member_op bit_or max ◌||◌ or_shr or_step max_digits

pub member_intersection : (s t k : ℕ) → member (bit_and s t) k ≡ (member s k && member t k)
member_intersection = member_op bit_and min ◌&&◌ and_shr and_step min_digits

pub member_difference : (s t k : ℕ) → member (difference s t) k ≡ (member s k && not (member t k))
unfolding difference
member_difference s t k =
    member_op bit_xor differ (λ t u. cond t (not u) u) xor_shr xor_step differ_digits s (bit_and s t) k
    ∙ ap (λ (u : Bool). cond (member s k) (not u) u) (member_intersection s t k)
    ∙ both (member s k) (member t k)
  where
    both : (t u : Bool) → cond t (not (t && u)) (t && u) ≡ (t && not u)
    both true u = refl
    both false u = refl

pub member_single : (j k : ℕ) → member (single j) k ≡ eqb k j
unfolding single
member_single zero zero = member_digit 1 0 true refl
member_single zero (suc k) = member_suc 1 k ∙ member_empty k ∙ sym (eqb-suc-zero k)
member_single (suc j) zero = member_digit (2 ^ suc j) 0 false (rw (div-one, pow-suc, mul-mod_left)) ∙ sym (eqb-zero-suc j)
member_single (suc j) (suc k) =
    member_suc (2 ^ suc j) k
    ∙ rw (pow-suc, mul-div_cancel (2 ^ j) (zero-lt-suc 1), eqb-suc-suc) (member_single j k)

-- ---- one number more, one number less

pub with_inside : (w s k : ℕ) → k < w → with w s k ≡ union s (single k)
unfolding with
with_inside w s k h = rw (lt-ltb k w h)

pub with_outside : (w s k : ℕ) → w ≤ k → with w s k ≡ s
unfolding with
with_outside w s k h = rw (le-ltb k w h)

pub without_inside : (w s k : ℕ) → k < w → without w s k ≡ difference s (single k)
unfolding without
without_inside w s k h = rw (lt-ltb k w h)

pub without_outside : (w s k : ℕ) → w ≤ k → without w s k ≡ s
unfolding without
without_outside w s k h = rw (le-ltb k w h)

pub member_with : (w s j k : ℕ) → j < w → member (with w s j) k ≡ (member s k || eqb k j)
member_with w s j k h = rw (with_inside w s j h, member_union, member_single)

pub member_without : (w s j k : ℕ) → j < w → member (without w s j) k ≡ (member s k && not (eqb k j))
member_without w s j k h = rw (without_inside w s j h, member_difference, member_single)

-- ---- the width

pub member_outside : (w s k : ℕ) → s < 2 ^ w → w ≤ k → member s k ≡ false
member_outside w s k h l = member_digit s k false (ap (λ (n : ℕ). n % 2) (div-eq_of_lt (lt_of_lt_of_le h (pow_mono l))))

pub member_inside : (w s k : ℕ) → s < 2 ^ w → member s k ≡ true → k < w
member_inside w s k h m =
    by_test (ltb k w) (ltb-true k w) (λ e. absurd (false≢true (sym (member_outside w s k h (ltb-false k w e)) ∙ m)))

pub half_fits : (w s : ℕ) → s < 2 ^ suc w → s / 2 < 2 ^ w
half_fits w s h = let twice : s < 2 ^ w * 2 = rw pow-suc at h in omega arith

pub same_halves : (s t : ℕ) → s % 2 ≡ t % 2 → s / 2 ≡ t / 2 → s ≡ t
same_halves s t low high = omega arith

-- two words that have the same members are the same word
pub same_members : (w s t : ℕ) → s < 2 ^ w → t < 2 ^ w → ((k : ℕ) → k < w → member s k ≡ member t k) → s ≡ t
same_members zero s t hs ht e = lt-one hs ∙ sym (lt-one ht)
same_members (suc w) s t hs ht e =
    let above : (k : ℕ) → k < w → member (s / 2) k ≡ member (t / 2) k = λ k h. sym (member_suc s k) ∙ e (suc k) (suc-le-suc h) ∙ member_suc t k in
    same_halves s t (lowest_digit s ∙ ap digit (e 0 (zero-lt-suc w)) ∙ sym (lowest_digit t))
    (same_members w (s / 2) (t / 2) (half_fits w s hs) (half_fits w t ht) above)

-- a word that has no member is 0
pub no_members : (w s : ℕ) → s < 2 ^ w → ((k : ℕ) → k < w → member s k ≡ false) → s ≡ 0
no_members w s h e = same_members w s 0 h (pow_pos w) (λ k l. e k l ∙ sym (member_empty k))

pub union_fits : (w s t : ℕ) → s < 2 ^ w → t < 2 ^ w → union s t < 2 ^ w
unfolding union
union_fits = or_lt

pub difference_fits : (w s t : ℕ) → s < 2 ^ w → difference s t < 2 ^ w
unfolding difference
difference_fits w s t h = xor_lt w s (bit_and s t) h (lt_of_le_of_lt (and_le_l s t) h)

pub single_fits : (w k : ℕ) → k < w → single k < 2 ^ w
unfolding single
single_fits w k h = pow-lt h

pub with_fits : (w s k : ℕ) → s < 2 ^ w → with w s k < 2 ^ w
with_fits w s k h =
    by_test (ltb k w)
    (λ e. rw (with_inside w s k (ltb-true k w e)) (union_fits w s (single k) h (single_fits w k (ltb-true k w e))))
    (λ e. rw (with_outside w s k (ltb-false k w e)) h)

pub without_fits : (w s k : ℕ) → s < 2 ^ w → without w s k < 2 ^ w
without_fits w s k h =
    by_test (ltb k w)
    (λ e. rw (without_inside w s k (ltb-true k w e)) (difference_fits w s (single k) h))
    (λ e. rw (without_outside w s k (ltb-false k w e)) h)

-- 1 shifted by k within w digits
pub single_shifted : (w k : ℕ) → k < w → 1 * 2 ^ k % 2 ^ w ≡ single k
unfolding single
single_shifted w k h = rw one-mul (mod-eq_of_lt (single_fits w k h))

-- ---- inclusion

pub within_at : (s t : ℕ) → within s t ≡ true → (k : ℕ) → member s k ≡ true → member t k ≡ true
unfolding within
within_at s t h k m =
    ap (λ (n : ℕ). member n k) (sym (eqb-true (union s t) t h)) ∙ member_union s t k ∙ ap (λ (u : Bool). u || member t k) m

pub within_by : (w s t : ℕ) → s < 2 ^ w → t < 2 ^ w → ((k : ℕ) → k < w → member s k ≡ true → member t k ≡ true) → within s t ≡ true
unfolding within
within_by w s t hs ht f =
    eq-eqb (union s t) t
    (same_members w (union s t) t (union_fits w s t hs ht) ht (λ k h. member_union s t k ∙ absorbed (member s k) (member t k) (f k h)))
  where
    absorbed : (t u : Bool) → (t ≡ true → u ≡ true) → (t || u) ≡ u
    absorbed true u f = sym (f refl)
    absorbed false u f = refl

pub within_no_difference : (w s t : ℕ) → s < 2 ^ w → within s t ≡ true → difference s t ≡ 0
within_no_difference w s t hs e =
    no_members w (difference s t) (difference_fits w s t hs) (λ k h. member_difference s t k ∙ neither (member s k) (member t k) (within_at s t e k))
  where
    neither : (t u : Bool) → (t ≡ true → u ≡ true) → (t && not u) ≡ false
    neither true u f = ap not (f refl)
    neither false u f = refl

pub no_difference_within : (w s t : ℕ) → s < 2 ^ w → t < 2 ^ w → difference s t ≡ 0 → within s t ≡ true
no_difference_within w s t hs ht e =
    within_by w s t hs ht (λ k h. both (member s k) (member t k) (sym (member_difference s t k) ∙ rw e (member_empty k)))
  where
    both : (t u : Bool) → (t && not u) ≡ false → t ≡ true → u ≡ true
    both true true e f = refl
    both true false e f = sym e
    both false u e f = absurd (false≢true f)

pub within_iff_difference : (w s t : ℕ) → s < 2 ^ w → t < 2 ^ w → within s t ≡ eqb (difference s t) 0
within_iff_difference w s t hs ht =
    same_tests (within s t) (eqb (difference s t) 0) (λ e. eq-eqb (difference s t) 0 (within_no_difference w s t hs e))
    (λ e. no_difference_within w s t hs ht (eqb-true (difference s t) 0 e))

-- ---- the least member

-- 0 where it is a member, and else one more than the least member of the other digits
pub least_step : (w s : ℕ) → least (suc w) s ≡ cond (member s 0) 0 (suc (least w (s / 2)))
unfolding least count_trailing_zeros
least_step w s = ap (λ (d : ℕ). under d (least w (s / 2))) (lowest_digit s) ∙ by_digit (member s 0)
  where
    by_digit : (t : Bool) → under (digit t) (least w (s / 2)) ≡ cond t 0 (suc (least w (s / 2)))
    by_digit true = refl
    by_digit false = refl

pub half_some : (s : ℕ) → member s 0 ≡ false → (s ≡ 0 → ⊥) → s / 2 ≡ 0 → ⊥
half_some s e f z = f (omega (arith, lowest_digit s ∙ ap digit e))

pub least_member : (w s : ℕ) → s < 2 ^ w → (s ≡ 0 → ⊥) → member s (least w s) ≡ true
least_member zero s h f = absurd (f (lt-one h))
least_member (suc w) s h f =
    let later : member s 0 ≡ false → member (s / 2) (least w (s / 2)) ≡ true = λ e. least_member w (s / 2) (half_fits w s h) (half_some s e f) in
    rw least_step (by_test (member s 0) (λ e. rw e e) (λ e. rw (e, member_suc) (later e)))

pub least_inside : (w s : ℕ) → s < 2 ^ w → (s ≡ 0 → ⊥) → least w s < w
least_inside w s h f = member_inside w s (least w s) h (least_member w s h f)

-- what is below the least member: 0 is no member, and the rest is below that of the other digits
pub least_above : (w s k : ℕ) → k < least (suc w) s → (member s 0 ≡ false) × (k ≤ least w (s / 2))
least_above w s k h =
    by_test (member s 0)
    (λ e. let none : k < 0 = rw (least_step, e) at h in absurd (omega arith))
    (λ e. let some : k < suc (least w (s / 2)) = rw (least_step, e) at h in (e, omega arith))

-- no number below the least member is a member
pub least_first : (w s k : ℕ) → k < least w s → member s k ≡ false
unfolding least count_trailing_zeros
least_first zero s k h = absurd (omega arith)
least_first (suc w) s zero h = (least_above w s zero h).0
least_first (suc w) s (suc k) h = member_suc s k ∙ least_first w (s / 2) k (least_above w s (suc k) h).1

-- ---- the order of words

-- sets that don't meet have no number in common
pub apart_at : (s t : ℕ) → meet s t ≡ false → (k : ℕ) → (member s k && member t k) ≡ false
unfolding meet
apart_at s t h k =
    sym (member_intersection s t k) ∙ rw (eqb-true (bit_and s t) 0 (not-false (eqb (bit_and s t) 0) h)) (member_empty k)

-- and sets that meet have one
pub meet_common : (w s t : ℕ) → s < 2 ^ w → meet s t ≡ true → (k : ℕ) × (k < w) × ((member s k && member t k) ≡ true)
unfolding meet
meet_common w s t fits h =
    let some = eqb-false (bit_and s t) 0 (not-true (eqb (bit_and s t) 0) h) in
    let low : bit_and s t < 2 ^ w = (let less = and_le_l s t in omega arith) in (
      least w (bit_and s t),
      least_inside w (bit_and s t) low some,
      sym (member_intersection s t (least w (bit_and s t))) ∙ least_member w (bit_and s t) low some,
    )

pub below_pow : (s : ℕ) → s < 2 ^ s
below_pow zero = pow_pos zero
below_pow (suc s) = rw pow-suc (omega (arith, below_pow s))

pub intersection_again : (s t : ℕ) → bit_and s (bit_and s t) ≡ bit_and s t
intersection_again s t =
    let fits : (u : ℕ) → bit_and s u < 2 ^ s = λ u. lt_of_le_of_lt (and_le_l s u) (below_pow s) in
    same_members s (bit_and s (bit_and s t)) (bit_and s t) (fits (bit_and s t)) (fits t)
    (λ k h. simp member_intersection (again (member s k) (member t k)))
  where
    again : (t u : Bool) → (t && (t && u)) ≡ (t && u)
    again true u = refl
    again false u = refl

-- what s has outside t, and what it has in t, make s
pub difference_add : (s t : ℕ) → difference s t + bit_and s t ≡ s
unfolding difference
difference_add s t = omega (arith, xor_add_and s (bit_and s t), intersection_again s t)

pub member_common : (s k : ℕ) → member s k ≡ true → bit_and s (single k) ≡ 0 → ⊥
member_common s k m z =
    let here : member (bit_and s (single k)) k ≡ true = rw (member_intersection, m, member_single) (eq-eqb k k refl) in
    false≢true (sym (member_empty k) ∙ rw z at here)

-- a member taken away leaves a smaller number, so the word is a measure of a walk over its members
pub without_falls : (w s k : ℕ) → k < w → member s k ≡ true → without w s k < s
without_falls w s k h m =
    let common = member_common s k m in
    rw (without_inside w s k h) (omega (arith, difference_add s (single k)))

pub union_grows : (s t : ℕ) → s ≤ union s t
unfolding union
union_grows s t = omega (arith, or_add_and s t, and_le_r s t)

pub union_grows_more : (s t : ℕ) → (union s t ≡ s → ⊥) → s < union s t
union_grows_more s t f = omega (arith, union_grows s t)

-- ---- the word less one

-- one less than a word: of its members it has all but the least
pub less_one_member : (w s k : ℕ) → s < 2 ^ w → (s ≡ 0 → ⊥) → member s k ≡ true → member (s - 1) k ≡ not (eqb k (least w s))
less_one_member zero s k h f m = absurd (f (lt-one h))
less_one_member (suc w) s zero h f m =
    rw (least_step, m) (member_digit (s - 1) 0 false (rw div-one (omega (arith, lowest_digit s ∙ ap digit m))))
less_one_member (suc w) s (suc k) h f m =
    rw (member_suc, least_step)
    (by_test (member s 0)
    (λ e.
    let odd = lowest_digit s ∙ ap digit e in
    let half : (s - 1) / 2 ≡ s / 2 = omega arith in
    rw (e, half, ← member_suc, m, eqb-suc-zero))
    (λ e.
    let even = lowest_digit s ∙ ap digit e in
    let half : (s - 1) / 2 ≡ s / 2 - 1 = omega arith in
    rw (e, half, eqb-suc-suc) (less_one_member w (s / 2) k (half_fits w s h) (half_some s e f) (sym (member_suc s k) ∙ m))))

pub without_empty : (w k : ℕ) → without w 0 k ≡ 0
without_empty w k =
    by_test (ltb k w)
    (λ e. rw (without_inside w 0 k (ltb-true k w e)) (omega (arith, difference_add 0 (single k))))
    (λ e. without_outside w 0 k (ltb-false k w e))

-- what a word and the word less one have in common is the word without its least member; of the empty word nothing is left, whatever t is
pub less_one_common : (w s t : ℕ) → s < 2 ^ w → ((s ≡ 0 → ⊥) → t ≡ s - 1) → bit_and s t ≡ without w s (least w s)
less_one_common w s t h less =
    by_test (eqb s 0)
    (λ e. rw (eqb-true s 0 e, without_empty w (least w 0)) (omega (arith, and_le_l 0 t)))
    (λ e. some (eqb-false s 0 e))
  where
    both : (t u v : Bool) → (t ≡ true → u ≡ v) → (t && u) ≡ (t && v)
    both true u v f = f refl
    both false u v f = refl

    some : (s ≡ 0 → ⊥) → bit_and s t ≡ without w s (least w s)
    some f =
        rw (less f)
        (same_members w (bit_and s (s - 1)) (without w s (least w s)) (lt_of_le_of_lt (and_le_l s (s - 1)) h) (without_fits w s (least w s) h)
        (λ k l.
        rw (member_intersection, member_without w s (least w s) k (least_inside w s h f))
        (both (member s k) (member (s - 1) k) (not (eqb k (least w s))) (less_one_member w s k h f))))
