-- The set of the numbers of which a test holds: its members, and that it is the only word that has them. Assumes nothing.
use mathlib.Core.Path.{◌≡◌, refl, sym, ◌∙◌, ap}
use mathlib.Core.Bool.{Bool, true, ◌&&◌, and-false, or-false, or-true}
use mathlib.Core.List.{List}
use Prim.Native.Nat.{ℕ, zero, suc, ◌+◌, ◌-◌, ◌*◌, ◌/◌, ◌%◌, ◌≤◌, ◌<◌, ◌^◌}
use mir.Val.{bool_byte}
use native.Mathlib.Omega.{arith}
use native.Mathlib.Nat.{mod-eq_of_lt, mul-le-mul_right, mul_comm}
use borrow.Author.Tests.{eqb-true, eqb-false, eq-eqb, ne_eqb, lt-ltb, le-ltb, ltb-true, ltb-false}
use lib.Dec.{eqb, ltb}
use lib.ListN.{length, get_or, get_or-eq_default}
use lib.Pow.{pow_mono, pow-add, field, mod-mod-pow, shr-shr}
use lib.Pow as pow
use Rattle.sets.specs.Sets.{member}
use Rattle.sets.proofs.Laws.{member_empty, member_with, with_fits, same_members, below_pow}
use Rattle.rules.proofs.Tests.{by_bool}
use Rattle.views.specs.Reach.{descends_known}
use Rattle.steps.specs.Changes.{set_of, family_in, group_in}

-- one number more below the bound
one_more : (n k : ℕ) → (k ≡ n → ⊥) → ltb k (suc n) ≡ ltb k n
one_more n k other =
    by_bool (ltb k n) (λ t. let l = ltb-true k n t in lt-ltb k (suc n) (omega arith) ∙ sym t)
    (λ t. let l = ltb-false k n t in le-ltb k (suc n) (omega arith) ∙ sym t)

module _ (test : ℕ → Bool) where
  pub set_fits : (n : ℕ) → set_of n test < 2 ^ 64
  unfolding set_of
  set_fits zero = omega arith
  set_fits (suc n) = by_bool (test n) (λ t. rw t (with_fits 64 (set_of n test) n (set_fits n))) (λ t. rw t (set_fits n))

  -- the number at the bound, and another, where the set below the bound is known
  itself : (n : ℕ) → suc n ≤ 64 → member (set_of n test) n ≡ (ltb n n && test n) → member (set_of (suc n) test) n ≡ (ltb n (suc n) && test n)
  unfolding set_of
  itself n l below =
      rw (lt-ltb n (suc n) (omega arith))
      (by_bool (test n) (λ t. rw (t, member_with 64 (set_of n test) n n (omega arith), eq-eqb n n refl, or-true (member (set_of n test) n)))
      (λ t. rw t (below ∙ ap (λ (b : Bool). b && test n) (le-ltb n n (omega arith)))))

  other : (n k : ℕ) → suc n ≤ 64 → (k ≡ n → ⊥) → member (set_of n test) k ≡ (ltb k n && test k) → member (set_of (suc n) test) k ≡ (ltb k (suc n) && test k)
  unfolding set_of
  other n k l differs below =
      rw (one_more n k differs)
      (by_bool (test n) (λ t. rw (t, member_with 64 (set_of n test) n k (omega arith), ne_eqb k n differs, or-false (member (set_of n test) k)) below)
      (λ t. rw t below))

  pub set_members : (n : ℕ) → n ≤ 64 → (k : ℕ) → member (set_of n test) k ≡ (ltb k n && test k)
  unfolding set_of
  set_members zero l k = rw (le-ltb k 0 (omega arith)) (member_empty k)
  set_members (suc n) l k =
      by_bool (eqb k n) (λ e. rw (eqb-true k n e) (itself n l (set_members n (omega arith) n)))
      (λ e. other n k l (eqb-false k n e) (set_members n (omega arith) k))

-- ---- gathered part by part

-- Of the k numbers from `first` on those of which the test holds, each moved down so that the first is 0.
pub record Moved (test : ℕ → Bool) (first k s : ℕ) : Type 0 where
  pub fits : s < 2 ^ k
  pub members : (j : ℕ) → j < k → member s j ≡ test (first + j)

-- a set beside another that is moved up by m: below m the one, and from m on the other
member_low : (high m low j : ℕ) → low < 2 ^ m → j < m → member (high * 2 ^ m + low) j ≡ member low j
unfolding member
member_low high m low j fits l =
    let n = high * 2 ^ m + low in
    let i = m - j - 1 in
    let all : i + 1 + j ≡ m = omega arith in
    let part : low / 2 ^ j ≡ n / 2 ^ j % 2 ^ (i + 1) = ap (λ x. x / 2 ^ j) (sym (pow.low high m fits)) ∙ (rw all at (field n (i + 1) j)) in
    ap (λ x. eqb x 1) (sym (ap (λ x. x % 2) part ∙ mod-mod-pow (n / 2 ^ j) i 1))

member_high : (high m low j : ℕ) → low < 2 ^ m → member (high * 2 ^ m + low) (m + j) ≡ member high j
unfolding member
member_high high m low j fits = ap (λ x. eqb (x % 2) 1) (sym (shr-shr (high * 2 ^ m + low) m j) ∙ ap (λ x. x / 2 ^ j) (pow.high high m fits))

module _ (test : ℕ → Bool) where
  pub moved_none : (first : ℕ) → Moved test first 0 0
  moved_none first = record { fits = omega arith; members = λ j l. absurd (omega arith) }

  moved_one : (first : ℕ) → Moved test first 1 (bool_byte (test first))
  unfolding member
  moved_one first = record { fits = by_bool (test first) (λ e. rw e (omega arith)) (λ e. rw e (omega arith)); members = only }
    where
      alone : (t : Bool) → member (bool_byte t) 0 ≡ t
      alone t = by_bool t (λ e. rw e) (λ e. rw e)

      only : (j : ℕ) → j < 1 → member (bool_byte (test first)) j ≡ test (first + j)
      only j l =
          let e : j ≡ 0 = omega arith in
          let place : first + 0 ≡ first = omega arith in
          rw (e, place) (alone (test first))

  pub moved_join : (first m k low high : ℕ) → Moved test first m low → Moved test (first + m) k high → Moved test first (m + k) (high * 2 ^ m + low)
  moved_join first m k low high lower upper = record { fits = fits; members = members }
    where
      fits : high * 2 ^ m + low < 2 ^ (m + k)
      fits =
          let room = upper.fits in
          let whole = mul-le-mul_right (2 ^ m) room in
          let below = lower.fits in
          rw (pow-add 2 m k) (omega (arith, whole, mul_comm (2 ^ m) (2 ^ k)))

      members : (j : ℕ) → j < m + k → member (high * 2 ^ m + low) j ≡ test (first + j)
      members j l =
          by_bool (ltb j m) (λ t. member_low high m low j lower.fits (ltb-true j m t) ∙ lower.members j (ltb-true j m t))
          (λ t. let past = ltb-false j m t in
          let place : m + (j - m) ≡ j = omega arith in
          let same_place : first + m + (j - m) ≡ first + j = omega arith in
          (rw place at (member_high high m low (j - m) lower.fits)) ∙ upper.members (j - m) (omega arith) ∙ ap test same_place)

  -- Doubling a set moves its numbers up by one and leaves room for one more below.
  pub moved_more : (first k s : ℕ) → Moved test (first + 1) k s → Moved test first (k + 1) (s + s + bool_byte (test first))
  moved_more first k s h =
      let twice : s * 2 ^ 1 ≡ s + s = omega arith in
      let more : 1 + k ≡ k + 1 = omega arith in
      rw (twice, more) at (moved_join first 1 k (bool_byte (test first)) s (moved_one first) h)

  pub moved_fits : (first k s : ℕ) → k ≤ 64 → Moved test first k s → s < 2 ^ 64
  moved_fits first k s l h =
      let fits = h.fits in
      let wider : 2 ^ k ≤ 2 ^ 64 = pow_mono {i = k} {j = 64} l in
      omega arith

  pub moved_all : (s : ℕ) → Moved test 0 64 s → s ≡ set_of 64 test
  moved_all s h = same_members 64 s (set_of 64 test) h.fits (set_fits test 64) (λ k l. let place : 0 + k ≡ k = omega arith in
      h.members k l ∙ ap test place ∙ sym (set_members test 64 (omega arith) k ∙ rw (lt-ltb k 64 l)))

-- A set of numbers below 64 is a word of 64 bits.
pub members_fit : (s : ℕ) → ((k : ℕ) → member s k ≡ true → k < 64) → s < 2 ^ 64
members_fit s inside =
    let narrow = below_pow s in
    let fits = set_fits (member s) 64 in
    let wider : 2 ^ s ≤ 2 ^ (s + 64) = pow_mono {i = s} (omega arith) in
    let wider64 : 2 ^ 64 ≤ 2 ^ (s + 64) = pow_mono {i = 64} (omega arith) in
    rw (same_members (s + 64) s (set_of 64 (member s)) (omega arith) (omega arith) same_member) fits
  where
    same_member : (k : ℕ) → k < s + 64 → member s k ≡ member (set_of 64 (member s)) k
    same_member k l =
        sym (set_members (member s) 64 (omega arith) k
        ∙ by_bool (member s k) (λ t. rw (t, lt-ltb k 64 (inside k t))) (λ t. rw t (and-false (ltb k 64)) ∙ sym t))

-- A word of a's family is its set.
pub family_found : (parents : List ℕ) (a gone : ℕ) → gone < 2 ^ 64 → ((k : ℕ) → member gone k ≡ (ltb k 64 && descends_known parents (a % 64) k)) → gone ≡ family_in parents a
family_found parents a gone fits members =
    same_members 64 gone (family_in parents a) fits (set_fits (descends_known parents (a % 64)) 64)
    (λ k l. members k ∙ sym (set_members (descends_known parents (a % 64)) 64 (omega arith) k))

-- A word of the numbers that drain under a tells them, where there are 64 states.
pub group_members : (states : List ℕ) → length states ≡ 64 → (a : ℕ) → a < 64 → (k : ℕ) → member (group_in states a) k ≡ eqb (get_or states k 0) (3 + a)
group_members states long a la k =
    rw (mod-eq_of_lt la)
    (set_members (λ j. eqb (get_or states j 0) (3 + a)) 64 (omega arith) k
    ∙ by_bool (ltb k 64) (λ t. rw t)
    (λ t. let past : get_or states k 0 ≡ 0 = get_or-eq_default states 0 (rw long (ltb-false k 64 t)) in
    rw (t, past) (sym (ne_eqb 0 (3 + a) (λ e. absurd (omega arith))))))
