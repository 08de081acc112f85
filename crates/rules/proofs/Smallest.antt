-- The smallest number below a bound of which a test holds: what it is, that there is one wherever the test holds of any, and only one. Assumes nothing.
use mathlib.Core.Path.{◌≡◌, refl, sym, ◌∙◌, ap}
use mathlib.Core.Bool.{Bool, true, false}
use mathlib.Core.Option.{none, some, none-ne-some}
use Prim.Native.Nat.{ℕ, zero, suc, ◌<◌}
use native.Mathlib.Omega.{arith}
use lib.Dec.{ltb}
use borrow.Author.Tests.{ltb-true, ltb-false}
use Rattle.rules.specs.Tests.{any}
use Rattle.rules.specs.Reasons.{smallest}
use Rattle.rules.proofs.Tests.{by_bool, by_parent, clash, by_last, any_at, any_by}

-- k is the smallest number below n of which the test holds.
pub record IsSmallest (n : ℕ) (test : ℕ → Bool) (k : ℕ) : Type 0 where
  pub known : k < n
  pub holds : test k ≡ true
  pub first : (j : ℕ) → j < k → test j ≡ false

pub smallest_none : (n : ℕ) (test : ℕ → Bool) → smallest n test ≡ none → (k : ℕ) → k < n → test k ≡ false
unfolding smallest
smallest_none zero test e k l = absurd (omega arith)
smallest_none (suc n) test e k l =
    by_parent (smallest n test)
    (λ nothing.
    by_bool (test n) (λ t. absurd (none-ne-some n (sym (rw (nothing, t) at e))))
    (λ t. by_last n k l (λ q. rw q t) (λ below. smallest_none n test nothing k below)))
    (λ j found. absurd (none-ne-some j (sym (rw found at e))))

pub smallest_is : (n : ℕ) (test : ℕ → Bool) (k : ℕ) → smallest n test ≡ some k → IsSmallest n test k
unfolding smallest
smallest_is zero test k e = absurd (none-ne-some k e)
smallest_is (suc n) test k e =
    by_parent (smallest n test)
    (λ nothing.
    by_bool (test n)
    (λ t.
    let q : n ≡ k = (let here : some n ≡ some k = rw (nothing, t) at e in cc) in
    record { known = omega arith; holds = rw q at t; first = λ j l. smallest_none n test nothing j (omega arith) })
    (λ t. absurd (none-ne-some k (rw (nothing, t) at e))))
    (λ j found.
    let q : j ≡ k = (let here : some j ≡ some k = rw found at e in cc) in
    let s = smallest_is n test k (found ∙ ap some q) in
    record { known = (let l = s.known in omega arith); holds = s.holds; first = s.first })

-- there is one wherever the test holds of any number
pub smallest_found : (n : ℕ) (test : ℕ → Bool) → any n test ≡ true → (k : ℕ) × (smallest n test ≡ some k)
smallest_found n test h =
    by_parent (smallest n test)
    (λ nothing.
    let found = any_at n test h in
    clash (test found.0) found.2 (smallest_none n test nothing found.0 found.1))
    (λ k e. (k, e))

-- and only one is the smallest
pub smallest_one : (n : ℕ) (test : ℕ → Bool) (j k : ℕ) → IsSmallest n test j → IsSmallest n test k → j ≡ k
smallest_one n test j k s t =
    by_bool (ltb j k) (λ l. clash (test j) s.holds (t.first j (ltb-true j k l)))
    (λ l.
    by_bool (ltb k j) (λ g. clash (test k) t.holds (s.first k (ltb-true k j g)))
    (λ g. let a = ltb-false j k l in let b = ltb-false k j g in omega arith))

-- tests that agree below the bound have the same smallest number
pub smallest_cong : (n : ℕ) (f g : ℕ → Bool) → ((k : ℕ) → k < n → f k ≡ g k) → smallest n f ≡ smallest n g
unfolding smallest
smallest_cong zero f g h = refl
smallest_cong (suc n) f g h = rw (h n (omega arith), smallest_cong n f g (λ k l. h k (omega arith)))

-- one number more that fails the test, as a search passes it
pub smallest_passed : (n : ℕ) (test : ℕ → Bool) → smallest n test ≡ none → test n ≡ false → smallest (suc n) test ≡ none
unfolding smallest
smallest_passed n test e t = rw (e, t)

-- so what is the smallest is found
pub smallest_from : (n : ℕ) (test : ℕ → Bool) (k : ℕ) → IsSmallest n test k → smallest n test ≡ some k
smallest_from n test k s =
    let found = smallest_found n test (any_by n test k s.known s.holds) in
    found.1 ∙ ap some (smallest_one n test found.0 k (smallest_is n test found.0 found.1) s)
