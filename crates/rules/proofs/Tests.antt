-- Laws of the tests that compute: all and any below a bound, implications, choices. A test holds where it equals true.
use mathlib.Core.Path.{◌≡◌, refl, sym, ◌∙◌, ap}
use mathlib.Core.Bool.{Bool, true, false, ◌&&◌, ◌||◌, and_comm, or_comm, false≢true}
use mathlib.Core.Option.{Option, none, some}
use Prim.Native.Nat.{ℕ, zero, suc, ◌<◌}
use native.Mathlib.Omega.{arith}
use lib.Dec.{eqb}
use borrow.Author.Tests.{eqb-true, eqb-false}
use Rattle.rules.specs.Tests.{◌⇒◌, all, any, from}

-- cases that keep the equation
pub by_bool : {P : Type 0} (t : Bool) → (t ≡ true → P) → (t ≡ false → P) → P
by_bool true holds fails = holds refl
by_bool false holds fails = fails refl

pub by_parent : {P : Type 0} (o : Option ℕ) → (o ≡ none → P) → ((p : ℕ) → o ≡ some p → P) → P
by_parent none top child = top refl
by_parent (some p) top child = child p refl

-- a test that holds and fails
pub clash : {P : Type 0} (t : Bool) → t ≡ true → t ≡ false → P
clash t h g = absurd (false≢true (sym g ∙ h))

pub and_left : (s t : Bool) → (s && t) ≡ true → s ≡ true
and_left true t h = refl
and_left false t h = h

pub and_right : (s t : Bool) → (s && t) ≡ true → t ≡ true
and_right true t h = h
and_right false t h = clash false h refl

pub and_both : (s t : Bool) → s ≡ true → t ≡ true → (s && t) ≡ true
and_both true t h g = g
and_both false t h g = h

pub by_or : {P : Type 0} (s t : Bool) → (s || t) ≡ true → (s ≡ true → P) → (t ≡ true → P) → P
by_or true t h left right = left refl
by_or false t h left right = right h

pub or_left : (s t : Bool) → s ≡ true → (s || t) ≡ true
or_left true t h = refl
or_left false t h = clash false h refl

pub or_right : (s t : Bool) → t ≡ true → (s || t) ≡ true
or_right true t h = refl
or_right false t h = h

-- a test that can't hold fails
pub refuted : (t : Bool) → (t ≡ true → ⊥) → t ≡ false
refuted true never = absurd (never refl)
refuted false never = refl

pub or_fails_left : (s t : Bool) → (s || t) ≡ false → s ≡ false
or_fails_left true t h = h
or_fails_left false t h = refl

pub or_fails_right : (s t : Bool) → (s || t) ≡ false → t ≡ false
or_fails_right true t h = clash false (sym h) refl
or_fails_right false t h = h

-- from an implication and what it asks, what it gives; and back
pub implies : (s t : Bool) → (s ⇒ t) ≡ true → s ≡ true → t ≡ true
implies true t h g = h
implies false t h g = clash false g refl

pub implied : (s t : Bool) → (s ≡ true → t ≡ true) → (s ⇒ t) ≡ true
implied true t h = h refl
implied false t h = refl

-- what holds of a number wherever there is one
pub from_at : (o : Option ℕ) (f : ℕ → Bool) → from o true f ≡ true → (p : ℕ) → o ≡ some p → f p ≡ true
from_at o f h p e = rw e at h

pub from_by : (o : Option ℕ) (f : ℕ → Bool) → ((p : ℕ) → o ≡ some p → f p ≡ true) → from o true f ≡ true
from_by none f h = refl
from_by (some p) f h = h p refl

pub from_cong : {A B : Type 0} (o : Option ℕ) (missing : B) (then : ℕ → A → B) (f g : ℕ → A) → ((p : ℕ) → o ≡ some p → f p ≡ g p) → from o missing (λ p. then p (f p)) ≡ from o missing (λ p. then p (g p))
from_cong none missing then f g h = refl
from_cong (some p) missing then f g h = ap (then p) (h p refl)

-- there is no number
pub from_none : (o : Option ℕ) → from o true (λ p. false) ≡ true → o ≡ none
from_none none h = refl
from_none (some p) h = clash false h refl

-- a number below suc n is n or lies below n
pub by_last : {P : Type 0} (n k : ℕ) → k < suc n → (k ≡ n → P) → (k < n → P) → P
by_last n k l last below = by_bool (eqb k n) (λ e. last (eqb-true k n e)) (λ e. below (let ne = eqb-false k n e in omega arith))

pub all_at : (n : ℕ) (f : ℕ → Bool) → all n f ≡ true → (k : ℕ) → k < n → f k ≡ true
unfolding all
all_at zero f h k l = absurd (omega arith)
all_at (suc n) f h k l =
    by_last n k l (λ e. rw e (and_left (f n) (all n f) h)) (λ below. all_at n f (and_right (f n) (all n f) h) k below)

pub all_by : (n : ℕ) (f : ℕ → Bool) → ((k : ℕ) → k < n → f k ≡ true) → all n f ≡ true
unfolding all
all_by zero f h = refl
all_by (suc n) f h = and_both (f n) (all n f) (h n (omega arith)) (all_by n f (λ k l. h k (omega arith)))

-- one number more, as a loop that counts up adds it
pub all_more : (n : ℕ) (f : ℕ → Bool) → all (suc n) f ≡ (all n f && f n)
unfolding all
all_more n f = and_comm (f n) (all n f)

pub any_at : (n : ℕ) (f : ℕ → Bool) → any n f ≡ true → (k : ℕ) × (k < n) × (f k ≡ true)
unfolding any
any_at zero f h = clash false h refl
any_at (suc n) f h =
    by_or (f n) (any n f) h (λ here. (n, omega arith, here))
    (λ below. let found = any_at n f below in (found.0, (let l = found.1 in omega arith), found.2))

pub any_by : (n : ℕ) (f : ℕ → Bool) (k : ℕ) → k < n → f k ≡ true → any n f ≡ true
unfolding any
any_by zero f k l h = absurd (omega arith)
any_by (suc n) f k l h =
    by_last n k l (λ e. or_left (f n) (any n f) (rw e at h)) (λ below. or_right (f n) (any n f) (any_by n f k below h))

pub any_none : (n : ℕ) (f : ℕ → Bool) → any n f ≡ false → (k : ℕ) → k < n → f k ≡ false
any_none n f h k l = refuted (f k) (λ g. clash (any n f) (any_by n f k l g) h)

pub any_more : (n : ℕ) (f : ℕ → Bool) → any (suc n) f ≡ (any n f || f n)
unfolding any
any_more n f = or_comm (f n) (any n f)

-- two tests are equal where each holds if the other does
pub same : (s t : Bool) → (s ≡ true → t ≡ true) → (t ≡ true → s ≡ true) → s ≡ t
same true t into back = sym (into refl)
same false t into back = sym (refuted t (λ h. false≢true (back h)))

-- tests that agree below the bound agree over all of it
pub all_cong : (n : ℕ) (f g : ℕ → Bool) → ((k : ℕ) → k < n → f k ≡ g k) → all n f ≡ all n g
unfolding all
all_cong zero f g h = refl
all_cong (suc n) f g h = rw (h n (omega arith), all_cong n f g (λ k l. h k (omega arith)))

pub any_cong : (n : ℕ) (f g : ℕ → Bool) → ((k : ℕ) → k < n → f k ≡ g k) → any n f ≡ any n g
unfolding any
any_cong zero f g h = refl
any_cong (suc n) f g h = rw (h n (omega arith), any_cong n f g (λ k l. h k (omega arith)))
