-- A bench of the rules that has nothing outside the 64 numbers, the 128 instruments and the two modes is that of a record: the arrays are written down from
-- what they are to hold. Assumes nothing.
use mathlib.Core.Path.{◌≡◌, refl, sym, ◌∙◌, ap}
use mathlib.Core.Bool.{Bool, true, false, ◌||◌, cond}
use mathlib.Core.List.{List, [], ◌∷◌}
use mathlib.Core.Option.{Option, none, some}
use Prim.Native.Nat.{ℕ, zero, suc, ◌^◌, ◌≤◌, ◌<◌}
use native.Mathlib.Omega.{arith}
use borrow.Author.Tests.{eq-eqb, ne_eqb, lt-ltb, ltb-true, ltb-false}
use lib.Dec.{eqb, ltb}
use lib.ListN.{length, get_or, get_or-eq_default}
use Rattle.sets.specs.Sets.{member, with}
use Rattle.sets.proofs.Laws.{member_empty, member_with, with_fits}
use Rattle.rules.specs.Tests.{from}
use Rattle.rules.specs.Bench.{State, free, running, committed, draining}
use Rattle.rules.specs.Bench as rules
use Rattle.rules.proofs.Tests.{by_bool, by_last, or_right}
use Rattle.views.specs.View.{state_of, parent_of, sets_of}
use Rattle.tables.proofs.Stores.{same_bench}
use Rattle.bench.specs.declared.Bench.{Bench}
use Rattle.bench.specs.Record.{viewed}
use Rattle.bench.proofs.Unique.{Fits, byte_of}

-- ---- lists and words made from what they are to hold

-- f 0 and so on, n of them
listed : ℕ → (ℕ → ℕ) → List ℕ
listed zero f = []
listed (suc n) f = f 0 ∷ listed n (λ k. f (suc k))

listed_long : (n : ℕ) (f : ℕ → ℕ) → length (listed n f) ≡ n
unfolding listed
listed_long zero f = refl
listed_long (suc n) f = ap suc (listed_long n (λ k. f (suc k)))

listed_at : (n : ℕ) (f : ℕ → ℕ) (k : ℕ) → k < n → get_or (listed n f) k 0 ≡ f k
unfolding listed
listed_at zero f k l = absurd (omega arith)
listed_at (suc n) f zero l = refl
listed_at (suc n) f (suc k) l = listed_at n (λ j. f (suc j)) k (omega arith)

listed_past : (n : ℕ) (f : ℕ → ℕ) (k : ℕ) → n ≤ k → get_or (listed n f) k 0 ≡ 0
listed_past n f k l = get_or-eq_default (listed n f) 0 (rw (listed_long n f) l)

-- the set of the numbers below n that pass a test
word_of : ℕ → (ℕ → Bool) → ℕ
word_of zero test = 0
word_of (suc n) test = cond (test n) (with 64 (word_of n test) n) (word_of n test)

word_fits : (n : ℕ) (test : ℕ → Bool) → word_of n test < 2 ^ 64
unfolding word_of
word_fits zero test = omega arith
word_fits (suc n) test =
    by_bool (test n) (λ t. rw t (with_fits 64 (word_of n test) n (word_fits n test))) (λ t. rw t (word_fits n test))

word_past : (n : ℕ) (test : ℕ → Bool) (k : ℕ) → n ≤ 64 → n ≤ k → member (word_of n test) k ≡ false
unfolding word_of
word_past zero test k fits l = member_empty k
word_past (suc n) test k fits l =
    by_bool (test n)
    (λ t. rw (t, member_with 64 (word_of n test) n k (omega arith), word_past n test k (omega arith) (omega arith)) (ne_eqb k n (λ e. omega arith)))
    (λ t. rw t (word_past n test k (omega arith) (omega arith)))

word_at : (n : ℕ) (test : ℕ → Bool) (k : ℕ) → n ≤ 64 → k < n → member (word_of n test) k ≡ test k
unfolding word_of
word_at zero test k fits l = absurd (omega arith)
word_at (suc n) test k fits l =
    by_last n k l
    (λ e. rw e (by_bool (test n)
    (λ t. rw (t, member_with 64 (word_of n test) n n (omega arith)) (or_right (member (word_of n test) n) (eqb n n) (eq-eqb n n refl)))
    (λ t. rw t (word_past n test n (omega arith) (omega arith)))))
    (λ below. by_bool (test n)
    (λ t. rw (t, member_with 64 (word_of n test) n k (omega arith), ne_eqb k n (λ e. omega arith)) (or_none (member (word_of n test) k) (test k) (word_at n test k (omega arith) below)))
    (λ t. rw t (word_at n test k (omega arith) below)))
  where
    or_none : (s t : Bool) → s ≡ t → (s || false) ≡ t
    or_none true t e = e
    or_none false t e = e

-- ---- a bench within the table is a record

-- A byte means this state. A head above 63 has none, and neither has a state of which it is said that a byte from 3 to 66 means nothing.
abbrev pub HasByte : State → Type 0
HasByte s = state_of 64 (byte_of s) ≡ s

pub free_byte : HasByte free
unfolding byte_of
free_byte = refl

pub running_byte : HasByte running
unfolding byte_of
running_byte = refl

pub committed_byte : HasByte committed
unfolding byte_of
committed_byte = refl

pub draining_byte : (h : ℕ) → h < 64 → HasByte (draining h)
unfolding byte_of
draining_byte h l = rw (lt-ltb h 64 l)

-- nothing outside the 64 numbers, 128 instruments and two modes, and no state that has no byte
pub record Within (v : rules.Bench) : Type 0 where
  pub states : (k : ℕ) → 64 ≤ k → v.state k ≡ free
  pub bytes : (k : ℕ) → HasByte (v.state k)
  pub parents : (k : ℕ) → 64 ≤ k → v.parent k ≡ none
  pub numbers : (m i k : ℕ) → 64 ≤ k → v.stands m i k ≡ false
  pub instruments : (m i k : ℕ) → 128 ≤ i → v.stands m i k ≡ false
  pub modes : (m i k : ℕ) → 2 ≤ m → v.stands m i k ≡ false

-- the record that holds what a bench says
pub record_of : rules.Bench → Bench
record_of v =
    record {
      parents = listed 64 (λ k. from (v.parent k) 0 suc);
      states = listed 64 (λ k. byte_of (v.state k));
      reads = listed 128 (λ i. word_of 64 (v.stands 0 i));
      writes = listed 128 (λ i. word_of 64 (v.stands 1 i));
    }

pub record_fits : (v : rules.Bench) → Fits (record_of v)
unfolding record_of
record_fits v =
    record {
      parents_long = listed_long 64 (λ k. from (v.parent k) 0 suc);
      states_long = listed_long 64 (λ k. byte_of (v.state k));
      reads_long = listed_long 128 (λ i. word_of 64 (v.stands 0 i));
      writes_long = listed_long 128 (λ i. word_of 64 (v.stands 1 i));
      reads_fit = λ i l. rw (listed_at 128 (λ i. word_of 64 (v.stands 0 i)) i l) (word_fits 64 (v.stands 0 i));
      writes_fit = λ i l. rw (listed_at 128 (λ i. word_of 64 (v.stands 1 i)) i l) (word_fits 64 (v.stands 1 i));
    }

byte_parent : (o : Option ℕ) → parent_of (from o 0 suc) ≡ o
byte_parent none = refl
byte_parent (some p) = refl

-- a place of a list within its length, or past it
pub by_place : {P : Type 0} (k n : ℕ) → (k < n → P) → (n ≤ k → P) → P
by_place k n inside past = by_bool (ltb k n) (λ t. inside (ltb-true k n t)) (λ t. past (ltb-false k n t))

sets_shown : (f : ℕ → ℕ → Bool) → ((i k : ℕ) → 64 ≤ k → f i k ≡ false) → ((i k : ℕ) → 128 ≤ i → f i k ≡ false) → (i k : ℕ) → member (get_or (listed 128 (λ i. word_of 64 (f i))) i 0) k ≡ f i k
sets_shown f numbers instruments i k =
    by_place i 128
    (λ l. rw (listed_at 128 (λ i. word_of 64 (f i)) i l)
    (by_place k 64 (λ lk. word_at 64 (f i) k (omega arith) lk) (λ past. word_past 64 (f i) k (omega arith) past ∙ sym (numbers i k past))))
    (λ past. rw (listed_past 128 (λ i. word_of 64 (f i)) i past) (member_empty k ∙ sym (instruments i k past)))

pub record_shown : (v : rules.Bench) → Within v → viewed (record_of v) ≡ v
unfolding record_of
record_shown v w =
    same_bench (viewed (record_of v)) v
    (λ k. by_place k 64
    (λ l. ap (state_of 64) (listed_at 64 (λ k. byte_of (v.state k)) k l) ∙ w.bytes k)
    (λ past. ap (state_of 64) (listed_past 64 (λ k. byte_of (v.state k)) k past) ∙ sym (w.states k past)))
    (λ k. by_place k 64
    (λ l. ap parent_of (listed_at 64 (λ k. from (v.parent k) 0 suc) k l) ∙ byte_parent (v.parent k))
    (λ past. ap parent_of (listed_past 64 (λ k. from (v.parent k) 0 suc) k past) ∙ sym (w.parents k past)))
    stands
  where
    stands : (m i k : ℕ) → member (get_or (sets_of m (record_of v).reads (record_of v).writes) i 0) k ≡ v.stands m i k
    stands zero i k = sets_shown (v.stands 0) (w.numbers 0) (w.instruments 0) i k
    stands (suc zero) i k = sets_shown (v.stands 1) (w.numbers 1) (w.instruments 1) i k
    stands (suc (suc m)) i k = member_empty k ∙ sym (w.modes (suc (suc m)) i k (omega arith))
