-- The contracts that are not equations have one result each: a word of 64 bits is told by its members, and 64 words by their places. (Those of `running_child` and `has_child`
-- are equations.) Assumes nothing.
use mathlib.Core.Bool.{Bool}
use mathlib.Core.List.{List}
use mathlib.Core.Path.{◌≡◌, sym, ◌∙◌}
use Prim.Native.Nat.{ℕ, suc, ◌%◌, ◌<◌, ◌^◌}
use native.Mathlib.Omega.{arith}
use lib.Dec.{eqb}
use lib.ListN.{length, get_or}
use lib.Seq.{ext_get_or}
use Rattle.sets.specs.Sets.{member}
use Rattle.sets.proofs.Laws.{same_members}
use Rattle.views.specs.Tree.{met_from}
use Rattle.views.specs.Reach.{LinesMet}

-- ---- one word

-- a word whose numbers below 64 are told by a test
word_unique : (test : ℕ → Bool) (r s : ℕ) → r < 2 ^ 64 → s < 2 ^ 64 → ((k : ℕ) → k < 64 → member r k ≡ test k) → ((k : ℕ) → k < 64 → member s k ≡ test k) → r ≡ s
word_unique test r s fits fits' er es = same_members 64 r s fits fits' (λ k l. er k l ∙ sym (es k l))

pub line_unique : (parents : List ℕ) (a r s : ℕ) → r < 2 ^ 64 → s < 2 ^ 64 → ((k : ℕ) → member r k ≡ met_from parents (a % 64) k) → ((k : ℕ) → member s k ≡ met_from parents (a % 64) k) → r ≡ s
line_unique parents a r s fits fits' er es = word_unique (met_from parents (a % 64)) r s fits fits' (λ k l. er k) (λ k l. es k)

pub running_unique : (states : List ℕ) (r s : ℕ) → r < 2 ^ 64 → s < 2 ^ 64 → ((k : ℕ) → k < 64 → member r k ≡ eqb (get_or states k 0) 1) →
    ((k : ℕ) → k < 64 → member s k ≡ eqb (get_or states k 0) 1) → r ≡ s
running_unique states r s = word_unique (λ k. eqb (get_or states k 0) 1) r s

-- ---- 64 words

-- These are words of 64 bits.
abbrev pub Words : List ℕ → Type 0
Words l = (p : ℕ) → get_or l p 0 < 2 ^ 64

-- 64 words of which each is told by a test
words_unique : (test : ℕ → ℕ → Bool) (r s : List ℕ) → Words r → Words s → length r ≡ 64 → length s ≡ 64 →
    ((p : ℕ) → p < 64 → (k : ℕ) → k < 64 → member (get_or r p 0) k ≡ test p k) → ((p : ℕ) → p < 64 → (k : ℕ) → k < 64 → member (get_or s p 0) k ≡ test p k) → r ≡ s
words_unique test r s fits fits' long long' er es =
    ext_get_or 0 r s (long ∙ sym long')
    (λ p h. let l : p < 64 = omega arith in word_unique (test p) (get_or r p 0) (get_or s p 0) (fits p) (fits' p) (er p l) (es p l))

pub children_unique : (parents r s : List ℕ) → Words r → Words s →
    (length r ≡ 64) × ((p k : ℕ) → p < 64 → k < 64 → member (get_or r p 0) k ≡ eqb (get_or parents k 0) (suc p)) →
    (length s ≡ 64) × ((p k : ℕ) → p < 64 → k < 64 → member (get_or s p 0) k ≡ eqb (get_or parents k 0) (suc p)) → r ≡ s
children_unique parents r s fits fits' er es =
    words_unique (λ p k. eqb (get_or parents k 0) (suc p)) r s fits fits' er.0 es.0 (λ p lp k lk. er.1 p k lp lk) (λ p lp k lk. es.1 p k lp lk)

pub lines_unique : (parents r s : List ℕ) → Words r → Words s → (length r ≡ 64) × LinesMet parents r 64 → (length s ≡ 64) × LinesMet parents s 64 → r ≡ s
lines_unique parents r s fits fits' er es =
    words_unique (met_from parents) r s fits fits' er.0 es.0 (λ a la k lk. er.1 a la k) (λ a la k lk. es.1 a la k)
