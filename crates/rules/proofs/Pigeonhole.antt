-- A chain of parents that ends at all ends within one step less than there are numbers. A number whose chain takes exactly d steps has one above it
-- for every fewer steps, so that with each step more at least one number more has come to its end; and there are no more numbers than that.
use mathlib.Core.Path.{◌≡◌, refl}
use mathlib.Core.Bool.{Bool, true, false}
use mathlib.Core.Option.{Option, some}
use Prim.Native.Nat.{ℕ, zero, suc, ◌+◌, ◌<◌, ◌≤◌, ◌-◌}
use native.Mathlib.Omega.{arith}
use Rattle.rules.specs.Sound.{reaches_top}
use Rattle.rules.proofs.Tests.{by_bool, by_parent, clash, by_last, from_at}
use Rattle.rules.proofs.Chains.{reaches_none, reaches_later}

-- ---- how many numbers below a bound pass a test

-- a count with one test more
abbrev tick : Bool → ℕ → ℕ
tick true c = suc c
tick false c = c

count : ℕ → (ℕ → Bool) → ℕ
count zero f = 0
count (suc n) f = tick (f n) (count n f)

tick_bound : (t : Bool) (c n : ℕ) → c ≤ n → tick t c ≤ suc n
tick_bound true c n h = omega arith
tick_bound false c n h = omega arith

tick_more : (s t : Bool) (c d more : ℕ) → (s ≡ true → t ≡ true) → c + more ≤ d → tick s c + more ≤ tick t d
tick_more true true c d more sub h = omega arith
tick_more true false c d more sub h = clash false (sub refl) refl
tick_more false true c d more sub h = omega arith
tick_more false false c d more sub h = h

count_bound : (n : ℕ) (f : ℕ → Bool) → count n f ≤ n
unfolding count
count_bound zero f = omega arith
count_bound (suc n) f = tick_bound (f n) (count n f) n (count_bound n f)

module _ (f g : ℕ → Bool) (sub : (k : ℕ) → f k ≡ true → g k ≡ true) where
  count_le : (n : ℕ) → count n f + 0 ≤ count n g
  unfolding count
  count_le zero = omega arith
  count_le (suc n) = tick_more (f n) (g n) (count n f) (count n g) 0 (sub n) (count_le n)

  -- a number that passes only the wider test
  count_less : (n k : ℕ) → k < n → f k ≡ false → g k ≡ true → count n f + 1 ≤ count n g
  unfolding count
  count_less zero k l fails holds = absurd (omega arith)
  count_less (suc n) k l fails holds =
      by_last n k l
      (λ e. let c = count_le n in rw (rw e at fails, rw e at holds) (omega arith))
      (λ below. tick_more (f n) (g n) (count n f) (count n g) 1 (sub n) (count_less n k below fails holds))

-- ---- the steps that a chain takes

module _ (up : ℕ → Option ℕ) where
  -- a chain that ends within fewer than n steps
  sooner : ℕ → ℕ → Bool
  sooner zero k = false
  sooner (suc n) k = reaches_top n up k

  sooner_reaches : (n k : ℕ) → sooner n k ≡ true → reaches_top n up k ≡ true
  unfolding sooner
  sooner_reaches zero k h = clash false h refl
  sooner_reaches (suc n) k h = reaches_later up n (suc n) k (omega arith) h

  sooner_parent : (n k p : ℕ) → up k ≡ some p → sooner (suc n) k ≡ false → sooner n p ≡ false
  unfolding sooner reaches_top
  sooner_parent zero k p e h = refl
  sooner_parent (suc n) k p e h = rw e at h

  module _ (actions : ℕ) (known : (k p : ℕ) → k < actions → up k ≡ some p → p < actions) where
    one_more : (n k : ℕ) → k < actions → reaches_top n up k ≡ true → sooner n k ≡ false → count actions (sooner n) + 1 ≤ count actions (reaches_top n up)
    one_more n k l h fails = count_less (sooner n) (reaches_top n up) (sooner_reaches n) actions k l fails h

    -- where a chain takes exactly n steps, more than n numbers have chains of at most n steps
    chain_counts : (n k : ℕ) → k < actions → reaches_top n up k ≡ true → sooner n k ≡ false → n < count actions (reaches_top n up)
    unfolding sooner reaches_top
    chain_counts zero k l h fails = let one = one_more zero k l h fails in omega arith
    chain_counts (suc n) k l h fails =
        by_parent (up k) (λ e. clash (reaches_top n up k) (reaches_none up n k e) fails)
        (λ p e. let rest = chain_counts n p (known k p l e) (from_at (up k) (reaches_top n up) h p e) (sooner_parent n k p e fails) in
        let one : count actions (reaches_top n up) + 1 ≤ count actions (reaches_top (suc n) up) = one_more (suc n) k l h fails in
        omega arith)

pub ends_soon : (actions : ℕ) (up : ℕ → Option ℕ) → ((k p : ℕ) → k < actions → up k ≡ some p → p < actions) → (n k : ℕ) → k < actions → reaches_top n up k ≡ true → reaches_top (actions - 1) up k ≡ true
unfolding sooner
ends_soon actions up known zero k l h = reaches_later up zero (actions - 1) k (omega arith) h
ends_soon actions up known (suc n) k l h =
    by_bool (reaches_top n up k) (ends_soon actions up known n k l)
    (λ fails. let more = chain_counts up actions known (suc n) k l h fails in
    let most = count_bound actions (reaches_top (suc n) up) in
    reaches_later up (suc n) (actions - 1) k (omega arith) h)
