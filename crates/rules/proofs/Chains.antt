-- Chains of parents, of any table of parents: what it takes for one to end within a number of steps.
use mathlib.Core.Path.{◌≡◌}
use mathlib.Core.Bool.{true}
use mathlib.Core.Option.{Option, none, some}
use Prim.Native.Nat.{ℕ, zero, suc, ◌≤◌}
use native.Mathlib.Omega.{arith}
use Rattle.rules.specs.Sound.{reaches_top}
use Rattle.rules.proofs.Tests.{by_parent, from_at, from_none}

module _ (up : ℕ → Option ℕ) where
  pub reaches_none : (n k : ℕ) → up k ≡ none → reaches_top n up k ≡ true
  unfolding reaches_top
  reaches_none zero k e = rw e
  reaches_none (suc n) k e = rw e

  -- a chain that ends within m steps ends within more
  pub reaches_later : (m n k : ℕ) → m ≤ n → reaches_top m up k ≡ true → reaches_top n up k ≡ true
  unfolding reaches_top
  reaches_later zero n k l h = reaches_none n k (from_none (up k) h)
  reaches_later (suc m) zero k l h = absurd (omega arith)
  reaches_later (suc m) (suc n) k l h =
      by_parent (up k) (λ e. rw e) (λ p e. rw e (reaches_later m n p (omega arith) (from_at (up k) (reaches_top m up) h p e)))

  -- Numbers that keep their parents, and whose parents are of them, keep their chains.
  pub reaches_kept : (next : ℕ → Option ℕ) (Kept : ℕ → Type 0) → ((k : ℕ) → Kept k → next k ≡ up k) → ((k p : ℕ) → Kept k → up k ≡ some p → Kept p) → (n k : ℕ) → Kept k → reaches_top n up k ≡ true → reaches_top n next k ≡ true
  unfolding reaches_top
  reaches_kept next Kept same closed zero k s h = rw (same k s) h
  reaches_kept next Kept same closed (suc n) k s h =
      rw (same k s)
      (by_parent (up k) (λ e. rw e)
      (λ p e. rw e (reaches_kept next Kept same closed n p (closed k p s e) (from_at (up k) (reaches_top n up) h p e))))
