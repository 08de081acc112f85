-- Going up by any table of parents until a number is hit: how it is met, and that what is met at all is met within one step less than there are numbers.
-- Assumes nothing.
use Rattle.std.specs.Prelude.{if◌then◌else◌}
use mathlib.Core.Path.{◌≡◌, refl, sym, ap}
use mathlib.Core.Bool.{Bool, true, false, ◌||◌, or-false}
use mathlib.Core.Option.{Option, none, some, none-ne-some}
use Prim.Native.Nat.{ℕ, zero, suc, ◌-◌, ◌<◌}
use Rattle.rules.specs.Tests.{from}
use lib.Dec.{eqb}
use Rattle.rules.specs.Owners.{above}
use Rattle.rules.specs.Sound.{reaches_top}
use Rattle.rules.proofs.Tests.{by_bool, by_parent, clash, by_or, or_left, or_right, from_cong}
use Rattle.rules.proofs.Chains.{reaches_none}
use Rattle.rules.proofs.Pigeonhole.{ends_soon}
use Rattle.tables.specs.Reach.{reaches, Reaches}

module _ (hit : ℕ → Bool) (up : ℕ → Option ℕ) where
  -- ---- one is met here, or from the parent

  pub reaches_here : (n k : ℕ) → hit k ≡ true → reaches n hit up k ≡ true
  unfolding reaches
  reaches_here zero k h = h
  reaches_here (suc n) k h = or_left (hit k) (from (up k) false (reaches n hit up)) h

  pub reaches_up : (n k p : ℕ) → up k ≡ some p → reaches n hit up p ≡ true → reaches (suc n) hit up k ≡ true
  unfolding reaches
  reaches_up n k p e h = or_right (hit k) (from (up k) false (reaches n hit up)) (rw e h)

  pub by_reached : {P : Type 0} (n k : ℕ) → reaches (suc n) hit up k ≡ true → (hit k ≡ true → P) → ((p : ℕ) → up k ≡ some p → reaches n hit up p ≡ true → P) → P
  unfolding reaches
  by_reached n k h here above =
      by_or (hit k) (from (up k) false (reaches n hit up)) h here
      (λ t. by_parent (up k) (λ e. clash false (rw e at t) refl) (λ p e. above p e (rw e at t)))

  -- the same, for some number of steps
  pub met_here : (k : ℕ) → hit k ≡ true → Reaches hit up k
  met_here k h = (0, reaches_here 0 k h)

  pub met_up : (k p : ℕ) → up k ≡ some p → Reaches hit up p → Reaches hit up k
  met_up k p e r = (suc r.0, reaches_up r.0 k p e r.1)

  -- ---- how many steps it takes

  pub reaches_more : (n k : ℕ) → reaches n hit up k ≡ true → reaches (suc n) hit up k ≡ true
  unfolding reaches
  reaches_more zero k h = reaches_here 1 k h
  reaches_more (suc n) k h = by_reached n k h (reaches_here (suc (suc n)) k) (λ p e r. reaches_up (suc n) k p e (reaches_more n p r))

  -- the parents, cut where a number is hit: a climb that meets one is a chain that ends
  abbrev cut : ℕ → Option ℕ
  cut k = if hit k then none else up k

  chain_ends : (n k : ℕ) → reaches n hit up k ≡ true → reaches_top n cut k ≡ true
  unfolding reaches reaches_top
  chain_ends zero k h = reaches_none cut zero k (rw h)
  chain_ends (suc n) k h =
      by_reached n k h (λ t. reaches_none cut (suc n) k (rw t))
      (λ p e r. by_bool (hit k) (λ t. reaches_none cut (suc n) k (rw t)) (λ t. rw (t, e) (chain_ends n p r)))

  -- and a chain that ends within m steps, where one is met at all, meets it within m steps
  ends_at_hit : (m n k : ℕ) → reaches_top m cut k ≡ true → reaches n hit up k ≡ true → reaches m hit up k ≡ true
  unfolding reaches reaches_top
  ends_at_hit m zero k ends h = reaches_here m k h
  ends_at_hit zero (suc n) k ends h =
      by_reached n k h (λ t. t) (λ p e r. by_bool (hit k) (λ t. t) (λ t. clash false (rw (t, e) at ends) refl))
  ends_at_hit (suc m) (suc n) k ends h =
      by_reached n k h (reaches_here (suc m) k)
      (λ p e r. by_bool (hit k) (reaches_here (suc m) k) (λ t. reaches_up m k p e (ends_at_hit m n p (rw (t, e) at ends) r)))

  pub reaches_soon : (actions : ℕ) → ((k p : ℕ) → up k ≡ some p → p < actions) → (k : ℕ) → k < actions → Reaches hit up k → reaches (actions - 1) hit up k ≡ true
  reaches_soon actions known k l r = ends_at_hit (actions - 1) r.0 k (ends_soon actions cut below r.0 k l (chain_ends r.0 k r.1)) r.1
    where
      below : (j p : ℕ) → j < actions → cut j ≡ some p → p < actions
      below j p lj e = by_bool (hit j) (λ t. absurd (none-ne-some p (rw t at e))) (λ t. known j p (rw t at e))

-- going up to one number: it is here, or above
pub reaches_above : (up : ℕ → Option ℕ) (a n x : ℕ) → reaches n (λ i. eqb i a) up x ≡ (eqb x a || above n up a x)
unfolding reaches above
reaches_above up a zero x = sym (or-false (eqb x a))
reaches_above up a (suc n) x =
    ap (λ t. eqb x a || t) (from_cong (up x) false (λ p t. t) (reaches n (λ i. eqb i a) up) (λ p. eqb p a || above n up a p) (λ p e. reaches_above up a n p))
