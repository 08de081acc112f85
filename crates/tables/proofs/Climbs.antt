-- Chains of parents that end: those of ever lower or ever higher numbers, and those that a climb finds that stops at numbers known to end. All numbers that a climb
-- has passed lead to where it stands, so that they end if that number does, and none ends where it is one of them. Assumes nothing.
use mathlib.Core.Path.{◌≡◌, refl, sym, ◌∙◌}
use mathlib.Core.Bool.{true, false, not, ◌&&◌}
use mathlib.Core.List.{List}
use mathlib.Core.Option.{Option, some}
use Prim.Native.Nat.{ℕ, zero, suc, ◌-◌, ◌≤◌, ◌<◌}
use native.Mathlib.Omega.{arith}
use borrow.Author.Tests.{eqb-true, leb-true, ltb-true}
use lib.Dec.{eqb, leb, ltb}
use lib.ListN.{get_or}
use Rattle.sets.specs.Sets.{member, without}
use Rattle.sets.proofs.Laws.{member_empty, member_without}
use Rattle.rules.specs.Tests.{all, from}
use Rattle.rules.specs.Sound.{reaches_top}
use Rattle.rules.proofs.Tests.{by_bool, by_parent, by_or, clash, refuted, all_at, all_by}
use Rattle.rules.proofs.Pigeonhole.{ends_soon}
use Rattle.tables.specs.Table.{parent_of}
use Rattle.tables.specs.Tree.{up_of}
use Rattle.tables.specs.Climbs.{parent_higher, Ends, EndOutside}

-- ---- ever lower numbers, and ever higher ones

module _ (n : ℕ) (parents : List ℕ) where
  -- chains of parents of ever lower rank end
  ranked_ends : (rank : ℕ → ℕ) → ((k p : ℕ) → k < n → get_or parents k 0 ≡ suc p → (p < n) × (rank p < rank k)) →
      (reach k : ℕ) → k < n → rank k ≤ reach → reaches_top reach (up_of parents) k ≡ true
  unfolding reaches_top
  ranked_ends rank falls zero k known l = go (get_or parents k 0) refl
    where
      go : (x : ℕ) → get_or parents k 0 ≡ x → from (parent_of x) true (λ p. false) ≡ true
      go zero e = refl
      go (suc p) e = let above = falls k p known e in absurd (omega arith)
  ranked_ends rank falls (suc reach) k known l = go (get_or parents k 0) refl (ranked_ends rank falls reach)
    where
      go : (x : ℕ) → get_or parents k 0 ≡ x → ((p : ℕ) → p < n → rank p ≤ reach → reaches_top reach (up_of parents) p ≡ true) →
          from (parent_of x) true (reaches_top reach (up_of parents)) ≡ true
      go zero e ih = refl
      go (suc p) e ih = let above = falls k p known e in ih p above.0 (omega arith)

  pub lower_chains : all n (λ k. leb (get_or parents k 0) k) ≡ true → all n (reaches_top (n - 1) (up_of parents)) ≡ true
  lower_chains lower =
      all_by n (reaches_top (n - 1) (up_of parents))
      (λ k l.
      ranked_ends (λ j. j)
      (λ j p known e. let low = leb-true (get_or parents j 0) j (all_at n (λ i. leb (get_or parents i 0) i) lower j known) in (omega arith, omega arith))
      (n - 1)
      k
      l
      (omega arith))

  pub higher_chains : ((k : ℕ) → k < n → get_or parents k 0 ≤ n) → all n (parent_higher parents) ≡ true → all n (reaches_top (n - 1) (up_of parents)) ≡ true
  higher_chains fits higher =
      all_by n (reaches_top (n - 1) (up_of parents))
      (λ k l.
      ranked_ends (λ j. n - 1 - j)
      (λ j p known e. let low = fits j known in let high = above j p known e in (omega arith, omega arith))
      (n - 1)
      k
      l
      (omega arith))
    where
      above : (j p : ℕ) → j < n → get_or parents j 0 ≡ suc p → j < p
      above j p known e =
          by_or (eqb (get_or parents j 0) 0) (ltb (suc j) (get_or parents j 0)) (all_at n (parent_higher parents) higher j known)
          (λ t. let none_there = eqb-true (get_or parents j 0) 0 t in absurd (omega arith))
          (λ t. let high = ltb-true (suc j) (get_or parents j 0) t in omega arith)

-- ---- numbers that lead to others

-- Going up from j comes to `at` in one step or more: to a number, or to nobody, past a number that has no parent.
pub data Leads (up : ℕ → Option ℕ) (j : ℕ) : Option ℕ → Type 0 where
  parent : {at : Option ℕ} → up j ≡ at → Leads up j at
  farther : (y : ℕ) {at : Option ℕ} → Leads up j (some y) → up y ≡ at → Leads up j at

module _ (up : ℕ → Option ℕ) where
  -- a number that leads to one whose chain ends, or to nobody
  leads_ends : (j reach : ℕ) (at : Option ℕ) → Leads up j at → from at true (reaches_top reach up) ≡ true → Ends up j
  unfolding reaches_top
  leads_ends j reach at (parent e) h = (suc reach, rw e h)
  leads_ends j reach at (farther y l e) h = leads_ends j (suc reach) (some y) l (rw e h)

  step_sooner : (n y x : ℕ) → up y ≡ some x → reaches_top n up y ≡ true → (m : ℕ) × (m < n) × (reaches_top m up x ≡ true)
  unfolding reaches_top
  step_sooner zero y x e h = clash false (rw e at h) refl
  step_sooner (suc n) y x e h = (n, omega arith, rw e at h)

  -- from x the end is nearer than from a number that leads to x
  leads_sooner : (n j x : ℕ) (at : Option ℕ) → Leads up j at → at ≡ some x → reaches_top n up j ≡ true → (m : ℕ) × (m < n) × (reaches_top m up x ≡ true)
  leads_sooner n j x at (parent e) here h = step_sooner n j x (e ∙ here) h
  leads_sooner n j x at (farther y l e) here h =
      let there = leads_sooner n j y (some y) l refl h in
      let above = step_sooner there.0 y x (e ∙ here) there.2 in
      (above.0, omega arith, above.2)

  -- so that no chain ends that leads to its own start
  ring_within : (bound n x : ℕ) → n < bound → Leads up x (some x) → reaches_top n up x ≡ true → ⊥
  ring_within zero n x l ring h = absurd (omega arith)
  ring_within (suc bound) n x l ring h = let nearer = leads_sooner n x x (some x) ring refl h in ring_within bound nearer.0 x (omega arith) ring nearer.2

  pub ring_endless : (x : ℕ) → Leads up x (some x) → Ends up x → ⊥
  ring_endless x ring h = ring_within (suc h.0) h.0 x (omega arith) ring h.1

-- ---- one climb

-- A climb that takes from `rest` the numbers it passes, and has come to `at` with those of `left` not passed.
pub record Climbing (n : ℕ) (up : ℕ → Option ℕ) (rest left : ℕ) (at : Option ℕ) : Type 0 where
  pub known : (x : ℕ) → at ≡ some x → x < n
  pub passed : (j : ℕ) → member rest j ≡ true → member left j ≡ false → Leads up j at

module _ (n : ℕ) (up : ℕ → Option ℕ) (rest : ℕ) where
  pub climbing_start : (k : ℕ) → k < n → Climbing n up rest rest (some k)
  climbing_start k l = record { known = λ x e. let same = some_same k x e in omega arith; passed = λ j is out. clash (member rest j) is out }
    where
      some_same : (k x : ℕ) → some k ≡ some x → k ≡ x
      some_same k x e = cc

  -- at x, which is left, and on to its parent
  pub climbing_turn : ((k p : ℕ) → k < n → up k ≡ some p → p < n) → (left x : ℕ) → Climbing n up rest left (some x) → Climbing n up rest (without n left x) (up x)
  climbing_turn known left x h =
      record {
        known = λ p e. known x p (h.known x refl) e;
        passed = λ j is out.
            by_bool (member left j)
            (λ in_left.
            by_bool (eqb j x) (λ e. rw (eqb-true j x e) (parent refl))
            (λ e. clash (member left j && not (eqb j x)) (rw (in_left, e)) (sym (member_without n left x j (h.known x refl)) ∙ out)))
            (λ before. farther x (h.passed j is before) refl);
      }

  module _ (left : ℕ) (at : Option ℕ) (h : Climbing n up rest left at) where
    -- it has come to a number known to end, or past one without a parent
    pub climbing_ends : EndOutside n up rest → from at false (member rest) ≡ false → EndOutside n up left
    climbing_ends ends out j l away = by_bool (member rest j) (λ is. leads_ends up j there.0 at (h.passed j is away) there.1) (ends j l)
      where
        there : (reach : ℕ) × (from at true (reaches_top reach up) ≡ true)
        there = by_parent at (λ e. (0, rw e)) (λ x e. let end = ends x (h.known x e) (rw e at out) in (end.0, rw e end.1))

    -- it has come to a number that it had passed
    pub climbing_ring : from at false (member left) ≡ false → from at false (member rest) ≡ true → (k : ℕ) × (k < n) × (Ends up k → ⊥)
    climbing_ring away is =
        by_parent at (λ e. clash false (rw e at is) refl) (λ x e. (x, h.known x e, ring_endless up x (rw e at (h.passed x (rw e at is) (rw e at away)))))

-- ---- one climb after the other

module _ (n : ℕ) (up : ℕ → Option ℕ) where
  -- before the first climb no number is known to end
  pub none_known : (rest : ℕ) → ((k : ℕ) → k < n → member rest k ≡ true) → EndOutside n up rest
  none_known rest full k l out = clash (member rest k) (full k l) out

  -- where nobody is left, every chain ends
  pub chains_end : ((k p : ℕ) → k < n → up k ≡ some p → p < n) → EndOutside n up 0 → all n (reaches_top (n - 1) up) ≡ true
  chains_end known ends = all_by n (reaches_top (n - 1) up) (λ k l. let e = ends k l (member_empty k) in ends_soon n up known e.0 k l e.1)

  -- where one chain doesn't end, not every chain does
  pub chain_endless : (k : ℕ) → k < n → (Ends up k → ⊥) → all n (reaches_top (n - 1) up) ≡ false
  chain_endless k l endless = refuted (all n (reaches_top (n - 1) up)) (λ h. endless (n - 1, all_at n (reaches_top (n - 1) up) h k l))
