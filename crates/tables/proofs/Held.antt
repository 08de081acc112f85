-- Owners from which one of a line is met going up before any other number that runs, of any bytes; and on a sound bench, that these are the owners whose
-- heir is the asker or an ancestor of it. Assumes nothing.
use mathlib.Core.Path.{◌≡◌, refl, sym, ◌∙◌, ap}
use mathlib.Core.Bool.{Bool, true, false}
use mathlib.Core.List.{List}
use mathlib.Core.Option.{Option, none, some, none-ne-some}
use Prim.Native.Nat.{ℕ, suc, ◌-◌, ◌<◌}
use native.Mathlib.Omega.{arith}
use borrow.Author.Tests.{eqb-true, ne_eqb}
use lib.Dec.{eqb}
use lib.ListN.{get_or}
use Rattle.sets.specs.Sets.{member, meet, least}
use Rattle.sets.proofs.Laws.{member_empty}
use Rattle.rules.specs.Tests.{◌⇒◌, from}
use Rattle.rules.specs.Bench.{is_running}
use Rattle.rules.specs.Owners.{above, is_ancestor, is_asker_or_ancestor, nearest, heir, heir_in_line}
use Rattle.rules.proofs.Tests.{by_bool, by_or, clash, implies, implied, refuted, all_at, all_by, all_cong}
use Rattle.rules.proofs.Walks.{ancestor_runs}
use Rattle.tables.specs.Tree.{tree_shape, tree_state_of, known_up, up_of, tree, SoundTree, in_line}
use Rattle.tables.specs.Owners.{owners_in_line}
use Rattle.tables.specs.Reach.{reaches, waits_for, held_by, all_held, Met}
use Rattle.tables.proofs.Named.{up_byte}
use Rattle.tables.proofs.Heirs.{not_running, met_nearest, nearest_heir}
use Rattle.tables.proofs.Reaching.{reaches_soon}
use Rattle.tables.proofs.Sorting.{Sorting, sorting_takes}

module _ (n : ℕ) (parents states : List ℕ) where
  -- ---- who waits for whom

  pub runs_alone : (x : ℕ) → get_or states x 0 ≡ 1 → waits_for n parents states x ≡ none
  runs_alone x e = rw e

  pub waits_up : (x : ℕ) → (get_or states x 0 ≡ 1 → ⊥) → waits_for n parents states x ≡ known_up n parents x
  waits_up x e = rw (ne_eqb (get_or states x 0) 1 e)

  pub waits_known : (k p : ℕ) → waits_for n parents states k ≡ some p → p < n
  waits_known k p e =
      by_bool (eqb (get_or states k 0) 1) (λ t. absurd (none-ne-some p (rw t at e))) (λ t. (up_byte n parents k p (rw t at e)).1)

  -- ---- the owners, one after the other

  module _ (line : ℕ → Bool) (owners cleared rest : ℕ) (h : Sorting n line (waits_for n parents states) owners cleared 0 rest) where
    -- where none is left, each is held
    pub held_end : rest ≡ 0 → true ≡ all_held n parents states line owners
    held_end e =
        sym (all_by n (λ k. member owners k ⇒ held_by n parents states line k)
        (λ k l. implied (member owners k) (held_by n parents states line k)
        (λ m. reaches_soon line (waits_for n parents states) n waits_known k l (h.sorted.leads k (cleared_all k m)))))
      where
        cleared_all : (k : ℕ) → member owners k ≡ true → member cleared k ≡ true
        cleared_all k m =
            by_or (member cleared k) (member 0 k) (h.tried k m (rw (e, member_empty k))) (λ t. t) (λ t. clash (member 0 k) t (member_empty k))

    -- where one meets no number that is cleared, it isn't
    pub held_refused : (more : rest ≡ 0 → ⊥) (k : ℕ) → k ≡ least n rest → (met : ℕ) → Met line (waits_for n parents states) cleared 0 k met → meet met cleared ≡ false →
        false ≡ all_held n parents states line owners
    held_refused more k least_k met m apart =
        let take = sorting_takes n line (waits_for n parents states) owners cleared 0 rest h more k least_k in
        sym (refuted (all_held n parents states line owners)
        (λ all.
        m.lost apart k m.begun (
          n - 1,
          implies (member owners k) (held_by n parents states line k) (all_at n (λ j. member owners j ⇒ held_by n parents states line j) all k take.known)
              (h.part k take.was),
        )))

-- ---- on a sound bench, with the line of a running asker

module _ (n : ℕ) (parents states : List ℕ) (ok : SoundTree n parents states) (a : ℕ) (la : a < n) (runs : is_running (tree_state_of (get_or states a 0)) ≡ true) (line : ℕ → Bool)
    (lined : (k : ℕ) → line k ≡ in_line n parents a k) where
  -- a number that doesn't run isn't of the line
  not_of_line : (k : ℕ) → is_running (tree_state_of (get_or states k 0)) ≡ false → line k ≡ false
  unfolding is_ancestor
  not_of_line k waits =
      refuted (line k)
      (λ m. clash (is_running (tree_state_of (get_or states k 0)))
      (by_or (eqb k a) (above n (up_of parents) k a) (sym (lined k) ∙ m) (λ e. rw (eqb-true k a e) runs)
      (ancestor_runs (tree_shape n) (tree parents states) ok k a la runs))
      waits)

  -- so one of the line is met before any other number that runs where the nearest running one is of the line
  line_nearest : (reach k : ℕ) → k < n → reaches reach line (waits_for n parents states) k ≡ from (nearest (suc reach) (λ j. tree_state_of (get_or states j 0)) (known_up n parents) k) false line
  line_nearest =
      met_nearest n parents states line line (λ k. k < n) (λ k p l e. (up_byte n parents k p e).1) (λ k l e. refl)
      (λ k l e. not_of_line k (not_running (get_or states k 0) e))

  -- each owner is held in the asker's line where the heir of each is the asker or an ancestor of it
  pub held_in_line : (owners : ℕ) → all_held n parents states line owners ≡ owners_in_line n parents states (member owners) a
  unfolding owners_in_line heir_in_line is_asker_or_ancestor is_ancestor
  held_in_line owners =
      all_cong n (λ k. member owners k ⇒ held_by n parents states line k) (λ k. member owners k ⇒ heir_in_line (tree_shape n) (tree parents states) a k)
      (λ k l. ap (λ t. member owners k ⇒ t) (rw (counted k l) at (line_nearest (n - 1) k l) ∙ rw (nearest_heir n parents states ok k l)
      (lines (heir (tree_shape n) (tree parents states) k))))
    where
      counted : (k : ℕ) → k < n → suc (n - 1) ≡ n
      counted k l = omega arith

      lines : (o : Option ℕ) → from o false line ≡ from o false (λ h. in_line n parents a h)
      lines none = refl
      lines (some h) = lined h
