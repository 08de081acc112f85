-- Laws of the view: what parents' bytes and sets say to the tests of the rules, and what a sound bench says of its table. Assumes nothing.
use Rattle.std.specs.Prelude.{if◌then◌else◌}
use mathlib.Core.Path.{◌≡◌, refl, sym, ◌∙◌, ap}
use mathlib.Core.Bool.{Bool, true, false, ◌&&◌}
use mathlib.Core.List.{List}
use mathlib.Core.Option.{Option, none, some, none-ne-some}
use Prim.Native.Nat.{ℕ, zero, suc, ◌+◌, ◌%◌, ◌<◌}
use native.Mathlib.Nat.{mod-eq_of_lt}
use native.Mathlib.Numerals.{add-one}
use native.Mathlib.Omega.{arith}
use borrow.Author.Tests.{eqb-true, not-true}
use lib.Dec.{eqb, eqb-suc-suc, eqb-zero-suc}
use lib.ListN.{get_or}
use Rattle.rules.specs.Tests.{◌⇒◌, all, any, from}
use Rattle.rules.specs.Bench.{State, is_free, is_running, head_of, in_tree}
use Rattle.rules.specs.Owners.{is_ancestor, nearest, heir, is_asker_or_ancestor, heir_in_line, granted, has_running_child, drains_under, stand_somewhere}
use Rattle.rules.specs.Sound.{means_something, sound}
use Rattle.rules.proofs.Tests.{by_bool, by_parent, clash, and_left, and_right, and_both, by_or, refuted, implies, implied, from_cong, all_at, all_by, all_cong, any_at, any_by, any_cong, same}
use Rattle.rules.proofs.Facts.{SoundNumber, sound_facts, sound_from, runs_in_tree, under_head}
use Rattle.rules.proofs.Facts as rules
use Rattle.rules.proofs.Walks.{ancestor_in_tree, heir_drains}
use Rattle.tables.specs.Table.{Layout, Table, parent_of, view}
use Rattle.tables.specs.Tree.{tree, tree_shape, tree_state_of, SoundTree, SoundParents}
use Rattle.tables.specs.Owners.{owners_in_line, in_conflict, TellsOwners}
use Rattle.tables.proofs.States.{tree_runs, tree_running_byte, tree_free, tree_means, tree_shown, shown_tree, free_byte, head_byte}
use Rattle.tables.proofs.States as states

-- ---- parents' bytes

pub child_byte : (p a : ℕ) → from (parent_of p) false (λ x. eqb x a) ≡ eqb p (a + 1)
child_byte zero a = rw add-one (sym (eqb-zero-suc a))
child_byte (suc p) a = rw add-one (sym (eqb-suc-suc p a))

-- ---- running children

pub running_child_bytes : (n : ℕ) (parents states : List ℕ) (a : ℕ) →
    has_running_child (tree_shape n) (tree parents states) a ≡ any n (λ k. eqb (get_or states k 0) 1 && eqb (get_or parents k 0) (a + 1))
unfolding has_running_child
running_child_bytes n parents states a =
    any_cong n (λ k. is_running (tree_state_of (get_or states k 0)) && from (parent_of (get_or parents k 0)) false (λ p. eqb p a))
    (λ k. eqb (get_or states k 0) 1 && eqb (get_or parents k 0) (a + 1))
    (λ k l. rw (tree_running_byte (get_or states k 0), child_byte (get_or parents k 0) a))

-- the same of a number of the table, as the code finds it
pub running_child_found : (n : ℕ) (parents states : List ℕ) (a : ℕ) (found : Bool) → a < n →
    found ≡ any n (λ k. eqb (get_or states k 0) 1 && eqb (get_or parents k 0) (a % n + 1)) → has_running_child (tree_shape n) (tree parents states) a ≡ found
running_child_found n parents states a found known e =
    running_child_bytes n parents states a ∙ sym (rw (mod-eq_of_lt known) at e)

-- ---- what is granted

-- Of all h that pass c, all k in the set of h pass the test: so do all k that are in the set of such an h.
all_of_sets : (modes n : ℕ) (c : ℕ → Bool) (s : ℕ → ℕ → Bool) (test : ℕ → Bool) →
    all modes (λ h. c h ⇒ all n (λ k. s h k ⇒ test k)) ≡ all n (λ k. any modes (λ h. c h && s h k) ⇒ test k)
all_of_sets modes n c s test =
    same (all modes by_mode) (all n by_number)
    (λ t. all_by n by_number (λ k lk. implied (any modes (stands k)) (test k)
    (λ found. let at = any_at modes (stands k) found in
    implies (s at.0 k) (test k)
    (all_at n (λ j. s at.0 j ⇒ test j)
    (implies (c at.0) (all n (λ j. s at.0 j ⇒ test j)) (all_at modes by_mode t at.0 at.1) (and_left (c at.0) (s at.0 k) at.2))
    k
    lk)
    (and_right (c at.0) (s at.0 k) at.2))))
    (λ t. all_by modes by_mode (λ h lh. implied (c h) (all n (λ k. s h k ⇒ test k))
    (λ ch. all_by n (λ k. s h k ⇒ test k) (λ k lk. implied (s h k) (test k)
    (λ sk. implies (any modes (stands k)) (test k) (all_at n by_number t k lk) (any_by modes (stands k) h lh (and_both (c h) (s h k) ch sk)))))))
  where
    stands : ℕ → ℕ → Bool
    stands k h = c h && s h k

    by_mode : ℕ → Bool
    by_mode h = c h ⇒ all n (λ k. s h k ⇒ test k)

    by_number : ℕ → Bool
    by_number k = any modes (λ h. c h && s h k) ⇒ test k

-- owners by another test that says the same of the numbers of the table
pub owners_same : (n : ℕ) (parents states : List ℕ) (owned owned' : ℕ → Bool) (a : ℕ) → ((k : ℕ) → k < n → owned k ≡ owned' k) →
    owners_in_line n parents states owned a ≡ owners_in_line n parents states owned' a
unfolding owners_in_line
owners_same n parents states owned owned' a e =
    all_cong n (λ k. owned k ⇒ heir_in_line (tree_shape n) (tree parents states) a k) (λ k. owned' k ⇒ heir_in_line (tree_shape n) (tree parents states) a k)
    (λ k l. rw (e k l))

-- ---- the view and the tree

-- benches that say the same of who runs have the same nearest running numbers
nearest_same : (left : ℕ) (state state' : ℕ → State) (up : ℕ → Option ℕ) → ((k : ℕ) → is_running (state k) ≡ is_running (state' k)) → (k : ℕ) →
    nearest left state up k ≡ nearest left state' up k
unfolding nearest
nearest_same zero state state' up e k = refl
nearest_same (suc left) state state' up e k =
    rw (e k)
    (ap (λ o. if is_running (state' k) then some k else o)
    (from_cong (up k) none (λ p o. o) (nearest left state up) (nearest left state' up) (λ p u. nearest_same left state state' up e p)))

module _ (layout : Layout) (t : Table) where
  abbrev n : ℕ
  n = layout.shape.actions

  abbrev byte : ℕ → ℕ
  byte k = get_or t.states k 0

  runs_same : (k : ℕ) → is_running (tree_state_of (byte k)) ≡ is_running ((view layout t).state k)
  runs_same k = tree_runs n (byte k)

  -- the byte of a number that drains
  above_two : (k h : ℕ) → head_of ((view layout t).state k) ≡ some h → byte k ≡ suc (suc (suc h))
  above_two k h e = let named = (head_byte n (byte k) h e).0 in omega arith

  -- The tree tells who has a running child.
  pub running_child_shown : (a : ℕ) → has_running_child (tree_shape n) (tree t.parents t.states) a ≡ has_running_child layout.shape (view layout t) a
  unfolding has_running_child
  running_child_shown a =
      any_cong n (λ k. is_running (tree_state_of (byte k)) && from (parent_of (get_or t.parents k 0)) false (λ p. eqb p a))
      (λ k. is_running ((view layout t).state k) && from (parent_of (get_or t.parents k 0)) false (λ p. eqb p a))
      (λ k l. rw (runs_same k))

  -- A number that doesn't drain has its heir in the tree.
  pub heir_shown : (k : ℕ) → head_of ((view layout t).state k) ≡ none → heir layout.shape (view layout t) k ≡ heir (tree_shape n) (tree t.parents t.states) k
  unfolding heir
  heir_shown k e =
      rw (e, states.tree_headless (byte k))
      (sym (nearest_same n (λ j. tree_state_of (byte j)) (view layout t).state (view layout t).parent runs_same k))

  -- ---- what a sound bench says of its table

  module _ (ok : sound layout.shape (view layout t) ≡ true) where
    facts : (k : ℕ) → k < n → SoundNumber layout.shape (view layout t) k
    facts = sound_facts layout.shape (view layout t) ok

    -- a byte that reads as free in the tree is that of a free number or of one that drains: neither has a parent
    outside_top : (k : ℕ) → k < n → is_free (tree_state_of (byte k)) ≡ true → parent_of (get_or t.parents k 0) ≡ none
    outside_top k l u =
        by_bool (is_free ((view layout t).state k)) (facts k l).free_has_no_parent
        (λ used. by_parent (head_of ((view layout t).state k))
        (λ e. clash (in_tree (tree_state_of (byte k))) (shown_tree n (byte k) (facts k l).means (rules.in_use_tree ((view layout t).state k) used e))
        (not-true (in_tree (tree_state_of (byte k))) (sym (tree_free (byte k)) ∙ u)))
        (λ h e. ((facts k l).drains h e).no_parent))

    pub tree_sound : SoundTree n t.parents t.states
    tree_sound =
        sound_from (tree_shape n) (tree t.parents t.states)
        (λ k l. let f = facts k l in
        record {
          means = tree_means (byte k);
          top_runs = λ u e. runs_same k ∙ f.top_runs (tree_shown n (byte k) u) e;
          free_has_no_parent = outside_top k l;
          free_stands_nowhere = λ u m i lm li. refl;
          parent_known = f.parent_known;
          parent_in_tree = λ p e. shown_tree n (byte p) (facts p (f.parent_known p e)).means (f.parent_in_tree p e);
          ends_at_top = f.ends_at_top;
          parent_runs = λ r p e. runs_same p ∙ f.parent_runs (sym (runs_same k) ∙ r) p e;
          drains = λ h e. absurd (none-ne-some h (sym (states.tree_headless (byte k)) ∙ e));
        })

    pub parents_sound : SoundParents n t.parents
    parents_sound = (t.states, tree_sound)

    -- ---- what is granted

    -- The head of a number that drains is in no running action's line: it drains too.
    head_out_of_line : (a k h : ℕ) → a < n → k < n → is_running ((view layout t).state a) ≡ true → head_of ((view layout t).state k) ≡ some h →
        is_asker_or_ancestor layout.shape (view layout t) a h ≡ false
    unfolding is_asker_or_ancestor
    head_out_of_line a k h la l runs e =
        refuted (is_asker_or_ancestor layout.shape (view layout t) a h)
        (λ u. none-ne-some h
        (sym (rules.tree_headless ((view layout t).state h)
        (by_or (eqb h a) (is_ancestor layout.shape (view layout t) h a) u
        (λ q. rw (eqb-true h a q) (runs_in_tree ((view layout t).state a) runs))
        (ancestor_in_tree layout.shape (view layout t) ok h a la)))
        ∙ under_head (view layout t) h h ((facts k l).drains h e).head_drains))

    -- in the tree it has no heir
    drained_heirless : (k h : ℕ) → k < n → head_of ((view layout t).state k) ≡ some h → heir (tree_shape n) (tree t.parents t.states) k ≡ none
    unfolding heir nearest
    drained_heirless k h l e = rw (above_two k h e) (nobody n)
      where
        nobody : (left : ℕ) → nearest left (λ j. tree_state_of (byte j)) (view layout t).parent k ≡ none
        nobody zero = refl
        nobody (suc left) = rw (above_two k h e, ((facts k l).drains h e).no_parent)

    -- So for a running asker the tree tells whose heir is in line.
    pub line_shown : (a k : ℕ) → a < n → k < n → is_running ((view layout t).state a) ≡ true →
        heir_in_line layout.shape (view layout t) a k ≡ heir_in_line (tree_shape n) (tree t.parents t.states) a k
    unfolding heir_in_line is_asker_or_ancestor is_ancestor
    line_shown a k la l runs =
        by_parent (head_of ((view layout t).state k))
        (λ e. rw (heir_shown k e))
        (λ h e. rw (heir_drains layout.shape (view layout t) ok k h e, drained_heirless k h l e) (head_out_of_line a k h la l runs e))

    module _ (a : ℕ) (la : a < n) (runs : is_running ((view layout t).state a) ≡ true) where
      -- A mode is granted by the sets of the modes that conflict with it.
      pub granted_conflict : (m i : ℕ) → granted layout.shape (view layout t) m a i ≡ owners_in_line n t.parents t.states (in_conflict layout t m i) a
      unfolding granted owners_in_line
      granted_conflict m i =
          all_of_sets layout.shape.modes n (layout.shape.conflict m) (λ held k. layout.holds (t.sets held) i k) (heir_in_line layout.shape (view layout t) a)
          ∙ all_cong n (λ k. in_conflict layout t m i k ⇒ heir_in_line layout.shape (view layout t) a k)
          (λ k. in_conflict layout t m i k ⇒ heir_in_line (tree_shape n) (tree t.parents t.states) a k)
          (λ k l. ap (λ u. in_conflict layout t m i k ⇒ u) (line_shown a k la l runs))

      -- so by any test that tells who stands in them
      pub granted_owned : (m i : ℕ) (owned : ℕ → Bool) → TellsOwners layout t m i owned →
          granted layout.shape (view layout t) m a i ≡ owners_in_line n t.parents t.states owned a
      granted_owned m i owned e =
          granted_conflict m i ∙ sym (owners_same n t.parents t.states owned (in_conflict layout t m i) a e)

  -- A sound tree of bytes that mean something, no free number in a set, and groups that drain well make a sound bench.
  pub tree_with_sets : SoundTree n t.parents t.states → ((k : ℕ) → k < n → means_something ((view layout t).state k) ≡ true) →
      ((k : ℕ) → k < n → is_free ((view layout t).state k) ≡ true → (m i : ℕ) → m < layout.shape.modes → i < layout.shape.instruments →
      layout.holds (t.sets m) i k ≡ false) →
      ((k h : ℕ) → k < n → head_of ((view layout t).state k) ≡ some h →
      (drains_under (view layout t) h h ≡ true) × (stand_somewhere layout.shape (view layout t) (drains_under (view layout t) h) ≡ true)) →
      sound layout.shape (view layout t) ≡ true
  tree_with_sets ok means absent groups =
      sound_from layout.shape (view layout t)
      (λ k l. let f = sound_facts (tree_shape n) (tree t.parents t.states) ok k l in
      record {
        means = means k l;
        top_runs = λ u e. sym (runs_same k) ∙ f.top_runs (shown_tree n (byte k) (means k l) u) e;
        free_has_no_parent = λ u. f.free_has_no_parent (rw (eqb-true (byte k) 0 (sym (free_byte n (byte k)) ∙ u)));
        free_stands_nowhere = λ u m i lm li. absent k l u m i lm li;
        parent_known = f.parent_known;
        parent_in_tree = λ p e. tree_shown n (byte p) (f.parent_in_tree p e);
        ends_at_top = f.ends_at_top;
        parent_runs = λ r p e. sym (runs_same p) ∙ f.parent_runs (runs_same k ∙ r) p e;
        drains = λ h e.
            record {
              no_parent = f.free_has_no_parent (rw (above_two k h e));
              head_known = (head_byte n (byte k) h e).1;
              head_drains = (groups k h l e).0;
              group_stands = (groups k h l e).1;
            };
      })
