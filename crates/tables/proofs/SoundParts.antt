-- The parts of the soundness test make the whole: the bytes by themselves, what parents forbid, the chains, the numbers that stand in sets, and the groups that
-- drain.
use mathlib.Core.Path.{◌≡◌, refl, sym, ◌∙◌, ap}
use mathlib.Core.Bool.{Bool, true, false, not, ◌&&◌, ◌||◌}
use mathlib.Core.List.{List}
use mathlib.Core.Option.{none, some, none-ne-some}
use Prim.Native.Nat.{ℕ, zero, suc, ◌+◌, ◌-◌, ◌≤◌, ◌<◌}
use native.Mathlib.Omega.{arith}
use borrow.Author.Tests.{leb-true, leb-false, le-leb, lt-leb, eqb-true, ltb-true, not-true}
use lib.Bits.{bit_and}
use lib.Dec.{eqb, leb, ltb, eqb-suc-zero}
use lib.ListN.{get_or}
use Rattle.rules.specs.Tests.{◌⇒◌, all, any}
use Rattle.rules.specs.Bench.{is_running, in_tree}
use Rattle.rules.specs.Owners.{drains_under, stand_somewhere}
use Rattle.rules.specs.Sound.{means_something, reaches_top, sound}
use Rattle.rules.proofs.Tests.{same, by_bool, by_or, by_parent, clash, refuted, and_left, and_right, and_both, or_left, or_right, implies, implied, all_at, all_by, any_at, any_cong, any_none}
use Rattle.rules.proofs.Facts.{SoundNumber, sound_facts, sound_from}
use Rattle.rules.proofs.SetForm.{standing_in_use}
use Rattle.tables.specs.Table.{Layout, Table, state_of, parent_of, view}
use Rattle.tables.specs.Tree.{up_of, tree, tree_shape, tree_state_of, SoundTree, in_use}
use Rattle.tables.specs.Owners.{stands_at, TellsStanding}
use Rattle.tables.specs.Soundness.{fit, bytes_fit, forbids_of, shifted, permitted, drain_fits}
use Rattle.tables.proofs.Bytes.{none_byte, parent_byte}
use Rattle.tables.proofs.States.{tree_running_byte, tree_byte, tree_free, tree_headless, tree_means, means_byte, free_byte, head_byte, byte_head}
use Rattle.tables.proofs.ViewLaws.{tree_sound, tree_with_sets}
use Rattle.tables.proofs.Groups.{group_byte, stand_somewhere_lem}

-- ---- one number's bytes: parent p, state s

-- what it means that they fit
pub record Fit (n p s : ℕ) : Type 0 where
  pub means : means_something (state_of n s) ≡ true
  pub known : p ≤ n
  pub top_runs : in_tree (tree_state_of s) ≡ true → parent_of p ≡ none → is_running (tree_state_of s) ≡ true
  pub child_in_tree : (q : ℕ) → parent_of p ≡ some q → in_tree (tree_state_of s) ≡ true

fit_bytes : (n p s : ℕ) → fit n p s ≡ true → Fit n p s
fit_bytes n p s h =
    record {
      means = means_byte n s ∙ and_left (ltb s (3 + n)) (leb p n) h1;
      known = leb-true p n (and_right (ltb s (3 + n)) (leb p n) h1);
      top_runs = λ u e.
          tree_running_byte s
          ∙ by_or (eqb s 1) (eqb s 2) (sym (tree_byte s) ∙ u) (λ t. t)
          (λ t. clash false (rw (none_byte p e, eqb-true s 2 t) at (and_right t1 (not (eqb p 0) || not (eqb s 2)) h2)) refl);
      child_in_tree = λ q e.
          tree_byte s
          ∙ by_or (eqb p 0) (eqb s 1 || eqb s 2) (and_right t2 (eqb p 0 || (eqb s 1 || eqb s 2)) h)
          (λ t. absurd (none-ne-some q (rw (eqb-true p 0 t) at e)))
          (λ t. t);
    }
  where
    t1 : Bool
    t1 = ltb s (3 + n) && leb p n

    t2 : Bool
    t2 = t1 && (not (eqb p 0) || not (eqb s 2))

    h2 : t2 ≡ true
    h2 = and_left t2 (eqb p 0 || (eqb s 1 || eqb s 2)) h

    h1 : t1 ≡ true
    h1 = and_left t1 (not (eqb p 0) || not (eqb s 2)) h2

bytes_fit_lem : (n p s : ℕ) → Fit n p s → fit n p s ≡ true
bytes_fit_lem n p s f = rw (sym (means_byte n s) ∙ f.means, le-leb p n f.known, topmost p f.top_runs, child p f.child_in_tree)
  where
    topmost : (p : ℕ) → (in_tree (tree_state_of s) ≡ true → parent_of p ≡ none → is_running (tree_state_of s) ≡ true) → (not (eqb p 0) || not (eqb s 2)) ≡ true
    topmost zero runs =
        by_bool (eqb s 2) (λ t. let two = eqb-true s 2 t in clash false (rw two at (runs (rw two) refl)) refl) (λ t. rw t)
    topmost (suc q) runs = rw eqb-suc-zero

    child : (p : ℕ) → ((q : ℕ) → parent_of p ≡ some q → in_tree (tree_state_of s) ≡ true) → (eqb p 0 || (eqb s 1 || eqb s 2)) ≡ true
    child zero u = refl
    child (suc q) u = or_right (eqb (suc q) 0) (eqb s 1 || eqb s 2) (sym (tree_byte s) ∙ u q refl)

-- ---- what a parent forbids

-- A number of the tree in state s may stand under one in state t.
abbrev may_stand_under : ℕ → ℕ → Bool
may_stand_under s t = in_tree (tree_state_of t) && (is_running (tree_state_of s) ⇒ is_running (tree_state_of t))

forbid_rule : (s t : ℕ) → in_tree (tree_state_of s) ≡ true → eqb (bit_and (forbids_of t) s) 0 ≡ may_stand_under s t
forbid_rule zero t u = clash false u refl
forbid_rule (suc zero) zero u = refl
forbid_rule (suc zero) (suc zero) u = refl
forbid_rule (suc zero) (suc (suc zero)) u = refl
forbid_rule (suc zero) (suc (suc (suc h))) u = refl
forbid_rule (suc (suc zero)) zero u = refl
forbid_rule (suc (suc zero)) (suc zero) u = refl
forbid_rule (suc (suc zero)) (suc (suc zero)) u = refl
forbid_rule (suc (suc zero)) (suc (suc (suc h))) u = refl
forbid_rule (suc (suc (suc h))) t u = clash false u refl

-- ---- all parts

-- a part that fails breaks the whole
pub broken : (part whole : Bool) → (whole ≡ true → part ≡ true) → part ≡ false → false ≡ whole
broken part whole needs fails = sym (refuted whole (λ h. clash part (needs h) fails))

-- bytes that fit name parents of the table
pub fits_known : (n : ℕ) (parents states : List ℕ) → all n (bytes_fit n parents states) ≡ true → (k : ℕ) → k < n → get_or parents k 0 ≤ n
fits_known n parents states fits k l = (fit_bytes n (get_or parents k 0) (get_or states k 0) (all_at n (bytes_fit n parents states) fits k l)).known

-- and are states of it
pub fits_means : (n : ℕ) (parents states : List ℕ) → all n (bytes_fit n parents states) ≡ true → (k : ℕ) → k < n → get_or states k 0 < 3 + n
fits_means n parents states fits k l =
    let f = fit_bytes n (get_or parents k 0) (get_or states k 0) (all_at n (bytes_fit n parents states) fits k l) in
    ltb-true (get_or states k 0) (3 + n) (sym (means_byte n (get_or states k 0)) ∙ f.means)

-- ---- the tree

module _ (n : ℕ) (parents states : List ℕ) where
  abbrev byte : ℕ → ℕ
  byte k = get_or states k 0

  module _ (ok : SoundTree n parents states) where
    facts : (k : ℕ) → k < n → SoundNumber (tree_shape n) (tree parents states) k
    facts = sound_facts (tree_shape n) (tree parents states) ok

    -- a number with a parent is in the tree
    child_in_tree_lem : (k p : ℕ) → k < n → parent_of (get_or parents k 0) ≡ some p → in_tree (tree_state_of (byte k)) ≡ true
    child_in_tree_lem k p l e =
        by_bool (in_tree (tree_state_of (byte k))) (λ t. t)
        (λ t. absurd (none-ne-some p (sym ((facts k l).free_has_no_parent (tree_free (byte k) ∙ rw t)) ∙ e)))

    tree_permits : all n (permitted parents states) ≡ true
    tree_permits = all_by n (permitted parents states) (λ k l. at k l (get_or parents k 0) refl)
      where
        at : (k : ℕ) → k < n → (x : ℕ) → get_or parents k 0 ≡ x → eqb (bit_and (shifted forbids_of states x) (byte k)) 0 ≡ true
        at k l zero e = refl
        at k l (suc p) e =
            let up : parent_of (get_or parents k 0) ≡ some p = rw e in
            forbid_rule (byte k) (byte p) (child_in_tree_lem k p l up)
            ∙ and_both (in_tree (tree_state_of (byte p))) (is_running (tree_state_of (byte k)) ⇒ is_running (tree_state_of (byte p))) ((facts k l).parent_in_tree p up)
            (implied (is_running (tree_state_of (byte k))) (is_running (tree_state_of (byte p))) (λ r. (facts k l).parent_runs r p up))

    tree_ends : all n (reaches_top (n - 1) (up_of parents)) ≡ true
    tree_ends = all_by n (reaches_top (n - 1) (up_of parents)) (λ k l. (facts k l).ends_at_top)

  -- what the parent of a number may be
  under_parent : (k p : ℕ) → Fit n (get_or parents k 0) (byte k) → permitted parents states k ≡ true → parent_of (get_or parents k 0) ≡ some p →
      may_stand_under (byte k) (byte p) ≡ true
  under_parent k p f h e =
      sym (forbid_rule (byte k) (byte p) (f.child_in_tree p e)) ∙ (rw (parent_byte (get_or parents k 0) p e) at h)

  -- The first three parts make the tree sound.
  pub parts_tree : all n (bytes_fit n parents states) ≡ true → all n (permitted parents states) ≡ true → all n (reaches_top (n - 1) (up_of parents)) ≡ true →
      SoundTree n parents states
  parts_tree fits permits ends =
      sound_from (tree_shape n) (tree parents states)
      (λ k l.
      let f = fit_bytes n (get_or parents k 0) (byte k) (all_at n (bytes_fit n parents states) fits k l) in
      let u = all_at n (permitted parents states) permits k l in
      record {
        means = tree_means (byte k);
        top_runs = f.top_runs;
        free_has_no_parent = λ free.
            by_parent (parent_of (get_or parents k 0)) (λ e. e)
            (λ p e. clash (in_tree (tree_state_of (byte k))) (f.child_in_tree p e) (not-true (in_tree (tree_state_of (byte k))) (sym (tree_free (byte k)) ∙ free)));
        free_stands_nowhere = λ h m i lm li. refl;
        parent_known = λ p e. let b = parent_byte (get_or parents k 0) p e in let g = f.known in omega arith;
        parent_in_tree = λ p e.
            and_left (in_tree (tree_state_of (byte p))) (is_running (tree_state_of (byte k)) ⇒ is_running (tree_state_of (byte p))) (under_parent k p f u e);
        ends_at_top = all_at n (reaches_top (n - 1) (up_of parents)) ends k l;
        parent_runs = λ r p e.
            implies (is_running (tree_state_of (byte k))) (is_running (tree_state_of (byte p)))
            (and_right (in_tree (tree_state_of (byte p))) (is_running (tree_state_of (byte k)) ⇒ is_running (tree_state_of (byte p))) (under_parent k p f u e))
            r;
        drains = λ h e. absurd (none-ne-some h (sym (tree_headless (byte k)) ∙ e));
      })

-- ---- the tree with its sets

module _ (layout : Layout) (t : Table) where
  abbrev n : ℕ
  n = layout.shape.actions

  -- what a sound bench says of the first three parts
  module _ (ok : sound layout.shape (view layout t) ≡ true) where
    pub sound_fits : all n (bytes_fit n t.parents t.states) ≡ true
    sound_fits =
        all_by n (bytes_fit n t.parents t.states)
        (λ k l.
        let f = sound_facts layout.shape (view layout t) ok k l in
        bytes_fit_lem n (get_or t.parents k 0) (get_or t.states k 0)
        (record {
          means = f.means;
          known = known (get_or t.parents k 0) f.parent_known;
          top_runs = (facts n t.parents t.states (tree_sound layout t ok) k l).top_runs;
          child_in_tree = λ p e. child_in_tree_lem n t.parents t.states (tree_sound layout t ok) k p l e;
        }))
      where
        known : (x : ℕ) → ((p : ℕ) → parent_of x ≡ some p → p < n) → x ≤ n
        known zero h = omega arith
        known (suc p) h = h p refl

    pub sound_permits : all n (permitted t.parents t.states) ≡ true
    sound_permits = tree_permits n t.parents t.states (tree_sound layout t ok)

    pub sound_ends : all n (reaches_top (n - 1) (up_of t.parents)) ≡ true
    sound_ends = tree_ends n t.parents t.states (tree_sound layout t ok)

  -- `standing` is a test of the numbers that stand in sets
  module _ (standing : ℕ → Bool) (tells : TellsStanding layout t standing) where
    -- a number that stands in no set, mode by mode
    nowhere : (k : ℕ) → k < n → standing k ≡ false → (m i : ℕ) → m < layout.shape.modes → i < layout.shape.instruments → (view layout t).stands m i k ≡ false
    nowhere k l out m i lm li =
        any_none layout.shape.modes (λ held. layout.holds (t.sets held) i k)
        (any_none layout.shape.instruments (stands_at layout t k) (sym (tells k l) ∙ out) i li)
        m
        lm

    -- none of those that stand in sets is free
    abbrev standing_used : Bool
    standing_used = all n (λ k. standing k ⇒ in_use t.states k)

    -- of each group that drains the head is there, and one of those that stand in sets
    abbrev groups_stand : Bool
    groups_stand = all n (drain_fits n t.states standing)

    -- of the group of h
    abbrev head_fits : ℕ → Bool
    head_fits h = eqb (get_or t.states h 0) (3 + h) && any n (λ j. standing j && eqb (get_or t.states j 0) (3 + h))

    drain_byte : (k h : ℕ) → get_or t.states k 0 ≡ 3 + h → drain_fits n t.states standing k ≡ head_fits h
    drain_byte k h e =
        let above : leb (3 + h) 2 ≡ false = lt-leb (3 + h) 2 (omega arith) in
        let head : 3 + h - 3 ≡ h = omega arith in
        rw (e, above, head)

    -- the same in the bench
    group_stands : (h : ℕ) → h < n → any n (λ j. standing j && eqb (get_or t.states j 0) (3 + h)) ≡ stand_somewhere layout.shape (view layout t) (drains_under (view layout t) h)
    group_stands h l =
        sym (stand_somewhere_lem layout t standing (drains_under (view layout t) h) tells
        ∙ any_cong n (λ j. standing j && drains_under (view layout t) h j) (λ j. standing j && eqb (get_or t.states j 0) (3 + h))
        (λ j lj. ap (λ u. standing j && u) (group_byte layout t h j l)))

    pub parts_sound : all n (bytes_fit n t.parents t.states) ≡ true → all n (permitted t.parents t.states) ≡ true →
        all n (reaches_top (n - 1) (up_of t.parents)) ≡ true → standing_used ≡ true → groups_stand ≡ true → sound layout.shape (view layout t) ≡ true
    parts_sound fits permits ends used drain =
        tree_with_sets layout t (parts_tree n t.parents t.states fits permits ends)
        (λ k l. (fit_bytes n (get_or t.parents k 0) (get_or t.states k 0) (all_at n (bytes_fit n t.parents t.states) fits k l)).means)
        (λ k l u. nowhere k l (refuted (standing k) (λ stands.
        clash (eqb (get_or t.states k 0) 0) (sym (free_byte n (get_or t.states k 0)) ∙ u)
        (not-true (eqb (get_or t.states k 0) 0)
        (implies (standing k) (in_use t.states k) (all_at n (λ j. standing j ⇒ in_use t.states j) used k l) stands)))))
        (λ k h l e.
        let named = head_byte n (get_or t.states k 0) h e in
        let both = sym (drain_byte k h named.0) ∙ all_at n (drain_fits n t.states standing) drain k l in
        let head = eqb (get_or t.states h 0) (3 + h) in
        let group = any n (λ j. standing j && eqb (get_or t.states j 0) (3 + h)) in
        (group_byte layout t h h named.1 ∙ and_left head group both, sym (group_stands h named.1) ∙ and_right head group both))

    module _ (ok : sound layout.shape (view layout t) ≡ true) where
      pub sound_standing : standing_used ≡ true
      sound_standing =
          all_by n (λ k. standing k ⇒ in_use t.states k)
          (λ k l.
          implied (standing k) (in_use t.states k)
          (λ stands.
          let at = any_at layout.shape.instruments (stands_at layout t k) (sym (tells k l) ∙ stands) in
          let mode = any_at layout.shape.modes (λ held. layout.holds (t.sets held) at.0 k) at.2 in
          rw (← free_byte n (get_or t.states k 0), standing_in_use layout.shape (view layout t) ok mode.0 at.0 k mode.1 at.1 l mode.2)))

      pub sound_groups : groups_stand ≡ true
      sound_groups =
          all_by n (drain_fits n t.states standing)
          (λ k l. by_bool (leb (get_or t.states k 0) 2)
          (λ low. or_left (leb (get_or t.states k 0) 2) _ low)
          (λ high. let above = leb-false (get_or t.states k 0) 2 high in
          drains k l (get_or t.states k 0 - 3) (omega arith)))
        where
          drains : (k : ℕ) → k < n → (h : ℕ) → get_or t.states k 0 ≡ 3 + h → drain_fits n t.states standing k ≡ true
          drains k l h e =
              let f = sound_facts layout.shape (view layout t) ok k l in
              let below = ltb-true (get_or t.states k 0) (3 + n) (sym (means_byte n (get_or t.states k 0)) ∙ f.means) in
              let known : h < n = omega arith in
              let d = f.drains h (byte_head n (get_or t.states k 0) h known e) in
              drain_byte k h e ∙ rw (← group_byte layout t h h known, d.head_drains, group_stands h known, d.group_stands)

    -- Where the other parts hold, the numbers that stand in sets decide, with the groups that drain.
    pub standing_decides : all n (bytes_fit n t.parents t.states) ≡ true → all n (permitted t.parents t.states) ≡ true →
        all n (reaches_top (n - 1) (up_of t.parents)) ≡ true → (standing_used && groups_stand) ≡ sound layout.shape (view layout t)
    standing_decides fits permits ends =
        same (standing_used && groups_stand) (sound layout.shape (view layout t))
        (λ h. parts_sound fits permits ends (and_left standing_used groups_stand h) (and_right standing_used groups_stand h))
        (λ ok. and_both standing_used groups_stand (sound_standing ok) (sound_groups ok))
