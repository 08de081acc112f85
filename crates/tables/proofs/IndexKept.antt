-- The sets that a player keeps beside the arrays, after each step: a refused request leaves them as they were, an ask and a quiet too, and what the player does to
-- them on opening and ending an action makes them those of the next bench. Whether an aborted family drains or is freed is all one to them: it has left the tree.
-- Assumes nothing.
use mathlib.Core.Path.{◌≡◌, refl, sym, ◌∙◌, ap}
use mathlib.Core.Bool.{Bool, true, false}
use mathlib.Core.List.{List}
use mathlib.Core.Option.{Option, none, some}
use Prim.Native.Nat.{ℕ, zero, suc, ◌-◌, ◌%◌, ◌<◌}
use native.Mathlib.Nat.{mod-eq_of_lt}
use native.Mathlib.Omega.{arith}
use borrow.Author.Tests.{eqb-true, ne_eqb, eq-eqb, ltb-true, ltb-false}
use lib.Dec.{eqb, ltb}
use lib.ListN.{get_or, set, get_or-eq_default}
use Rattle.sets.specs.Sets.{member, with, difference}
use Rattle.rules.specs.Bench as rules
use Rattle.rules.specs.Bench.{State}
use Rattle.rules.specs.Owners.{is_ancestor, in_family, granted, drains_under, stand_somewhere}
use Rattle.rules.specs.Requests.{Request, open_top, open_sub, ask, commit, abort, quiet, put, without, quieted, effect}
use Rattle.rules.specs.Answers.{answer_of, Outcome, step}
use Rattle.rules.proofs.Tests.{by_bool, clash, or_right}
use Rattle.rules.proofs.Facts.{sound_facts, under_head}
use Rattle.rules.proofs.Accepted.{Accepted, OpensTop, OpensSub, Commits, Aborts}
use Rattle.tables.specs.Table.{Layout, Table, view}
use Rattle.tables.specs.Tree.{up_of, tree, tree_shape, tree_state_of, rooted, SoundTree}
use Rattle.tables.specs.Index.{Indexed, KnowsFamily}
use Rattle.tables.specs.Steps.{SoundTable, Stepped, FreedIn, ending}
use Rattle.tables.proofs.States.{tree_state, tree_runs, free_byte, runs_byte, rooted_headed}
use Rattle.tables.proofs.ViewLaws.{tree_sound}
use Rattle.tables.proofs.Steps.{granted_by}
use Rattle.tables.proofs.Indexing.{indexed_same, indexed_opened_top, indexed_opened_sub, indexed_committed, indexed_freed_top, indexed_freed_sub}

module _ (layout : Layout) (t t' : Table) (answer : ℕ) where
  abbrev n : ℕ
  n = layout.shape.actions

  abbrev before : rules.Bench
  before = view layout t

  abbrev after : rules.Bench
  after = view layout t'

  -- ---- from the step of a line to the next bench

  -- The answer of a step, and what it leaves.
  answered_by : (q : Request) → Stepped layout (some q) t answer t' → answer ≡ answer_of layout.shape before q
  unfolding step
  answered_by q st = ap (λ (o : Outcome). o.answer) st.outcome

  took_effect : (q : Request) → Stepped layout (some q) t answer t' → answer ≡ 0 → after ≡ effect layout.shape before q
  unfolding step
  took_effect q st z = let e = answered_by q st in rw (← e, z) at (ap (λ (o : Outcome). o.next) st.outcome)

  facts : (q : Request) → Stepped layout (some q) t answer t' → answer ≡ 0 → Accepted (granted layout.shape before) layout.shape before q
  facts q st z = (granted_by layout.shape before q answer (answered_by q st) z).facts

  nothing_done : (q : Request) → Stepped layout (some q) t answer t' → (answer ≡ 0 → ⊥) → after ≡ before
  unfolding step
  nothing_done q st nonzero =
      let e = answered_by q st in rw (← e, ne_eqb answer 0 nonzero) at (ap (λ (o : Outcome). o.next) st.outcome)

  -- These sets are those of the table after the step.
  abbrev pub IndexedAfter : List ℕ → List ℕ → ℕ → Type 0
  IndexedAfter children lines running = Indexed n (tree t'.parents t'.states) children lines running

  -- The bench c has the states and parents of b for its tree.
  record Rooted (c b : rules.Bench) : Type 0 where
    states : (k : ℕ) → rooted (c.state k) ≡ b.state k
    parents : (k : ℕ) → c.parent k ≡ b.parent k

  -- sets of a bench are those of a table that shows it
  shown : (children lines : List ℕ) (running : ℕ) (b c : rules.Bench) → after ≡ c → Rooted c b → Indexed n b children lines running →
      IndexedAfter children lines running
  shown children lines running b c e r h =
      indexed_same n b (tree t'.parents t'.states) children lines running
      (λ k. tree_state n (get_or t'.states k 0) ∙ ap (λ (v : rules.Bench). rooted (v.state k)) e ∙ r.states k)
      (λ k. ap (λ (v : rules.Bench). v.parent k) e ∙ r.parents k) h

  abbrev rooted_before : rules.Bench
  rooted_before = tree t.parents t.states

  rooted_at : (k : ℕ) → rooted (before.state k) ≡ tree_state_of (get_or t.states k 0)
  rooted_at k = sym (tree_state n (get_or t.states k 0))

  -- one number in another state of the tree
  rooted_put : (k : ℕ) (s : State) → rooted s ≡ s → (j : ℕ) → rooted (put k s before.state j) ≡ put k s rooted_before.state j
  rooted_put k s e j = by_bool (eqb j k) (λ u. rw u e) (λ u. rw u (rooted_at j))

  -- ---- quiet

  module _ (pre : SoundTable layout t) (a i : ℕ) where
    -- a group that leaves was not in the tree
    group_outside : Rooted (without (drains_under before a) before) rooted_before
    group_outside =
        record {
          states = λ k. by_bool (drains_under before a k)
              (λ u. rw (u, tree_state n (get_or t.states k 0)) (sym (rooted_headed (before.state k) a (under_head before a k u))))
              (λ u. rw u (rooted_at k));
          parents = λ k. by_bool (drains_under before a k)
              (λ u. rw u (sym ((sound_facts layout.shape before pre.is_sound k (known k u)).drains a (under_head before a k u)).no_parent))
              (λ u. rw u);
        }
      where
        known : (k : ℕ) → drains_under before a k ≡ true → k < n
        known k u =
            by_bool (ltb k n) (ltb-true k n)
            (λ past. let nothing : get_or t.states k 0 ≡ 0 = get_or-eq_default t.states 0 (rw pre.long.states_long (ltb-false k n past)) in
            clash false (rw nothing at u) refl)

    -- nor do those that stay draining come into it
    quiet_rooted : Rooted (effect layout.shape before (quiet a i)) rooted_before
    unfolding effect
    quiet_rooted =
        by_bool (stand_somewhere layout.shape (quieted (drains_under before a) i before) (drains_under before a))
        (λ u. rw u (record { states = rooted_at; parents = λ k. refl }))
        (λ u. rw u group_outside)

    -- Quiet leaves the tree as it was.
    pub quiet_tree : Stepped layout (some (quiet a i)) t answer t' → (k : ℕ) →
        (tree_state_of (get_or t'.states k 0) ≡ tree_state_of (get_or t.states k 0)) × (up_of t'.parents k ≡ up_of t.parents k)
    quiet_tree st k = by_answer answer refl
      where
        left : (c : rules.Bench) → after ≡ c → Rooted c rooted_before →
            (tree_state_of (get_or t'.states k 0) ≡ tree_state_of (get_or t.states k 0)) × (up_of t'.parents k ≡ up_of t.parents k)
        left c e r = (
          tree_state n (get_or t'.states k 0) ∙ ap (λ (v : rules.Bench). rooted (v.state k)) e ∙ r.states k,
          ap (λ (v : rules.Bench). v.parent k) e ∙ r.parents k,
        )

        by_answer : (given : ℕ) → answer ≡ given → (tree_state_of (get_or t'.states k 0) ≡ tree_state_of (get_or t.states k 0)) × (up_of t'.parents k ≡ up_of t.parents k)
        by_answer zero z = left (effect layout.shape before (quiet a i)) (took_effect (quiet a i) st z) quiet_rooted
        by_answer (suc given) z = left before (nothing_done (quiet a i) st (λ e. absurd (omega arith))) (record { states = rooted_at; parents = λ j. refl })

  module _ (children lines : List ℕ) (running : ℕ) (h : Indexed n (tree t.parents t.states) children lines running) where
    -- ---- nothing changes in the tree

    unchanged : (c : rules.Bench) → after ≡ c → Rooted c rooted_before → IndexedAfter children lines running
    unchanged c e r = shown children lines running rooted_before c e r h

    as_before : after ≡ before → IndexedAfter children lines running
    as_before e = unchanged before e (record { states = rooted_at; parents = λ k. refl })

    pub refused_kept : (r : Option Request) → Stepped layout r t answer t' → (answer ≡ 0 → ⊥) → IndexedAfter children lines running
    refused_kept none st nonzero = as_before (ap (λ (o : Outcome). o.next) st.outcome)
    refused_kept (some q) st nonzero = as_before (nothing_done q st nonzero)

    pub ask_kept : (m a i : ℕ) → Stepped layout (some (ask m a i)) t answer t' → IndexedAfter children lines running
    unfolding effect
    ask_kept m a i st = by_answer answer refl
      where
        by_answer : (given : ℕ) → answer ≡ given → IndexedAfter children lines running
        by_answer zero z =
            unchanged (effect layout.shape before (ask m a i)) (took_effect (ask m a i) st z) (record { states = rooted_at; parents = λ k. refl })
        by_answer (suc given) z = refused_kept (some (ask m a i)) st (λ e. absurd (omega arith))

    module _ (pre : SoundTable layout t) where
      pub quiet_kept : (a i : ℕ) → Stepped layout (some (quiet a i)) t answer t' → IndexedAfter children lines running
      quiet_kept a i st =
          indexed_same n rooted_before (tree t'.parents t'.states) children lines running (λ k. (quiet_tree pre a i st k).0) (λ k. (quiet_tree pre a i st k).1) h

      ok : SoundTree n t.parents t.states
      ok = tree_sound layout t pre.is_sound

      -- ---- an action is opened

      -- a free number is free in the tree, and a running one runs in it
      free_rooted : (k : ℕ) → rules.is_free (before.state k) ≡ true → rules.is_free (rooted_before.state k) ≡ true
      free_rooted k u = rw (eqb-true (get_or t.states k 0) 0 (sym (free_byte n (get_or t.states k 0)) ∙ u))

      runs_rooted : (k : ℕ) → rules.is_running (before.state k) ≡ true → rules.is_running (rooted_before.state k) ≡ true
      runs_rooted k r = tree_runs n (get_or t.states k 0) ∙ r

      pub open_top_kept : (k : ℕ) → Stepped layout (some (open_top k)) t answer t' → answer ≡ 0 →
          IndexedAfter (set children (k % n) 0) (set lines (k % n) (with n 0 (k % n))) (with n running (k % n))
      unfolding effect
      open_top_kept k st z =
          let f : OpensTop layout.shape before k = facts (open_top k) st z in
          rw (mod-eq_of_lt f.known)
          (shown _ _ _ (effect (tree_shape n) rooted_before (open_top k)) (effect layout.shape before (open_top k)) (took_effect (open_top k) st z)
          (record { states = rooted_put k rules.running refl; parents = λ j. refl })
          (indexed_opened_top (tree_shape n) rooted_before ok children lines running h k (record { known = f.known; was_free = free_rooted k f.was_free })))

      pub open_sub_kept : (k p : ℕ) → Stepped layout (some (open_sub k p)) t answer t' → answer ≡ 0 →
          IndexedAfter (set (set children (k % n) 0) (p % n) (with n (get_or (set children (k % n) 0) (p % n) 0) (k % n)))
          (set lines (k % n) (with n (get_or lines (p % n) 0) (k % n))) (with n running (k % n))
      unfolding effect
      open_sub_kept k p st z =
          let f : OpensSub layout.shape before k p = facts (open_sub k p) st z in
          rw (mod-eq_of_lt f.known, mod-eq_of_lt f.parent_known)
          (shown _ _ _ (effect (tree_shape n) rooted_before (open_sub k p)) (effect layout.shape before (open_sub k p)) (took_effect (open_sub k p) st z)
          (record { states = rooted_put k rules.running refl; parents = λ j. refl })
          (indexed_opened_sub (tree_shape n) rooted_before ok children lines running h k p
          (record { known = f.known; parent_known = f.parent_known; was_free = free_rooted k f.was_free; parent_runs = runs_rooted p f.parent_runs })))

      -- ---- an action ends

      -- a family that is freed, or drains, has left the tree
      module _ (a : ℕ) where
        freed_rooted : Rooted (without (in_family layout.shape before a) before) (without (in_family (tree_shape n) rooted_before a) rooted_before)
        unfolding is_ancestor in_family
        freed_rooted =
            record {
              states = λ k. by_bool (in_family layout.shape before a k) (λ u. rw u) (λ u. rw u (rooted_at k));
              parents = λ k. refl;
            }

        aborted_rooted : Rooted (effect layout.shape before (abort a)) (without (in_family (tree_shape n) rooted_before a) rooted_before)
        unfolding effect is_ancestor in_family
        aborted_rooted =
            by_bool (stand_somewhere layout.shape before (in_family layout.shape before a))
            (λ s. rw s
            (record {
              states = λ k. by_bool (in_family layout.shape before a k) (λ u. rw u) (λ u. rw u (rooted_at k));
              parents = λ k. refl;
            }))
            (λ s. rw s freed_rooted)

      -- what ends: a commit or an abort of a, which leaves the bench c
      module _ (a gone : ℕ) (known : a < n) (runs : rules.is_running (before.state a) ≡ true) (knows : KnowsFamily n t.parents t.states a gone)
          (c : rules.Bench) (e : after ≡ c) (r : Rooted c (without (in_family (tree_shape n) rooted_before a) rooted_before)) where
        -- the family that has gone, as the rules have it
        family_of : (k : ℕ) → member gone k ≡ in_family (tree_shape n) rooted_before a k
        unfolding is_ancestor in_family
        family_of k = knows known (runs_byte n (get_or t.states a 0) runs) k

        freed_top : before.parent a ≡ none → IndexedAfter children lines (difference running (with n gone a))
        freed_top top =
            shown _ _ _ (without (in_family (tree_shape n) rooted_before a) rooted_before) c e r
            (indexed_freed_top (tree_shape n) rooted_before ok children lines running h a gone known family_of top)

        freed_sub : (p : ℕ) → before.parent a ≡ some p →
            IndexedAfter (set children p (difference (get_or children p 0) gone)) lines (difference running (with n gone a))
        freed_sub p sub =
            shown _ _ _ (without (in_family (tree_shape n) rooted_before a) rooted_before) c e r
            (indexed_freed_sub (tree_shape n) rooted_before ok children lines running h a gone known family_of p sub)

      commit_top_kept : (a gone : ℕ) → get_or t.parents (a % n) 0 ≡ 0 → FreedIn n t.parents t.states false a gone → Stepped layout (some (commit a)) t answer t' →
          answer ≡ 0 → IndexedAfter children lines (difference running (with n gone (a % n)))
      unfolding effect
      commit_top_kept a gone top freed st z =
          let f : Commits layout.shape before a = facts (commit a) st z in
          let family = freed.family (or_right false (eqb (get_or t.parents (a % n) 0) 0) (eq-eqb (get_or t.parents (a % n) 0) 0 top)) in
          let bare : get_or t.parents a 0 ≡ 0 = rw (mod-eq_of_lt f.known) at top in
          rw (mod-eq_of_lt f.known)
          (freed_top a gone f.known f.runs family (without (in_family layout.shape before a) before) (rw bare at (took_effect (commit a) st z)) (freed_rooted a) (rw bare))

      commit_sub_kept : (a gone p : ℕ) → get_or t.parents (a % n) 0 ≡ suc p → FreedIn n t.parents t.states false a gone →
          Stepped layout (some (commit a)) t answer t' → answer ≡ 0 →
          IndexedAfter (set children p (difference (get_or children p 0) gone)) lines (difference running (with n gone (a % n)))
      unfolding effect
      commit_sub_kept a gone p sub freed st z =
          let f : Commits layout.shape before a = facts (commit a) st z in
          let bare : get_or t.parents a 0 ≡ suc p = rw (mod-eq_of_lt f.known) at sub in
          rw (mod-eq_of_lt f.known, freed.nobody (rw (sub, ne_eqb (suc p) 0 (λ e. absurd (omega arith)))))
          (shown _ _ _ (effect (tree_shape n) rooted_before (commit a)) (effect layout.shape before (commit a)) (took_effect (commit a) st z)
          (rw bare (record { states = rooted_put a rules.committed refl; parents = λ k. refl }))
          (indexed_committed (tree_shape n) rooted_before ok children lines running h a p f.known (runs_rooted a f.runs) (rw bare)))

      abort_top_kept : (a gone : ℕ) → get_or t.parents (a % n) 0 ≡ 0 → FreedIn n t.parents t.states true a gone → Stepped layout (some (abort a)) t answer t' →
          answer ≡ 0 → IndexedAfter children lines (difference running (with n gone (a % n)))
      abort_top_kept a gone top freed st z =
          let f : Aborts layout.shape before a = facts (abort a) st z in
          let bare : get_or t.parents a 0 ≡ 0 = rw (mod-eq_of_lt f.known) at top in
          rw (mod-eq_of_lt f.known)
          (freed_top a gone f.known f.runs (freed.family refl) (effect layout.shape before (abort a)) (took_effect (abort a) st z) (aborted_rooted a) (rw bare))

      abort_sub_kept : (a gone p : ℕ) → get_or t.parents (a % n) 0 ≡ suc p → FreedIn n t.parents t.states true a gone →
          Stepped layout (some (abort a)) t answer t' → answer ≡ 0 →
          IndexedAfter (set children p (difference (get_or children p 0) gone)) lines (difference running (with n gone (a % n)))
      abort_sub_kept a gone p sub freed st z =
          let f : Aborts layout.shape before a = facts (abort a) st z in
          let bare : get_or t.parents a 0 ≡ suc p = rw (mod-eq_of_lt f.known) at sub in
          rw (mod-eq_of_lt f.known)
          (freed_sub a gone f.known f.runs (freed.family refl) (effect layout.shape before (abort a)) (took_effect (abort a) st z) (aborted_rooted a) p (rw bare))

      -- a commit or an abort of x that is accepted
      module _ (aborts : Bool) (x : ℕ) (st : Stepped layout (some (ending aborts x)) t answer t') (z : answer ≡ 0) where
        pub end_top_kept : (gone : ℕ) → get_or t.parents (x % n) 0 ≡ 0 → FreedIn n t.parents t.states aborts x gone →
            IndexedAfter children lines (difference running (with n gone (x % n)))
        end_top_kept gone top freed = by_kind aborts refl
          where
            by_kind : (kind : Bool) → aborts ≡ kind → IndexedAfter children lines (difference running (with n gone (x % n)))
            by_kind true e = abort_top_kept x gone top (rw e at freed) (rw e at st) z
            by_kind false e = commit_top_kept x gone top (rw e at freed) (rw e at st) z

        pub end_sub_kept : (gone : ℕ) → (get_or t.parents (x % n) 0 ≡ 0 → ⊥) → FreedIn n t.parents t.states aborts x gone →
            IndexedAfter (set children (get_or t.parents (x % n) 0 - 1) (difference (get_or children (get_or t.parents (x % n) 0 - 1) 0) gone))
            lines (difference running (with n gone (x % n)))
        end_sub_kept gone sub freed = by_byte (get_or t.parents (x % n) 0) refl
          where
            by_kind : (p : ℕ) → get_or t.parents (x % n) 0 ≡ suc p → (kind : Bool) → aborts ≡ kind →
                IndexedAfter (set children p (difference (get_or children p 0) gone)) lines (difference running (with n gone (x % n)))
            by_kind p e true q = abort_sub_kept x gone p e (rw q at freed) (rw q at st) z
            by_kind p e false q = commit_sub_kept x gone p e (rw q at freed) (rw q at st) z

            by_byte : (up : ℕ) → get_or t.parents (x % n) 0 ≡ up →
                IndexedAfter (set children (up - 1) (difference (get_or children (up - 1) 0) gone)) lines (difference running (with n gone (x % n)))
            by_byte zero e = absurd (sub e)
            by_byte (suc p) e =
                let named : suc p - 1 ≡ p = omega arith in
                rw named (by_kind p e aborts refl)
