-- Every request on a sound bench leaves a sound bench, and the empty bench is sound.
use mathlib.Core.Path.{◌≡◌, refl, sym, ◌∙◌}
use mathlib.Core.Bool.{Bool, true, false, ◌&&◌, and-false}
use mathlib.Core.Option.{Option, none, some, none-ne-some, some-injective}
use Prim.Native.Nat.{ℕ, suc, ◌<◌, ◌-◌}
use lib.Dec.{eqb}
use borrow.Author.Tests.{eqb-true, eqb-false, eq-eqb, ne_eqb}
use Rattle.rules.specs.Bench.{Shape, State, free, running, committed, draining, is_free, is_running, head_of, in_tree, Bench, empty}
use Rattle.rules.specs.Owners.{is_child, has_running_child, in_family, granted, drains_under, stand_somewhere}
use Rattle.rules.specs.Sound.{means_something, reaches_top, sound}
use Rattle.rules.specs.Requests.{Request, open_top, open_sub, ask, commit, abort, quiet, put, without, drained, quieted, effect}
use Rattle.rules.specs.Answers.{row_by, answer_of, step}
use Rattle.rules.proofs.Tests.{by_bool, by_parent, clash, or_left, refuted, any_by}
use Rattle.rules.proofs.Facts.{tree_in_use, runs_in_tree, runs_in_use, tree_headless, free_headless, Drains, SoundNumber, sound_facts, sound_from, drains_under_lem, under_head, somewhere_more, drains_on}
use Rattle.rules.proofs.Chains.{reaches_none, reaches_kept}
use Rattle.rules.proofs.Pigeonhole.{ends_soon}
use Rattle.rules.proofs.Family.{family_self, family_top, family_closed}
use Rattle.rules.proofs.Accepted.{OpensTop, OpensSub, Asks, Commits, Aborts, Quiets, accepted}

-- a free number without a parent that stands nowhere is as it should be
free_sound : (sh : Shape) (b : Bench) (k : ℕ) → b.state k ≡ free → b.parent k ≡ none → ((m i : ℕ) → b.stands m i k ≡ false) → SoundNumber sh b k
free_sound sh b k s e nowhere =
    record {
      means = rw s;
      top_runs = λ u t. clash false (rw s at u) refl;
      free_has_no_parent = λ u. e;
      free_stands_nowhere = λ u m i lm li. nowhere m i;
      parent_known = λ p t. absurd (none-ne-some p (sym e ∙ t));
      parent_in_tree = λ p t. absurd (none-ne-some p (sym e ∙ t));
      ends_at_top = reaches_none b.parent (sh.actions - 1) k e;
      parent_runs = λ r p t. absurd (none-ne-some p (sym e ∙ t));
      drains = λ h t. absurd (none-ne-some h (rw s at t));
    }

pub empty_sound : (sh : Shape) → sound sh empty ≡ true
empty_sound sh = sound_from sh empty (λ k l. free_sound sh empty k refl refl (λ m i. refl))

-- and so is a number that drains well
draining_sound : (sh : Shape) (b : Bench) (k h : ℕ) → b.state k ≡ draining h → Drains sh b k h → SoundNumber sh b k
draining_sound sh b k h s d =
    record {
      means = rw s;
      top_runs = λ u t. clash false (rw s at u) refl;
      free_has_no_parent = λ u. d.no_parent;
      free_stands_nowhere = λ u. clash false (rw s at u) refl;
      parent_known = λ p t. absurd (none-ne-some p (sym d.no_parent ∙ t));
      parent_in_tree = λ p t. absurd (none-ne-some p (sym d.no_parent ∙ t));
      ends_at_top = reaches_none b.parent (sh.actions - 1) k d.no_parent;
      parent_runs = λ r. clash false (rw s at r) refl;
      drains = λ x t. rw (some-injective h x (rw s at t)) at d;
    }

module _ (sh : Shape) (b : Bench) (ok : sound sh b ≡ true) where
  facts : (k : ℕ) → k < sh.actions → SoundNumber sh b k
  facts = sound_facts sh b ok

  -- ---- one number gets another state: open, and commit of a sub

  -- what it takes to put n into state s where `next` gives the parents
  record Marks (n : ℕ) (s : State) (next : ℕ → Option ℕ) : Type 0 where
    means : means_something s ≡ true
    is_in_tree : in_tree s ≡ true
    was_headless : head_of (b.state n) ≡ none
    top_runs : next n ≡ none → is_running s ≡ true
    parent_known : (p : ℕ) → next n ≡ some p → p < sh.actions
    parent_in_tree : (p : ℕ) → next n ≡ some p → in_tree (b.state p) ≡ true
    parent_runs : is_running s ≡ true → (p : ℕ) → next n ≡ some p → is_running (b.state p) ≡ true
    child_runs : (k : ℕ) → k < sh.actions → b.parent k ≡ some n → is_running (b.state k) ≡ true → is_running s ≡ true
    others : (k : ℕ) → (k ≡ n → ⊥) → next k ≡ b.parent k
    ends_at_top : (k : ℕ) → k < sh.actions → reaches_top (sh.actions - 1) next k ≡ true

  mark_keeps : (n : ℕ) (s : State) (next : ℕ → Option ℕ) → Marks n s next → sound sh (record { state = put n s b.state; parent = next; stands = b.stands }) ≡ true
  mark_keeps n s next m =
      sound_from sh after (λ k l. by_bool (eqb k n) (itself k l) (other k l))
    where
      after : Bench
      after = record { state = put n s b.state; parent = next; stands = b.stands }

      in_tree_lem : (p : ℕ) → in_tree (b.state p) ≡ true → in_tree (put n s b.state p) ≡ true
      in_tree_lem p h = by_bool (eqb p n) (λ t. rw t m.is_in_tree) (λ t. rw t h)

      in_use : is_free s ≡ false
      in_use = tree_in_use s m.is_in_tree

      -- who drains goes on with it
      heads : (h j : ℕ) → drains_under b h j ≡ true → head_of (put n s b.state j) ≡ some h
      heads h j g =
          let e = under_head b h j g in
          by_bool (eqb j n) (λ t. absurd (none-ne-some h (sym m.was_headless ∙ rw (eqb-true j n t) at e))) (λ t. rw t e)

      runs : (p : ℕ) → (p ≡ n → is_running s ≡ true) → is_running (b.state p) ≡ true → is_running (put n s b.state p) ≡ true
      runs p own h = by_bool (eqb p n) (λ t. rw t (own (eqb-true p n t))) (λ t. rw t h)

      itself : (k : ℕ) → k < sh.actions → eqb k n ≡ true → SoundNumber sh after k
      itself k l t =
          let q = eqb-true k n t in
          record {
            means = rw t m.means;
            top_runs = λ u e. rw t (m.top_runs (rw q at e));
            free_has_no_parent = λ u. clash (is_free s) (rw t at u) in_use;
            free_stands_nowhere = λ u j i lj li. clash (is_free s) (rw t at u) in_use;
            parent_known = λ p e. m.parent_known p (rw q at e);
            parent_in_tree = λ p e. in_tree_lem p (m.parent_in_tree p (rw q at e));
            ends_at_top = m.ends_at_top k l;
            parent_runs = λ r p e. let rs = rw t at r in runs p (λ x. rs) (m.parent_runs rs p (rw q at e));
            drains = λ h e. absurd (none-ne-some h (sym (tree_headless s m.is_in_tree) ∙ rw t at e));
          }

      other : (k : ℕ) → k < sh.actions → eqb k n ≡ false → SoundNumber sh after k
      other k l t =
          let f = facts k l in
          let back = sym (m.others k (eqb-false k n t)) in
          record {
            means = rw t f.means;
            top_runs = λ u e. rw t (f.top_runs (rw t at u) (back ∙ e));
            free_has_no_parent = λ u. sym back ∙ f.free_has_no_parent (rw t at u);
            free_stands_nowhere = λ u. f.free_stands_nowhere (rw t at u);
            parent_known = λ p e. f.parent_known p (back ∙ e);
            parent_in_tree = λ p e. in_tree_lem p (f.parent_in_tree p (back ∙ e));
            ends_at_top = m.ends_at_top k l;
            parent_runs = λ r p e.
                let rk = rw t at r in
                let up = back ∙ e in
                runs p (λ x. m.child_runs k l (rw x at up) rk) (f.parent_runs rk p up);
            drains = λ h e. let d = f.drains h (rw t at e) in drains_on sh b after k h d (sym back ∙ d.no_parent) (λ j lj g. (heads h j g, λ mode i s. s));
          }

  -- a free number is nobody's parent
  free_childless : (n k : ℕ) → is_free (b.state n) ≡ true → k < sh.actions → b.parent k ≡ some n → ⊥
  free_childless n k u l e = clash (is_free (b.state n)) u (tree_in_use (b.state n) ((facts k l).parent_in_tree n e))

  -- a free number may open, as a top or under a running parent
  open_marks : (n : ℕ) (next : ℕ → Option ℕ) → is_free (b.state n) ≡ true → ((p : ℕ) → next n ≡ some p → (p < sh.actions) × (is_running (b.state p) ≡ true)) → ((k : ℕ) → (k ≡ n → ⊥) → next k ≡ b.parent k) → Marks n running next
  unfolding reaches_top
  open_marks n next u own others =
      record {
        means = refl;
        is_in_tree = refl;
        was_headless = free_headless (b.state n) u;
        top_runs = λ e. refl;
        parent_known = λ p e. (own p e).0;
        parent_in_tree = λ p e. runs_in_tree (b.state p) (own p e).1;
        parent_runs = λ r p e. (own p e).1;
        child_runs = λ k l e r. refl;
        others = others;
        ends_at_top = λ k l. by_bool (eqb k n) (λ t. itself k l (eqb-true k n t)) (λ t. other k l (eqb-false k n t));
      }
    where
      other : (k : ℕ) → k < sh.actions → (k ≡ n → ⊥) → reaches_top (sh.actions - 1) next k ≡ true
      other k l ne =
          reaches_kept b.parent next (λ k. (k < sh.actions) × (k ≡ n → ⊥)) (λ k s. others k s.1)
          (λ k p s e. ((facts k s.0).parent_known p e, λ q. free_childless n k u s.0 (rw q at e)))
          (sh.actions - 1)
          k
          (l, ne)
          (facts k l).ends_at_top

      known : (k p : ℕ) → k < sh.actions → next k ≡ some p → p < sh.actions
      known k p l e =
          by_bool (eqb k n) (λ t. (own p (rw (eqb-true k n t) at e)).0)
          (λ t. (facts k l).parent_known p (sym (others k (eqb-false k n t)) ∙ e))

      itself : (k : ℕ) → k < sh.actions → k ≡ n → reaches_top (sh.actions - 1) next k ≡ true
      itself k l q =
          ends_soon sh.actions next known (suc (sh.actions - 1)) k l
          (by_parent (next k) (λ e. rw e)
          (λ p e. let o = own p (rw q at e) in
          rw e
          (other p o.0 (λ x. clash (is_free (b.state n)) u (runs_in_use (b.state n) (rw x at o.1))))))

  -- ---- numbers leave: commit of a top, abort, and quiet

  -- Numbers that leave the tree or the groups: where a number stays, its parent stays, and so does the group that it drains with.
  pub record Leaves (gone : ℕ → Bool) : Type 0 where
    pub parent_stays : (k p : ℕ) → k < sh.actions → b.parent k ≡ some p → gone k ≡ false → gone p ≡ false
    pub group_stays : (k h j : ℕ) → k < sh.actions → j < sh.actions → head_of (b.state k) ≡ some h → gone k ≡ false → head_of (b.state j) ≡ some h → gone j ≡ false

  -- They leave a sound bench.
  pub without_keeps : (gone : ℕ → Bool) → Leaves gone → sound sh (without gone b) ≡ true
  without_keeps gone leaves = sound_from sh (without gone b) (λ k l. by_bool (gone k)
      (λ g. free_sound sh (without gone b) k (rw g) (rw g) (λ m i. rw g (and-false (b.stands m i k))))
      (stays k l))
    where
      closed : (k p : ℕ) → k < sh.actions → b.parent k ≡ some p → gone k ≡ false → gone p ≡ false
      closed = leaves.parent_stays

      stays : (k : ℕ) → k < sh.actions → gone k ≡ false → SoundNumber sh (without gone b) k
      stays k l g =
          let f = facts k l in
          record {
            means = rw g f.means;
            top_runs = λ u e. rw g (f.top_runs (rw g at u) (rw g at e));
            free_has_no_parent = λ u. rw g (f.free_has_no_parent (rw g at u));
            free_stands_nowhere = λ u m i lm li. rw (f.free_stands_nowhere (rw g at u) m i lm li);
            parent_known = λ p e. f.parent_known p (rw g at e);
            parent_in_tree = λ p e. let up = rw g at e in rw (closed k p l up g) (f.parent_in_tree p up);
            ends_at_top = reaches_kept b.parent (without gone b).parent (λ k. (k < sh.actions) × (gone k ≡ false)) (λ k s. rw s.1)
                (λ k p s e. ((facts k s.0).parent_known p e, closed k p s.0 e s.1))
                (sh.actions - 1)
                k
                (l, g)
                f.ends_at_top;
            parent_runs = λ r p e. let up = rw g at e in rw (closed k p l up g) (f.parent_runs (rw g at r) p up);
            drains = λ h e.
                let own = rw g at e in
                let d = f.drains h own in
                drains_on sh b (without gone b) k h d (rw g d.no_parent)
                (λ j lj u. let head = under_head b h j u in
                let here = leaves.group_stays k h j l lj own g head in
                (rw here head, λ m i s. rw (here, s)));
          }

  -- ---- the requests

  open_top_keeps : (n : ℕ) → OpensTop sh b n → sound sh (effect sh b (open_top n)) ≡ true
  unfolding effect
  open_top_keeps n a =
      mark_keeps n running b.parent
      (open_marks n b.parent a.was_free (λ p e. absurd (none-ne-some p (sym ((facts n a.known).free_has_no_parent a.was_free) ∙ e)))
      (λ k ne. refl))

  open_sub_keeps : (n p : ℕ) → OpensSub sh b n p → sound sh (effect sh b (open_sub n p)) ≡ true
  unfolding effect
  open_sub_keeps n p a =
      mark_keeps n running (put n (some p) b.parent)
      (open_marks n (put n (some p) b.parent) a.was_free
      (λ q e. let same = some-injective p q (rw (eq-eqb n n refl) at e) in (rw same at a.parent_known, rw same at a.parent_runs))
      (λ k ne. rw (ne_eqb k n ne)))

  ask_keeps : (grants : ℕ → ℕ → ℕ → Bool) (m a i : ℕ) → Asks grants sh b m a i → sound sh (effect sh b (ask m a i)) ≡ true
  unfolding effect
  ask_keeps grants m a i given =
      sound_from sh (effect sh b (ask m a i))
      (λ k l. let f = facts k l in
      record {
        means = f.means;
        top_runs = f.top_runs;
        free_has_no_parent = f.free_has_no_parent;
        free_stands_nowhere = λ u held at lh la.
            rw (f.free_stands_nowhere u held at lh la, ne_eqb k a (λ q. clash (is_free (b.state a)) (rw q at u) (runs_in_use (b.state a) given.runs)))
            (and-false (eqb held m && eqb at i));
        parent_known = f.parent_known;
        parent_in_tree = f.parent_in_tree;
        ends_at_top = f.ends_at_top;
        parent_runs = f.parent_runs;
        drains = λ h e.
            let d = f.drains h e in
            drains_on sh b (effect sh b (ask m a i)) k h d d.no_parent
            (λ j lj g. (under_head b h j g, λ held at s. or_left (b.stands held at j) (eqb held m && eqb at i && eqb j a) s));
      })

  -- nobody of a family drains
  pub family_headless : (a k : ℕ) → k < sh.actions → is_running (b.state a) ≡ true → in_family sh b a k ≡ true → head_of (b.state k) ≡ none
  family_headless a k l runs t =
      by_parent (head_of (b.state k)) (λ e. e)
      (λ h e. let itself = eqb-true k a (sym (family_top sh b ok a k ((facts k l).drains h e).no_parent) ∙ t) in
      rw itself (tree_headless (b.state a) (runs_in_tree (b.state a) runs)))

  -- and all of it are in use: a has no number below it that is free
  pub family_in_use : (a k : ℕ) → k < sh.actions → is_running (b.state a) ≡ true → in_family sh b a k ≡ true → is_free (b.state k) ≡ false
  family_in_use a k l runs t =
      refuted (is_free (b.state k))
      (λ u. let itself = eqb-true k a (sym (family_top sh b ok a k ((facts k l).free_has_no_parent u)) ∙ t) in
      clash (is_free (b.state a)) (rw itself at u) (runs_in_use (b.state a) runs))

  pub family_leaves : (a : ℕ) → is_running (b.state a) ≡ true → Leaves (in_family sh b a)
  family_leaves a runs =
      record {
        parent_stays = λ k p l e. family_closed sh b ok a k p l e;
        group_stays = λ k h j l lj e g u. refuted (in_family sh b a j) (λ t. none-ne-some h (sym (family_headless a j lj runs t) ∙ u));
      }

  -- a family leaves: abort, and commit of a top
  free_keeps : (a : ℕ) → is_running (b.state a) ≡ true → sound sh (without (in_family sh b a) b) ≡ true
  free_keeps a runs = without_keeps (in_family sh b a) (family_leaves a runs)

  commit_keeps : (a : ℕ) → Commits sh b a → sound sh (effect sh b (commit a)) ≡ true
  unfolding effect has_running_child
  commit_keeps a given =
      by_parent (b.parent a) (λ e. rw e (free_keeps a given.runs))
      (λ p e. rw e
      (mark_keeps a committed b.parent
      (record {
        means = refl;
        is_in_tree = refl;
        was_headless = tree_headless (b.state a) (runs_in_tree (b.state a) given.runs);
        top_runs = λ t. absurd (none-ne-some p (sym t ∙ e));
        parent_known = (facts a given.known).parent_known;
        parent_in_tree = (facts a given.known).parent_in_tree;
        parent_runs = λ r. clash false r refl;
        child_runs = λ k l up r.
            clash (has_running_child sh b a)
            (any_by sh.actions (λ k. is_running (b.state k) && is_child b a k) k l (rw (r, up) (eq-eqb a a refl)))
            given.no_running_child;
        others = λ k ne. refl;
        ends_at_top = λ k l. (facts k l).ends_at_top;
      })))

  -- ---- an abort that drains, and quiet

  -- A family that stands in a set drains under its action.
  pub drain_keeps : (a : ℕ) → a < sh.actions → is_running (b.state a) ≡ true → stand_somewhere sh b (in_family sh b a) ≡ true → sound sh (drained a (in_family sh b a) b) ≡ true
  drain_keeps a la runs standing = sound_from sh after (λ k l. by_bool (family k) (aborted k l) (stays k l))
    where
      family : ℕ → Bool
      family = in_family sh b a

      after : Bench
      after = drained a family b

      of_group : (k : ℕ) → family k ≡ true → drains_under after a k ≡ true
      of_group k t = drains_under_lem after a k (rw t)

      itself : family a ≡ true
      itself = family_self sh b ok a

      aborted : (k : ℕ) → k < sh.actions → family k ≡ true → SoundNumber sh after k
      aborted k l t =
          draining_sound sh after k a (rw t)
          (record {
            no_parent = rw t;
            head_known = la;
            head_drains = of_group a itself;
            group_stands = somewhere_more sh b after family (drains_under after a) (λ m i j lm li lj s u. (s, of_group j u)) standing;
          })

      stays : (k : ℕ) → k < sh.actions → family k ≡ false → SoundNumber sh after k
      stays k l g =
          let f = facts k l in
          record {
            means = rw g f.means;
            top_runs = λ u e. rw g (f.top_runs (rw g at u) (rw g at e));
            free_has_no_parent = λ u. rw g (f.free_has_no_parent (rw g at u));
            free_stands_nowhere = λ u. f.free_stands_nowhere (rw g at u);
            parent_known = λ p e. f.parent_known p (rw g at e);
            parent_in_tree = λ p e. let up = rw g at e in rw (family_closed sh b ok a k p l up g) (f.parent_in_tree p up);
            ends_at_top = reaches_kept b.parent after.parent (λ k. (k < sh.actions) × (family k ≡ false)) (λ k s. rw s.1)
                (λ k p s e. ((facts k s.0).parent_known p e, family_closed sh b ok a k p s.0 e s.1))
                (sh.actions - 1)
                k
                (l, g)
                f.ends_at_top;
            parent_runs = λ r p e. let up = rw g at e in rw (family_closed sh b ok a k p l up g) (f.parent_runs (rw g at r) p up);
            drains = λ h e.
                let d = f.drains h (rw g at e) in
                drains_on sh b after k h d (rw g d.no_parent)
                (λ j lj u. let head = under_head b h j u in
                let out = refuted (family j) (λ t. none-ne-some h (sym (family_headless a j lj runs t) ∙ head)) in
                (rw out head, λ m i s. s));
          }

  abort_keeps : (a : ℕ) → Aborts sh b a → sound sh (effect sh b (abort a)) ≡ true
  unfolding effect
  abort_keeps a given =
      by_bool (stand_somewhere sh b (in_family sh b a))
      (λ t. rw t (drain_keeps a given.known given.runs t))
      (λ t. rw t (free_keeps a given.runs))

  -- the members of a group leave
  pub group_leaves : (a : ℕ) → Leaves (drains_under b a)
  group_leaves a =
      record {
        parent_stays = λ k p l e g. rw (tree_headless (b.state p) ((facts k l).parent_in_tree p e));
        group_stays = λ k h j l lj e g u. rw u (rw e at g);
      }

  quiet_keeps : (a i : ℕ) → Quiets sh b a i → sound sh (effect sh b (quiet a i)) ≡ true
  unfolding effect
  quiet_keeps a i given =
      by_bool (stand_somewhere sh left group) (λ t. rw t (still t)) (λ t. rw t (without_keeps group (group_leaves a)))
    where
      group : ℕ → Bool
      group = drains_under b a

      left : Bench
      left = quieted group i b

      still : stand_somewhere sh left group ≡ true → sound sh left ≡ true
      still t =
          sound_from sh left
          (λ k l. let f = facts k l in
          record {
            means = f.means;
            top_runs = f.top_runs;
            free_has_no_parent = f.free_has_no_parent;
            free_stands_nowhere = λ u m at lm la. rw (f.free_stands_nowhere u m at lm la);
            parent_known = f.parent_known;
            parent_in_tree = f.parent_in_tree;
            ends_at_top = f.ends_at_top;
            parent_runs = f.parent_runs;
            drains = λ h e.
                let d = f.drains h e in
                by_bool (eqb h a)
                (λ q. record { no_parent = d.no_parent; head_known = d.head_known; head_drains = d.head_drains; group_stands = rw (eqb-true h a q) t })
                (λ q. drains_on sh b left k h d d.no_parent
                (λ j lj u. let head = under_head b h j u in
                (head, λ m at s. rw (s, head, q, and-false (eqb at i)))));
          })

  -- An accepted request leaves a sound bench, whatever the granting rule.
  pub effect_keeps_sound : (grants : ℕ → ℕ → ℕ → Bool) (r : Request) → row_by grants sh b r ≡ 0 → sound sh (effect sh b r) ≡ true
  unfolding effect
  effect_keeps_sound grants (open_top n) h = open_top_keeps n (accepted grants sh b (open_top n) h)
  effect_keeps_sound grants (open_sub n p) h = open_sub_keeps n p (accepted grants sh b (open_sub n p) h)
  effect_keeps_sound grants (ask m a i) h = ask_keeps grants m a i (accepted grants sh b (ask m a i) h)
  effect_keeps_sound grants (commit a) h = commit_keeps a (accepted grants sh b (commit a) h)
  effect_keeps_sound grants (abort a) h = abort_keeps a (accepted grants sh b (abort a) h)
  effect_keeps_sound grants (quiet a i) h = quiet_keeps a i (accepted grants sh b (quiet a i) h)

pub step_keeps_sound : (sh : Shape) (b : Bench) (r : Request) → sound sh b ≡ true → sound sh (step sh b r).next ≡ true
unfolding step answer_of
step_keeps_sound sh b r ok =
    rw ok
    (by_bool (eqb (row_by (granted sh b) sh b r) 0)
    (λ t. rw t (effect_keeps_sound sh b ok (granted sh b) r (eqb-true (row_by (granted sh b) sh b r) 0 t)))
    (λ t. rw t ok))
