-- A sound bench and a plain machine that say the same still do after every request that is accepted.
use Rattle.std.specs.Prelude.{if◌then◌else◌}
use mathlib.Core.Path.{◌≡◌, refl, sym, ◌∙◌, ap}
use mathlib.Core.Bool.{Bool, true, false, not, ◌&&◌, and-true, and-false}
use mathlib.Core.List.{List, [], ◌∷◌}
use mathlib.Core.Option.{Option, some, some-injective}
use Prim.Native.Nat.{ℕ, ◌<◌}
use lib.Dec.{eqb}
use borrow.Author.Tests.{eqb-true, eqb-false, eq-eqb, ne_eqb}
use Rattle.rules.specs.Tests.{any, from}
use Rattle.rules.specs.Bench.{Shape, State, free, running, Bench, is_free, is_running}
use Rattle.rules.specs.Owners.{in_family, heir, is_owner, granted, drains_under, stand_at, stand_somewhere}
use Rattle.rules.specs.Sound.{sound}
use Rattle.rules.specs.Requests.{Request, open_top, open_sub, ask, commit, abort, quiet, put, without, drained, quieted, effect}
use Rattle.rules.specs.Answers.{row}
use Rattle.rules.specs.Plain.{Plain, plain_family, owns_at, taken_out, plain_drained, family_owns, disowned, released, committed, plain_effect}
use Rattle.rules.specs.Plain as plain
use Rattle.rules.specs.Agrees.{Agrees}
use Rattle.rules.proofs.Tests.{by_bool, by_parent, clash, same, and_left, and_right, from_cong, any_at, any_by, any_none, any_cong}
use Rattle.rules.proofs.Facts.{tree_in_use, runs_in_tree, runs_in_use, tree_headless, free_headless, draining_rests, SoundNumber, sound_facts, under_head, somewhere_at, somewhere_by}
use Rattle.rules.proofs.Walks.{heir_found}
use Rattle.rules.proofs.Family.{family_closed}
use Rattle.rules.proofs.Accepted.{OpensTop, OpensSub, Aborts, Quiets, accepted}
use Rattle.rules.proofs.Kept.{family_headless, family_in_use}
use Rattle.rules.proofs.SetForm.{standing_in_use, heir_owner, owner_heir}
use Rattle.rules.proofs.HeirChanges.{open_top_heir, open_sub_heir, family_heir, with_committed, commit_sub}
use Rattle.rules.proofs.OwnerChanges.{owners_kept, ask_owners, without_owners, commit_counts_as_parents}
use Rattle.rules.proofs.DrainOwners.{drained_head, drained_others, group_owns, group_stands, quiet_owners, released_owners}
use Rattle.rules.proofs.PlainAnswers.{top_ancestors, child_ancestors, family_same, group_same}

-- what a test says of the states is kept by a put on both sides
put_along : (test : State → Bool) (n k : ℕ) (v : Bool) (x : State) (old : ℕ → Bool) (states : ℕ → State) → v ≡ test x → old k ≡ test (states k) → put n v old k ≡ test (put n x states k)
put_along test n k v x old states new kept = by_bool (eqb k n) (λ t. rw t new) (λ t. rw t kept)

-- and, where it fails of a free number, by taking numbers out on both sides
cleared_along : (test : State → Bool) → test free ≡ false → (gone : Bool) (x : State) → (test x && not gone) ≡ test (if gone then free else x)
cleared_along test fails true x = and-false (test x) ∙ sym fails
cleared_along test fails false x = and-true (test x)

module _ (sh : Shape) (b : Bench) (s : Plain) (ok : sound sh b ≡ true) (agrees : Agrees sh b s) where
  facts : (k : ℕ) → k < sh.actions → SoundNumber sh b k
  facts = sound_facts sh b ok

  -- ---- open

  -- n runs, and `parents` are the parents
  opened : ℕ → (ℕ → Option ℕ) → Bench
  opened n parents = record { state = put n running b.state; parent = parents; stands = b.stands }

  -- what it takes for n to open, with these parents after it, and with `line` for its ancestors
  record Opens (n : ℕ) (parents : ℕ → Option ℕ) (line : List ℕ) : Type 0 where
    was_free : is_free (b.state n) ≡ true
    others : (k : ℕ) → (k ≡ n → ⊥) → parents k ≡ b.parent k
    parent_differs : (p : ℕ) → parents n ≡ some p → p ≡ n → ⊥
    ancestors : line ≡ from (parents n) [] (λ p. p ∷ s.ancestors p)
    heirs : (k : ℕ) → k < sh.actions → is_free (b.state k) ≡ false → heir sh (opened n parents) k ≡ heir sh b k

  open_agrees : (n : ℕ) (parents : ℕ → Option ℕ) (line : List ℕ) → Opens n parents line → Agrees sh (opened n parents) (plain.opened n line s)
  unfolding opened
  open_agrees n parents line o =
      record {
        used = λ k l. put_along (λ x. not (is_free x)) n k true running s.used b.state refl (agrees.used k l);
        runs = λ k l. put_along is_running n k true running s.runs b.state refl (agrees.runs k l);
        ancestors = λ k l.
            by_bool (eqb k n)
            (λ t. let q = eqb-true k n t in
            rw t
            (o.ancestors
            ∙ ap (λ x. from (parents x) [] (λ p. p ∷ s.ancestors p)) (sym q)
            ∙ sym (unmoved k (λ p e. o.parent_differs p (rw q at e)))))
            (λ t. let same = o.others k (eqb-false k n t) in
            rw t
            (agrees.ancestors k l
            ∙ ap (λ u. from u [] (λ p. p ∷ s.ancestors p)) (sym same)
            ∙ sym (unmoved k (λ p e q. clash (is_free (b.state n)) o.was_free (tree_in_use (b.state n) (rw q at ((facts k l).parent_in_tree p (sym same ∙ e))))))));
        heads = λ k l. agrees.heads k l ∙ by_bool (eqb k n) (λ t. rw (t, eqb-true k n t, free_headless (b.state n) o.was_free)) (λ t. rw t);
        owns = λ m i h lm li lh. agrees.owns m i h lm li lh ∙ sym (owners_kept sh b ok (opened n parents) refl o.heirs m i h lm li);
      }
    where
      -- the ancestors of a parent other than n are what they were
      unmoved : (k : ℕ) → ((p : ℕ) → parents k ≡ some p → p ≡ n → ⊥) → from (parents k) [] (λ p. p ∷ put n line s.ancestors p) ≡ from (parents k) [] (λ p. p ∷ s.ancestors p)
      unmoved k differs =
          from_cong (parents k) [] (λ p above. p ∷ above) (put n line s.ancestors) s.ancestors (λ p e. rw (ne_eqb p n (differs p e)))

  open_top_agrees : (n : ℕ) → OpensTop sh b n → Agrees sh (effect sh b (open_top n)) (plain_effect sh s (open_top n))
  unfolding effect plain_effect opened
  open_top_agrees n given =
      let none_yet = (facts n given.known).free_has_no_parent given.was_free in
      open_agrees n b.parent []
      (record {
        was_free = given.was_free;
        others = λ k ne. refl;
        parent_differs = λ p e q. clash (is_free (b.state n)) given.was_free (tree_in_use (b.state n) (rw q at ((facts n given.known).parent_in_tree p e)));
        ancestors = rw none_yet;
        heirs = λ k. open_top_heir sh b ok n k given.was_free;
      })

  open_sub_agrees : (n p : ℕ) → OpensSub sh b n p → Agrees sh (effect sh b (open_sub n p)) (plain_effect sh s (open_sub n p))
  unfolding effect plain_effect opened
  open_sub_agrees n p given =
      open_agrees n (put n (some p) b.parent) (p ∷ s.ancestors p)
      (record {
        was_free = given.was_free;
        others = λ k ne. rw (ne_eqb k n ne);
        parent_differs = λ q e x.
            let same = some-injective p q (rw (eq-eqb n n refl) at e) in
            clash (is_free (b.state n)) given.was_free (runs_in_use (b.state n) (rw (same ∙ x) at given.parent_runs));
        ancestors = rw (eq-eqb n n refl);
        heirs = λ k. open_sub_heir sh b ok n p k given.was_free;
      })

  -- ---- ask

  ask_agrees : (m a i : ℕ) → row sh b (ask m a i) ≡ 0 → Agrees sh (effect sh b (ask m a i)) (plain_effect sh s (ask m a i))
  unfolding effect plain_effect
  ask_agrees m a i given =
      record {
        used = agrees.used;
        runs = agrees.runs;
        ancestors = agrees.ancestors;
        heads = agrees.heads;
        owns = λ held at h lm li lh. rw (agrees.owns held at h lm li lh) (sym (ask_owners sh b ok m a i given held at h));
      }

  -- ---- abort, and commit of a top

  -- the parent of a number that stays keeps its ancestors
  unmoved : (a k : ℕ) → k < sh.actions → in_family sh b a k ≡ false →
      from (b.parent k) [] (λ p. p ∷ (if plain_family s a p then [] else s.ancestors p)) ≡ from (b.parent k) [] (λ p. p ∷ s.ancestors p)
  unmoved a k l t =
      from_cong (b.parent k) [] (λ p above. p ∷ above) (λ p. if plain_family s a p then [] else s.ancestors p) s.ancestors
      (λ p e. rw (family_same sh b s ok agrees a p ((facts k l).parent_known p e), family_closed sh b ok a k p l e t))

  taken_out_agrees : (a : ℕ) → is_running (b.state a) ≡ true → Agrees sh (without (in_family sh b a) b) (taken_out a s)
  taken_out_agrees a runs =
      record {
        used = λ k l.
            rw (family_same sh b s ok agrees a k l, agrees.used k l) (cleared_along (λ x. not (is_free x)) refl (in_family sh b a k) (b.state k));
        runs = λ k l.
            rw (family_same sh b s ok agrees a k l, agrees.runs k l) (cleared_along is_running refl (in_family sh b a k) (b.state k));
        ancestors = λ k l.
            rw (family_same sh b s ok agrees a k l)
            (by_bool (in_family sh b a k) (λ t. rw t) (λ t. rw t (agrees.ancestors k l ∙ sym (unmoved a k l t))));
        heads = λ k l.
            agrees.heads k l ∙ by_bool (in_family sh b a k) (λ t. rw (t, family_headless sh b ok a k l runs t)) (λ t. rw t);
        owns = λ m i h lm li lh.
            rw (family_same sh b s ok agrees a h lh, agrees.owns m i h lm li lh) (sym (without_owners sh b ok a runs m i h lm li));
      }

  -- ---- an abort that drains

  -- One of the family owns something exactly if one of it stands in a set.
  family_owns_lem : (a : ℕ) → is_running (b.state a) ≡ true → family_owns sh s a ≡ stand_somewhere sh b (in_family sh b a)
  unfolding family_owns owns_at
  family_owns_lem a runs = same (family_owns sh s a) (stand_somewhere sh b (in_family sh b a)) forth back
    where
      owner : ℕ → Bool
      owner k = any sh.instruments (owns_at sh s k)

      forth : any sh.actions (λ k. plain_family s a k && owner k) ≡ true → stand_somewhere sh b (in_family sh b a) ≡ true
      forth o =
          let k = any_at sh.actions (λ k. plain_family s a k && owner k) o in
          let i = any_at sh.instruments (owns_at sh s k.0) (and_right (plain_family s a k.0) (owner k.0) k.2) in
          let m = any_at sh.modes (λ m. s.owns m i.0 k.0) i.2 in
          let t = owner_heir sh b ok m.0 i.0 k.0 (sym (agrees.owns m.0 i.0 k.0 m.1 i.1 k.1) ∙ m.2) in
          let u = standing_in_use sh b ok m.0 i.0 t.0 m.1 i.1 t.1 t.2 in
          somewhere_by sh b (in_family sh b a) i.0 i.1
          (record {
            mode = m.0;
            mode_known = m.1;
            number = t.0;
            number_known = t.1;
            stands = t.2;
            is_one = sym (family_heir sh b ok a runs t.0 t.1 u k.0 t.3)
                ∙ sym (family_same sh b s ok agrees a k.0 k.1)
                ∙ and_left (plain_family s a k.0) (owner k.0) k.2;
          })

      back : stand_somewhere sh b (in_family sh b a) ≡ true → any sh.actions (λ k. plain_family s a k && owner k) ≡ true
      back o =
          let at = somewhere_at sh b (in_family sh b a) o in
          let t = at.2 in
          let u = standing_in_use sh b ok t.mode at.0 t.number t.mode_known at.1 t.number_known t.stands in
          let found = heir_found sh b ok t.number t.number_known u in
          let h = found.0 in
          let owns = agrees.owns t.mode at.0 h t.mode_known at.1 found.2
          ∙ heir_owner sh b ok t.mode at.0 t.number h t.number_known t.stands found.1 in
          any_by sh.actions (λ k. plain_family s a k && owner k) h found.2
          (rw (
            family_same sh b s ok agrees a h found.2 ∙ family_heir sh b ok a runs t.number t.number_known u h found.1 ∙ t.is_one,
            any_by sh.instruments (owns_at sh s h) at.0 at.1 (any_by sh.modes (λ m. s.owns m at.0 h) t.mode t.mode_known owns),
          ))

  drained_agrees : (a : ℕ) → a < sh.actions → is_running (b.state a) ≡ true → stand_somewhere sh b (in_family sh b a) ≡ true →
      Agrees sh (drained a (in_family sh b a) b) (plain_drained sh a s)
  drained_agrees a la runs standing =
      record {
        used = λ k l.
            agrees.used k l ∙ by_bool (in_family sh b a k) (λ t. rw (t, family_in_use sh b ok a k l runs t)) (λ t. rw t);
        runs = λ k l.
            rw (family_same sh b s ok agrees a k l, agrees.runs k l)
            (by_bool (in_family sh b a k) (λ t. rw t (and-false (is_running (b.state k)))) (λ t. rw t (and-true (is_running (b.state k)))));
        ancestors = λ k l.
            rw (family_same sh b s ok agrees a k l)
            (by_bool (in_family sh b a k) (λ t. rw t) (λ t. rw t (agrees.ancestors k l ∙ sym (unmoved a k l t))));
        heads = λ k l.
            rw (family_same sh b s ok agrees a k l, agrees.heads k l) (by_bool (in_family sh b a k) (λ t. rw t) (λ t. rw t));
        owns = λ m i h lm li lh.
            by_bool (eqb h a)
            (λ t. rw (t, eqb-true h a t)
            (any_cong sh.actions (λ j. s.owns m i j && plain_family s a j) (λ j. is_owner sh b m i j && in_family sh b a j)
            (λ j lj. rw (agrees.owns m i j lm li lj, family_same sh b s ok agrees a j lj))
            ∙ sym (drained_head sh b ok a la runs standing m i lm li)))
            (λ t. rw (agrees.owns m i h lm li lh, family_same sh b s ok agrees a h lh, t) (sym (drained_others sh b ok a la runs standing m i h lm li t)));
      }

  abort_agrees : (a : ℕ) → Aborts sh b a → Agrees sh (effect sh b (abort a)) (plain_effect sh s (abort a))
  unfolding effect plain_effect
  abort_agrees a given =
      rw (family_owns_lem a given.runs)
      (by_bool (stand_somewhere sh b (in_family sh b a)) (λ t. rw t (drained_agrees a given.known given.runs t))
      (λ t. rw t (taken_out_agrees a given.runs)))

  -- ---- quiet

  module _ (a i : ℕ) (given : Quiets sh b a i) where
    abbrev group : ℕ → Bool
    group = drains_under b a

    abbrev left : Bench
    left = quieted group i b

    disowned_agrees : Agrees sh left (disowned a i s)
    disowned_agrees =
        record {
          used = agrees.used;
          runs = agrees.runs;
          ancestors = agrees.ancestors;
          heads = agrees.heads;
          owns = λ m at h lm lat lh. rw (agrees.owns m at h lm lat lh) (sym (quiet_owners sh b ok a given.known given.drains i m at h lm lat));
        }

    fewer : (m at k : ℕ) → left.stands m at k ≡ true → b.stands m at k ≡ true
    fewer m at k = and_left (b.stands m at k) (not (eqb at i && group k))

    -- the head still owns something exactly if its group still stands somewhere
    still_owns : any sh.instruments (owns_at sh (disowned a i s) a) ≡ stand_somewhere sh left group
    unfolding owns_at
    still_owns =
        any_cong sh.instruments (owns_at sh (disowned a i s) a) (λ at. any sh.modes (λ m. is_owner sh left m at a))
        (λ at lat. any_cong sh.modes (λ m. (disowned a i s).owns m at a) (λ m. is_owner sh left m at a)
        (λ m lm. disowned_agrees.owns m at a lm lat given.known))
        ∙ group_stands sh b ok a given.known given.drains left.stands fewer

    released_agrees : stand_somewhere sh left group ≡ false → Agrees sh (without group b) (released a (disowned a i s))
    unfolding stand_somewhere stand_at
    released_agrees nowhere =
        record {
          used = λ k l.
              rw (group_same sh b s ok agrees a k l, agrees.used k l) (cleared_along (λ x. not (is_free x)) refl (group k) (b.state k));
          runs = λ k l. agrees.runs k l ∙ by_bool (group k) (λ t. rw (t, draining_rests (b.state k) a (under_head b a k t))) (λ t. rw t);
          ancestors = λ k l.
              by_bool (group k)
              (λ t. rw t (top_ancestors sh b s ok agrees k l ((facts k l).drains a (under_head b a k t)).no_parent))
              (λ t. rw t (agrees.ancestors k l));
          heads = λ k l. rw (group_same sh b s ok agrees a k l, agrees.heads k l) (by_bool (group k) (λ t. rw t) (λ t. rw t));
          owns = λ m at h lm lat lh.
              disowned_agrees.owns m at h lm lat lh
              ∙ quiet_owners sh b ok a given.known given.drains i m at h lm lat
              ∙ by_bool (eqb h a)
              (λ t. rw (eqb-true h a t) (at_head m at lm lat))
              (λ t. rw (t, and-false (eqb at i)) (sym (released_owners sh b ok a given.known given.drains m at h lm lat ∙ rw t)));
        }
      where
        owns_nothing : (m at : ℕ) → m < sh.modes → at < sh.instruments → is_owner sh left m at a ≡ false
        owns_nothing m at lm lat =
            group_owns sh b ok a given.known given.drains left.stands fewer m at lm lat
            ∙ any_none sh.modes (λ m. any sh.actions (λ k. left.stands m at k && group k))
            (any_none sh.instruments (stand_at sh left group) nowhere at lat)
            m
            lm

        at_head : (m at : ℕ) → m < sh.modes → at < sh.instruments → (is_owner sh b m at a && not (eqb at i && eqb a a)) ≡ is_owner sh (without group b) m at a
        at_head m at lm lat =
            sym (quiet_owners sh b ok a given.known given.drains i m at a lm lat)
            ∙ owns_nothing m at lm lat
            ∙ sym (released_owners sh b ok a given.known given.drains m at a lm lat ∙ rw (eq-eqb a a refl) (and-false (is_owner sh b m at a)))

    quiet_agrees : Agrees sh (effect sh b (quiet a i)) (plain_effect sh s (quiet a i))
    unfolding effect plain_effect
    quiet_agrees =
        rw still_owns
        (by_bool (stand_somewhere sh left group) (λ t. rw t disowned_agrees) (λ t. rw t (released_agrees t)))

  -- ---- commit of a sub

  commit_sub_agrees : (a p : ℕ) → row sh b (commit a) ≡ 0 → b.parent a ≡ some p → Agrees sh (with_committed a b) (committed a (p ∷ s.ancestors p) s)
  commit_sub_agrees a p given e =
      let acts = accepted (granted sh b) sh b (commit a) given in
      record {
        used = λ k l.
            agrees.used k l
            ∙ by_bool (eqb k a) (λ t. rw (t, eqb-true k a t) (ap not (runs_in_use (b.state a) acts.runs))) (λ t. rw t);
        runs = λ k l. put_along is_running a k false State.committed s.runs b.state refl (agrees.runs k l);
        ancestors = agrees.ancestors;
        heads = λ k l.
            agrees.heads k l
            ∙ by_bool (eqb k a) (λ t. rw (t, eqb-true k a t) (tree_headless (b.state a) (runs_in_tree (b.state a) acts.runs))) (λ t. rw t);
        owns = λ m i h lm li lh.
            rw (agrees.owns m i h lm li lh, agrees.owns m i a lm li acts.known)
            (sym (commit_counts_as_parents sh b ok a p given e m i h lm li lh) ∙ ap (λ c. is_owner sh c m i h) (commit_sub sh b a p e));
      }

  commit_agrees : (a : ℕ) → row sh b (commit a) ≡ 0 → Agrees sh (effect sh b (commit a)) (plain_effect sh s (commit a))
  unfolding effect plain_effect
  commit_agrees a given =
      let acts = accepted (granted sh b) sh b (commit a) given in
      by_parent (b.parent a) (λ e. rw (e, top_ancestors sh b s ok agrees a acts.known e) (taken_out_agrees a acts.runs))
      (λ p e. rw (e, child_ancestors sh b s ok agrees a p acts.known e) (commit_sub_agrees a p given e))

  pub effect_agrees : (r : Request) → row sh b r ≡ 0 → Agrees sh (effect sh b r) (plain_effect sh s r)
  unfolding effect plain_effect
  effect_agrees (open_top n) given = open_top_agrees n (accepted (granted sh b) sh b (open_top n) given)
  effect_agrees (open_sub n p) given = open_sub_agrees n p (accepted (granted sh b) sh b (open_sub n p) given)
  effect_agrees (ask m a i) given = ask_agrees m a i given
  effect_agrees (commit a) given = commit_agrees a given
  effect_agrees (abort a) given = abort_agrees a (accepted (granted sh b) sh b (abort a) given)
  effect_agrees (quiet a i) given = quiet_agrees a i (accepted (granted sh b) sh b (quiet a i) given)
