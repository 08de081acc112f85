-- What an abort that waits comes to (document 02, order 2), for any number of actions, instruments and modes and any table of conflicts: a family in no set is
-- freed as it was before; who drains keeps others from its instruments, keeps its place, and isn't there for any request. Assumes nothing.
use mathlib.Core.Path.{◌≡◌, refl, sym, ◌∙◌, ap}
use mathlib.Core.Bool.{Bool, true, false, ◌&&◌, and-true, and-false, or-false, false≢true}
use mathlib.Core.List.{[], ◌∷◌}
use mathlib.Core.Option.{some, none-ne-some}
use Prim.Native.Nat.{ℕ, ◌<◌}
use native.Mathlib.Omega.{arith}
use lib.Dec.{eqb}
use borrow.Author.Tests.{eqb-true, ne_eqb, lt-leb}
use Rattle.rules.specs.Bench.{Shape, draining, is_free, is_running, head_of, in_tree, Bench}
use Rattle.rules.specs.Owners.{is_ancestor, in_family, is_owner, is_asker_or_ancestor, heir_in_line, granted, drains_under, stand_somewhere}
use Rattle.rules.specs.Sound.{sound}
use Rattle.rules.specs.Requests.{Request, open_top, open_sub, ask, commit, abort, quiet, without, drained, quieted, effect}
use Rattle.rules.specs.Answers.{too_high, row_by, row, answer_of, step, answers, after}
use Rattle.rules.proofs.Tests.{by_bool, by_parent, clash, refuted}
use Rattle.rules.proofs.Facts.{runs_in_tree, tree_headless, free_headless, SoundNumber, sound_facts, under_head, somewhere_at}
use Rattle.rules.proofs.Walks.{ancestor_up, ancestor_irrefl, ancestor_in_tree}
use Rattle.rules.proofs.Accepted.{accepted}
use Rattle.rules.proofs.Kept.{step_keeps_sound}
use Rattle.rules.proofs.SetForm.{owner_heir}
use Rattle.rules.proofs.Grants.{granted_at}
use Rattle.rules.proofs.HeirChanges.{drains_outside}

-- ---- a family that stands in no set

-- Its abort frees it at once, as document 01 has it.
pub abort_frees : (sh : Shape) (b : Bench) (a : ℕ) → ((m i k : ℕ) → m < sh.modes → i < sh.instruments → k < sh.actions → in_family sh b a k ≡ true → b.stands m i k ≡ false) → effect sh b (abort a) ≡ without (in_family sh b a) b
unfolding effect
abort_frees sh b a nowhere = rw nobody
  where
    nobody : stand_somewhere sh b (in_family sh b a) ≡ false
    nobody =
        refuted (stand_somewhere sh b (in_family sh b a))
        (λ t. let at = somewhere_at sh b (in_family sh b a) t in
        let s = at.2 in
        clash (b.stands s.mode at.0 s.number) s.stands
        (nowhere s.mode at.0 s.number s.mode_known at.1 s.number_known s.is_one))

-- Number k is the same on two benches, and stands in the same sets.
pub record Unchanged (b c : Bench) (k : ℕ) : Type 0 where
  pub state : c.state k ≡ b.state k
  pub parent : c.parent k ≡ b.parent k
  pub stands : (m i : ℕ) → c.stands m i k ≡ b.stands m i k

-- whoever isn't of the numbers that are freed, that begin to drain, or that leave an instrument
pub without_unchanged : (b : Bench) (gone : ℕ → Bool) (k : ℕ) → gone k ≡ false → Unchanged b (without gone b) k
without_unchanged b gone k g = record { state = rw g; parent = rw g; stands = λ m i. rw g (and-true (b.stands m i k)) }

drained_unchanged : (b : Bench) (a : ℕ) (aborted : ℕ → Bool) (k : ℕ) → aborted k ≡ false → Unchanged b (drained a aborted b) k
drained_unchanged b a aborted k g = record { state = rw g; parent = rw g; stands = λ m i. refl }

quieted_unchanged : (b : Bench) (group : ℕ → Bool) (i k : ℕ) → group k ≡ false → Unchanged b (quieted group i b) k
quieted_unchanged b group i k g =
    record { state = refl; parent = refl; stands = λ m at. rw (g, and-false (eqb at i)) (and-true (b.stands m at k)) }

module _ (sh : Shape) (b : Bench) (ok : sound sh b ≡ true) where
  facts : (k : ℕ) → k < sh.actions → SoundNumber sh b k
  facts = sound_facts sh b ok

  -- ---- a draining owner

  -- It is neither a running number nor an ancestor of one.
  drains_aside : (a h : ℕ) → a < sh.actions → is_running (b.state a) ≡ true → drains_under b h h ≡ true → is_asker_or_ancestor sh b a h ≡ false
  unfolding is_asker_or_ancestor
  drains_aside a h l runs d =
      let head = under_head b h h d in
      let outside : (in_tree (b.state h) ≡ true → ⊥) = λ t. none-ne-some h (sym (tree_headless (b.state h) t) ∙ head) in
      rw (
        ne_eqb h a (λ q. outside (runs_in_tree (b.state h) (rw (sym q) at runs))),
        refuted (is_ancestor sh b h a) (λ t. outside (ancestor_in_tree sh b ok h a l t)),
      )

  -- While it owns an instrument in a mode, nobody is granted a mode that conflicts with that one.
  pub draining_blocks : (m held a i h : ℕ) → held < sh.modes → sh.conflict m held ≡ true → is_owner sh b held i h ≡ true → drains_under b h h ≡ true → a < sh.actions → is_running (b.state a) ≡ true → granted sh b m a i ≡ false
  unfolding heir_in_line
  draining_blocks m held a i h lm c owns d l runs =
      let found = owner_heir sh b ok held i h owns in
      refuted (granted sh b m a i)
      (λ t. clash (is_asker_or_ancestor sh b a h) (rw found.3 at (granted_at sh b a i m t held lm c found.0 found.1 found.2))
      (drains_aside a h l runs d))

  -- So no such read or write is accepted.
  pub draining_refuses : (m held a i h : ℕ) → held < sh.modes → sh.conflict m held ≡ true → is_owner sh b held i h ≡ true → drains_under b h h ≡ true → row sh b (ask m a i) ≡ 0 → ⊥
  draining_refuses m held a i h lm c owns d e =
      let given = accepted (granted sh b) sh b (ask m a i) e in
      false≢true (sym (draining_blocks m held a i h lm c owns d given.known given.runs) ∙ given.is_granted)

  -- ---- a number that drains

  module _ (k h : ℕ) (l : k < sh.actions) (e : head_of (b.state k) ≡ some h) where
    stays_in_use : is_free (b.state k) ≡ false
    stays_in_use = refuted (is_free (b.state k)) (λ u. none-ne-some h (sym (free_headless (b.state k) u) ∙ e))

    rests : is_running (b.state k) ≡ false
    rests = refuted (is_running (b.state k)) (λ r. none-ne-some h (sym (tree_headless (b.state k) (runs_in_tree (b.state k) r)) ∙ e))

    -- It isn't opened again, as a top or as a sub, and is neither parent nor actor.
    pub draining_refused : (answer_of sh b (open_top k) ≡ 3) × ((p : ℕ) → p < sh.actions → answer_of sh b (open_sub k p) ≡ 3) × ((n : ℕ) → n < sh.actions → is_free (b.state n) ≡ true → answer_of sh b (open_sub n k) ≡ 4) × ((m i : ℕ) → i < sh.instruments → answer_of sh b (ask m k i) ≡ 4) × (answer_of sh b (commit k) ≡ 4) × (answer_of sh b (abort k) ≡ 4)
    unfolding answer_of row_by
    draining_refused = (
      rw (ok, known, stays_in_use),
      λ p lp. rw (ok, known, lt-leb sh.actions p lp, stays_in_use),
      λ n ln u. rw (ok, lt-leb sh.actions n ln, known, u, rests),
      λ m i li. rw (ok, known, lt-leb sh.instruments i li, rests),
      rw (ok, known, rests),
      rw (ok, known, rests),
    )
      where
        known : too_high sh k ≡ false
        known = lt-leb sh.actions k l

    -- another number than one that is free, and than one that runs
    not_free : (n : ℕ) → is_free (b.state n) ≡ true → eqb k n ≡ false
    not_free n u = ne_eqb k n (λ q. clash (is_free (b.state n)) u (rw q at stays_in_use))

    not_running : (n : ℕ) → is_running (b.state n) ≡ true → eqb k n ≡ false
    not_running n r = ne_eqb k n (λ q. clash (is_running (b.state n)) r (rw q at rests))

    effect_unchanged : (r : Request) → ((i : ℕ) → r ≡ quiet h i → ⊥) → row sh b r ≡ 0 → Unchanged b (effect sh b r) k
    unfolding effect
    effect_unchanged (open_top n) other z =
        let given = accepted (granted sh b) sh b (open_top n) z in
        record { state = rw (not_free n given.was_free); parent = refl; stands = λ m i. refl }
    effect_unchanged (open_sub n p) other z =
        let given = accepted (granted sh b) sh b (open_sub n p) z in
        let ne = not_free n given.was_free in
        record { state = rw ne; parent = rw ne; stands = λ m i. refl }
    effect_unchanged (ask m a i) other z =
        let given = accepted (granted sh b) sh b (ask m a i) z in
        record {
          state = refl;
          parent = refl;
          stands = λ held at. rw (not_running a given.runs, and-false (eqb held m && eqb at i)) (or-false (b.stands held at k));
        }
    effect_unchanged (commit a) other z =
        let runs = (accepted (granted sh b) sh b (commit a) z).runs in
        by_parent (b.parent a) (λ top. rw top (without_unchanged b (in_family sh b a) k (drains_outside sh b ok a k h runs l e)))
        (λ p sub. rw sub (record { state = rw (not_running a runs); parent = refl; stands = λ m i. refl }))
    effect_unchanged (abort a) other z =
        let runs = (accepted (granted sh b) sh b (abort a) z).runs in
        let outside = drains_outside sh b ok a k h runs l e in
        by_bool (stand_somewhere sh b (in_family sh b a)) (λ t. rw t (drained_unchanged b a (in_family sh b a) k outside))
        (λ t. rw t (without_unchanged b (in_family sh b a) k outside))
    effect_unchanged (quiet a i) other z =
        let outside : drains_under b a k ≡ false = rw e (ne_eqb h a (λ q. other i (ap (λ x. quiet x i) (sym q)))) in
        by_bool (stand_somewhere sh (quieted (drains_under b a) i b) (drains_under b a))
        (λ t. rw t (quieted_unchanged b (drains_under b a) i k outside))
        (λ t. rw t (without_unchanged b (drains_under b a) k outside))

    -- No request but quiet of its head changes it or its sets: an abort of what was its parent doesn't take it.
    pub draining_unchanged : (r : Request) → ((i : ℕ) → r ≡ quiet h i → ⊥) → Unchanged b (step sh b r).next k
    unfolding step answer_of
    draining_unchanged r other =
        rw ok
        (by_bool (eqb (row sh b r) 0) (λ t. rw t (effect_unchanged r other (eqb-true (row sh b r) 0 t)))
        (λ t. rw t (record { state = refl; parent = refl; stands = λ m i. refl })))

-- ---- a drained child

-- no abort is a quiet
abort_no_quiet : (a h i : ℕ) → abort a ≡ quiet h i → ⊥
abort_no_quiet a h i e = let z : ◌≡◌ {A = ℕ} 0 1 = cc in omega arith

module _ (sh : Shape) (b : Bench) (ok : sound sh b ≡ true) (a p : ℕ) (l : a < sh.actions) (runs : is_running (b.state a) ≡ true) (up : b.parent a ≡ some p) (standing : stand_somewhere sh b (in_family sh b a) ≡ true) where
  abbrev aborted : Bench
  aborted = drained a (in_family sh b a) b

  child_drains : step sh b (abort a) ≡ record { answer = 0; next = aborted }
  unfolding step answer_of row_by effect
  child_drains = rw (ok, lt-leb sh.actions a l, runs, standing)

  still_sound : sound sh aborted ≡ true
  still_sound = rw child_drains at (step_keeps_sound sh b (abort a) ok)

  -- the parent isn't of its child's family
  parent_outside : in_family sh b a p ≡ false
  unfolding in_family
  parent_outside = sym (ancestor_up sh b ok a a p l up) ∙ ancestor_irrefl sh b ok a l

  parent_aborts : (step sh aborted (abort p)).answer ≡ 0
  unfolding step answer_of row_by
  parent_aborts =
      let f = sound_facts sh b ok a l in
      rw (still_sound, lt-leb sh.actions p (f.parent_known p up), parent_outside, f.parent_runs runs p up)

  -- A child whose family stands in a set is aborted, and then its parent: both are accepted,
  pub both_aborted : answers sh b (abort a ∷ abort p ∷ []) ≡ 0 ∷ 0 ∷ []
  unfolding answers
  both_aborted = rw (child_drains, parent_aborts)

  after_both : after sh b (abort a ∷ abort p ∷ []) ≡ (step sh aborted (abort p)).next
  unfolding after
  after_both = ap (λ o. (step sh o.next (abort p)).next) child_drains

  -- and the child's family still drains under it, in the same sets.
  pub drained_child_stays : (k : ℕ) → k < sh.actions → in_family sh b a k ≡ true → ((after sh b (abort a ∷ abort p ∷ [])).state k ≡ draining a) × ((m i : ℕ) → (after sh b (abort a ∷ abort p ∷ [])).stands m i k ≡ b.stands m i k)
  drained_child_stays k lk t =
      let drains : aborted.state k ≡ draining a = rw t in
      let stays = draining_unchanged sh aborted still_sound k a lk (ap head_of drains) (abort p) (abort_no_quiet p a) in
      (ap (λ c. c.state k) after_both ∙ stays.state ∙ drains, λ m i. ap (λ c. c.stands m i k) after_both ∙ stays.stands m i)
