-- A bench that a side has to itself stays so under the side's own requests.
use mathlib.Core.Path.{◌≡◌, refl, sym, ◌∙◌}
use mathlib.Core.Bool.{Bool, true, false, not, ◌&&◌, and-false}
use mathlib.Core.Option.{Option, none, some, none-ne-some, some-injective}
use Prim.Native.Nat.{ℕ}
use lib.Dec.{eqb}
use borrow.Author.Tests.{eqb-true, eq-eqb}
use Rattle.rules.specs.Bench.{Shape, State, running, committed, in_tree, Bench, empty}
use Rattle.rules.specs.Owners.{in_family, granted, drains_under, stand_somewhere}
use Rattle.rules.specs.Requests.{Request, open_top, open_sub, ask, commit, abort, quiet, put, without, drained, quieted, effect}
use Rattle.rules.specs.Sound.{sound}
use Rattle.rules.specs.Answers.{row, answer_of, step}
use Rattle.rules.proofs.Tests.{by_bool, by_parent, clash, and_left, and_right, by_or, or_left, or_right}
use Rattle.rules.proofs.Facts.{tree_headless}
use Rattle.rules.proofs.Family.{family_top}
use Rattle.rules.proofs.Kept.{empty_sound, effect_keeps_sound}
use Rattle.rules.proofs.Mix.{told_apart, Side, Of, Alone}

pub empty_alone : (sh : Shape) (s : Side) → Alone sh s empty
empty_alone sh s =
    record {
      is_sound = empty_sound sh;
      other_free = λ k h. refl;
      other_top = λ k h. refl;
      other_nowhere = λ k m i h. refl;
      parents = λ k p e. absurd (none-ne-some p e);
      heads = λ k h e. absurd (none-ne-some h e);
      was_asked = λ m i k e. clash false e refl;
    }

module _ (sh : Shape) (s : Side) (c : Bench) (own : Alone sh s c) where
  other_put : {A : Type 0} (n k : ℕ) → s.numbers n ≡ true → s.numbers k ≡ false → (v : A) (f : ℕ → A) → put n v f k ≡ f k
  other_put n k h g v f = rw (told_apart s.numbers k n g h)

  -- the family of one of the side's numbers is the side's
  pub family_outside : (a k : ℕ) → s.numbers a ≡ true → s.numbers k ≡ false → in_family sh c a k ≡ false
  family_outside a k h g = family_top sh c own.is_sound a k (own.other_top k g) ∙ told_apart s.numbers k a g h

  -- and so is every group
  pub group_outside : (a k : ℕ) → s.numbers k ≡ false → drains_under c a k ≡ false
  group_outside a k g = rw (own.other_free k g)

  -- one of the side's numbers gets another state, in the tree: open, and commit of a sub
  mark_alone : (n : ℕ) → s.numbers n ≡ true → (v : State) → in_tree v ≡ true → (next : ℕ → Option ℕ) →
      ((k : ℕ) → s.numbers k ≡ false → next k ≡ none) → ((k p : ℕ) → next k ≡ some p → s.numbers p ≡ true) →
      let b : Bench = record { state = put n v c.state; parent = next; stands = c.stands } in sound sh b ≡ true → Alone sh s b
  mark_alone n h v tree next top parents ok =
      record {
        is_sound = ok;
        other_free = λ k g. other_put n k h g v c.state ∙ own.other_free k g;
        other_top = top;
        other_nowhere = own.other_nowhere;
        parents = parents;
        heads = λ k x e. by_bool (eqb k n) (λ t. absurd (none-ne-some x (sym (tree_headless v tree) ∙ rw t at e)))
            (λ t. own.heads k x (rw t at e));
        was_asked = own.was_asked;
      }

  -- numbers leave: commit of a top, abort and quiet
  without_alone : (gone : ℕ → Bool) → sound sh (without gone c) ≡ true → Alone sh s (without gone c)
  without_alone gone ok =
      record {
        is_sound = ok;
        other_free = λ k g. by_bool (gone k) (λ e. rw e) (λ e. rw e (own.other_free k g));
        other_top = λ k g. by_bool (gone k) (λ e. rw e) (λ e. rw e (own.other_top k g));
        other_nowhere = λ k m i g. rw (own.other_nowhere k m i g);
        parents = λ k p up. by_bool (gone k) (λ e. absurd (none-ne-some p (rw e at up))) (λ e. own.parents k p (rw e at up));
        heads = λ k h e. by_bool (gone k) (λ t. absurd (none-ne-some h (rw t at e))) (λ t. own.heads k h (rw t at e));
        was_asked = λ m i k e. own.was_asked m i k (and_left (c.stands m i k) (not (gone k)) e);
      }

  -- numbers of the side drain under one of it: abort
  drained_alone : (a : ℕ) → s.numbers a ≡ true → (aborted : ℕ → Bool) → ((k : ℕ) → s.numbers k ≡ false → aborted k ≡ false) →
      sound sh (drained a aborted c) ≡ true → Alone sh s (drained a aborted c)
  drained_alone a h aborted outside ok =
      record {
        is_sound = ok;
        other_free = λ k g. rw (outside k g) (own.other_free k g);
        other_top = λ k g. rw (outside k g) (own.other_top k g);
        other_nowhere = own.other_nowhere;
        parents = λ k p up. by_bool (aborted k) (λ e. absurd (none-ne-some p (rw e at up))) (λ e. own.parents k p (rw e at up));
        heads = λ k x e. by_bool (aborted k) (λ t. rw (some-injective a x (rw t at e)) at h) (λ t. own.heads k x (rw t at e));
        was_asked = own.was_asked;
      }

  -- numbers leave the sets of an instrument: quiet
  quieted_alone : (group : ℕ → Bool) (i : ℕ) → sound sh (quieted group i c) ≡ true → Alone sh s (quieted group i c)
  quieted_alone group i ok =
      record {
        is_sound = ok;
        other_free = own.other_free;
        other_top = own.other_top;
        other_nowhere = λ k m at g. rw (own.other_nowhere k m at g);
        parents = own.parents;
        heads = own.heads;
        was_asked = λ m at k e. own.was_asked m at k (and_left (c.stands m at k) (not (eqb at i && group k)) e);
      }

  effect_alone : (r : Request) → Of s (λ test. test r) → sound sh (effect sh c r) ≡ true → Alone sh s (effect sh c r)
  unfolding effect
  effect_alone (open_top n) of ok = mark_alone n (of.named n (eq-eqb n n refl)) running refl c.parent own.other_top own.parents ok
  effect_alone (open_sub n p) of ok =
      let h = of.named n (or_left (eqb n n) (eqb p n) (eq-eqb n n refl)) in
      mark_alone n h running refl (put n (some p) c.parent) (λ k g. other_put n k h g (some p) c.parent ∙ own.other_top k g)
      (λ k q e. by_bool (eqb k n)
      (λ t. rw (some-injective p q (rw t at e)) at (of.named p (or_right (eqb n p) (eqb p p) (eq-eqb p p refl))))
      (λ t. own.parents k q (rw t at e)))
      ok
  effect_alone (ask m a i) of ok =
      record {
        is_sound = ok;
        other_free = own.other_free;
        other_top = own.other_top;
        other_nowhere = λ k held at g.
            rw (own.other_nowhere k held at g, told_apart s.numbers k a g (of.named a (eq-eqb a a refl)))
            (and-false (eqb held m && eqb at i));
        parents = own.parents;
        heads = own.heads;
        was_asked = λ held at k e. by_or (c.stands held at k) (eqb held m && eqb at i && eqb k a) e (own.was_asked held at k)
            (λ new. let here = and_left (eqb held m && eqb at i) (eqb k a) new in
            rw (eqb-true held m (and_left (eqb held m) (eqb at i) here), eqb-true at i (and_right (eqb held m) (eqb at i) here))
            (of.asked m i (rw (eq-eqb m m refl) (eq-eqb i i refl))));
      }
  effect_alone (commit a) of ok =
      by_parent (c.parent a) (λ e. rw e (without_alone (in_family sh c a) (rw e at ok)))
      (λ p e. rw e (mark_alone a (of.named a (eq-eqb a a refl)) committed refl c.parent own.other_top own.parents (rw e at ok)))
  effect_alone (abort a) of ok =
      let h = of.named a (eq-eqb a a refl) in
      by_bool (stand_somewhere sh c (in_family sh c a))
      (λ t. rw t (drained_alone a h (in_family sh c a) (λ k. family_outside a k h) (rw t at ok)))
      (λ t. rw t (without_alone (in_family sh c a) (rw t at ok)))
  effect_alone (quiet a i) of ok =
      by_bool (stand_somewhere sh (quieted (drains_under c a) i c) (drains_under c a))
      (λ t. rw t (quieted_alone (drains_under c a) i (rw t at ok)))
      (λ t. rw t (without_alone (drains_under c a) (rw t at ok)))

  pub step_alone : (r : Request) → Of s (λ test. test r) → Alone sh s (step sh c r).next
  unfolding step answer_of
  step_alone r of =
      rw own.is_sound
      (by_bool (eqb (row sh c r) 0)
      (λ t. rw t (effect_alone r of (effect_keeps_sound sh c own.is_sound (granted sh c) r (eqb-true (row sh c r) 0 t))))
      (λ t. rw t own))
