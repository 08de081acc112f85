-- A sound bench and a plain machine that say the same read each other's ancestors, running children and grants alike, and give every request the
-- same answer.
use mathlib.Core.Path.{◌≡◌, sym, ◌∙◌, ap}
use mathlib.Core.Bool.{true, ◌&&◌, ◌||◌}
use mathlib.Core.List.{[], ◌∷◌}
use mathlib.Core.Option.{none, some}
use Prim.Native.Nat.{ℕ, ◌<◌}
use lib.Dec.{eqb}
use borrow.Author.Tests.{leb-false}
use Rattle.rules.specs.Tests.{◌⇒◌, all}
use Rattle.rules.specs.Bench.{Shape, Bench, is_running}
use Rattle.rules.specs.Owners.{is_child, is_ancestor, in_family, is_owner, is_asker_or_ancestor, granted, has_running_child, drains_under, stand_at}
use Rattle.rules.specs.Sound.{sound}
use Rattle.rules.specs.SetForm.{granted_by_owners}
use Rattle.rules.specs.Requests.{Request, open_top, open_sub, ask, commit, abort, quiet}
use Rattle.rules.specs.Answers.{too_high, no_instrument, row_by, row}
use Rattle.rules.specs.Plain.{Plain, is_in, is_parent, may_own, running_child, waits_with, owns_at, plain_family, plain_answer}
use Rattle.rules.specs.Agrees.{Agrees}
use Rattle.rules.proofs.Tests.{by_bool, by_parent, or_fails_left, or_fails_right, all_cong, any_cong}
use Rattle.rules.proofs.Walks.{climb, ancestor_none, ancestor_up}
use Rattle.rules.proofs.SetForm.{owner_form}
use Rattle.rules.proofs.DrainOwners.{group_stands_at}

module _ (sh : Shape) (b : Bench) (s : Plain) (ok : sound sh b ≡ true) (agrees : Agrees sh b s) where
  pub top_ancestors : (k : ℕ) → k < sh.actions → b.parent k ≡ none → s.ancestors k ≡ []
  top_ancestors k l e = agrees.ancestors k l ∙ rw e

  pub child_ancestors : (k p : ℕ) → k < sh.actions → b.parent k ≡ some p → s.ancestors k ≡ p ∷ s.ancestors p
  child_ancestors k p l e = agrees.ancestors k l ∙ rw e

  pub ancestors_same : (x k : ℕ) → k < sh.actions → is_in x (s.ancestors k) ≡ is_ancestor sh b x k
  ancestors_same x =
      climb sh b ok (λ k. is_in x (s.ancestors k) ≡ is_ancestor sh b x k)
      (λ k l e. ap (is_in x) (top_ancestors k l e) ∙ sym (ancestor_none sh b ok x k e))
      (λ k p l lp e above. ap (is_in x) (child_ancestors k p l e) ∙ rw (above, ancestor_up sh b ok x k p l e))

  pub family_same : (a k : ℕ) → k < sh.actions → plain_family s a k ≡ in_family sh b a k
  unfolding in_family
  family_same a k l = rw (ancestors_same a k l)

  pub parent_same : (a k : ℕ) → k < sh.actions → is_parent a (s.ancestors k) ≡ is_child b a k
  parent_same a k l =
      by_parent (b.parent k) (λ e. ap (is_parent a) (top_ancestors k l e) ∙ rw e)
      (λ p e. ap (is_parent a) (child_ancestors k p l e) ∙ rw e)

  child_same : (a : ℕ) → running_child sh s a ≡ has_running_child sh b a
  unfolding running_child has_running_child
  child_same a =
      any_cong sh.actions (λ k. s.runs k && is_parent a (s.ancestors k)) (λ k. is_running (b.state k) && is_child b a k)
      (λ k l. rw (agrees.runs k l, parent_same a k l))

  -- Moss's rule over owners is the rule over heirs.
  pub grant_same : (m a i : ℕ) → a < sh.actions → i < sh.instruments → may_own sh s m a i ≡ granted sh b m a i
  unfolding may_own granted_by_owners is_asker_or_ancestor
  grant_same m a i la li =
      all_cong sh.modes
      (λ held. sh.conflict m held ⇒ all sh.actions (λ h. s.owns held i h ⇒ (eqb h a || is_in h (s.ancestors a))))
      (λ held. sh.conflict m held ⇒ all sh.actions (λ h. is_owner sh b held i h ⇒ is_asker_or_ancestor sh b a h))
      (λ held lm. ap (λ t. sh.conflict m held ⇒ t)
      (all_cong sh.actions (λ h. s.owns held i h ⇒ (eqb h a || is_in h (s.ancestors a)))
      (λ h. is_owner sh b held i h ⇒ is_asker_or_ancestor sh b a h)
      (λ h lh. rw (agrees.owns held i h lm li lh, ancestors_same h a la))))
      ∙ owner_form sh b ok m a i li

  pub group_same : (a k : ℕ) → k < sh.actions → waits_with s a k ≡ drains_under b a k
  group_same a k l = rw (agrees.heads k l)

  owns_same : (a i : ℕ) → a < sh.actions → i < sh.instruments → drains_under b a a ≡ true → owns_at sh s a i ≡ stand_at sh b (drains_under b a) i
  unfolding owns_at
  owns_same a i la li drains =
      any_cong sh.modes (λ m. s.owns m i a) (λ m. is_owner sh b m i a) (λ m lm. agrees.owns m i a lm li la)
      ∙ group_stands_at sh b ok a la drains b.stands (λ m i k h. h) i li

  pub answer_same : (r : Request) → row sh b r ≡ plain_answer sh s r
  unfolding row_by plain_answer
  answer_same (open_top n) =
      by_bool (too_high sh n) (λ t. rw t) (λ t. rw (t, agrees.used n (leb-false sh.actions n t)))
  answer_same (open_sub n p) =
      by_bool (too_high sh n || too_high sh p) (λ t. rw t)
      (λ t. rw (
        t,
        agrees.used n (leb-false sh.actions n (or_fails_left (too_high sh n) (too_high sh p) t)),
        agrees.runs p (leb-false sh.actions p (or_fails_right (too_high sh n) (too_high sh p) t)),
      ))
  answer_same (ask m a i) =
      by_bool (too_high sh a) (λ t. rw t)
      (λ t. by_bool (no_instrument sh i) (λ u. rw (t, u))
      (λ u. let la = leb-false sh.actions a t in
      rw (t, u, agrees.runs a la, child_same a, grant_same m a i la (leb-false sh.instruments i u))))
  answer_same (commit a) =
      by_bool (too_high sh a) (λ t. rw t) (λ t. rw (t, agrees.runs a (leb-false sh.actions a t), child_same a))
  answer_same (abort a) =
      by_bool (too_high sh a) (λ t. rw t) (λ t. rw (t, agrees.runs a (leb-false sh.actions a t)))
  answer_same (quiet a i) =
      by_bool (too_high sh a) (λ t. rw t)
      (λ t. by_bool (no_instrument sh i) (λ u. rw (t, u))
      (λ u. let la = leb-false sh.actions a t in
      rw (t, u, group_same a a la)
      (by_bool (drains_under b a a) (λ d. rw (d, owns_same a i la (leb-false sh.instruments i u) d)) (λ d. rw d))))
