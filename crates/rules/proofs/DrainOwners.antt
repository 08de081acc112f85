-- Owners that drain: an abort that drains hands all that the family owned to the aborted action, and quiet takes one instrument from it.
use mathlib.Core.Path.{◌≡◌, sym, ◌∙◌, ap}
use mathlib.Core.Bool.{Bool, true, false, not, ◌&&◌}
use mathlib.Core.Option.{some, none-ne-some, some-injective}
use Prim.Native.Nat.{ℕ, ◌<◌}
use lib.Dec.{eqb}
use borrow.Author.Tests.{eqb-true, eqb-false, ne_eqb, not-true}
use Rattle.rules.specs.Tests.{any, from}
use Rattle.rules.specs.Bench.{Shape, Bench, is_free, is_running, head_of}
use Rattle.rules.specs.Owners.{in_family, heir, is_owner, drains_under, stand_at, stand_somewhere}
use Rattle.rules.specs.Sound.{sound}
use Rattle.rules.specs.Requests.{without, drained, quieted}
use Rattle.rules.proofs.Tests.{by_bool, by_parent, clash, same, and_left, and_right, any_at, any_by, any_cong}
use Rattle.rules.proofs.Facts.{SoundNumber, sound_facts, runs_in_tree, tree_headless, in_use_tree, under_head}
use Rattle.rules.proofs.Walks.{heir_is, heir_drains, heir_found}
use Rattle.rules.proofs.Family.{family_self}
use Rattle.rules.proofs.Kept.{group_leaves, drain_keeps}
use Rattle.rules.proofs.SetForm.{standing_in_use, heir_owner, owner_heir}
use Rattle.rules.proofs.HeirChanges.{aborted_heir, drained_heir, family_heir}
use Rattle.rules.proofs.OwnerChanges.{leaving_owners}

module _ (sh : Shape) (b : Bench) (ok : sound sh b ≡ true) where
  facts : (k : ℕ) → k < sh.actions → SoundNumber sh b k
  facts = sound_facts sh b ok

  -- ---- an abort that drains

  module _ (a : ℕ) (la : a < sh.actions) (runs : is_running (b.state a) ≡ true) (standing : stand_somewhere sh b (in_family sh b a) ≡ true) where
    abbrev aborted : Bench
    aborted = drained a (in_family sh b a) b

    aborted_ok : sound sh aborted ≡ true
    aborted_ok = drain_keeps sh b ok a la runs standing

    -- What any of the family owned, a owns now.
    pub drained_head : (m i : ℕ) → m < sh.modes → i < sh.instruments →
        is_owner sh aborted m i a ≡ any sh.actions (λ j. is_owner sh b m i j && in_family sh b a j)
    drained_head m i lm li =
        same (is_owner sh aborted m i a) (any sh.actions (λ j. is_owner sh b m i j && in_family sh b a j)) forth back
      where
        forth : is_owner sh aborted m i a ≡ true → any sh.actions (λ j. is_owner sh b m i j && in_family sh b a j) ≡ true
        forth o =
            let t = owner_heir sh aborted aborted_ok m i a o in
            let k = t.0 in
            let u = standing_in_use sh b ok m i k lm li t.1 t.2 in
            let found = heir_found sh b ok k t.1 u in
            let x = found.0 in
            let alike = family_heir sh b ok a runs k t.1 u x found.1 in
            let inside = by_bool (in_family sh b a k) (λ f. f)
            (λ f. let itself : a ≡ x = some-injective a x (sym (sym (drained_heir sh b ok a k t.1 f) ∙ t.3) ∙ found.1) in
            clash (in_family sh b a a) (family_self sh b ok a) (ap (in_family sh b a) itself ∙ alike ∙ f)) in
            any_by sh.actions (λ j. is_owner sh b m i j && in_family sh b a j) x found.2
            (rw (heir_owner sh b ok m i k x t.1 t.2 found.1, alike ∙ inside))

        back : any sh.actions (λ j. is_owner sh b m i j && in_family sh b a j) ≡ true → is_owner sh aborted m i a ≡ true
        back o =
            let j = any_at sh.actions (λ j. is_owner sh b m i j && in_family sh b a j) o in
            let owns = and_left (is_owner sh b m i j.0) (in_family sh b a j.0) j.2 in
            let t = owner_heir sh b ok m i j.0 owns in
            let k = t.0 in
            let alike = family_heir sh b ok a runs k t.1 (standing_in_use sh b ok m i k lm li t.1 t.2) j.0 t.3 in
            heir_owner sh aborted aborted_ok m i k a t.1 t.2
            (aborted_heir sh b ok a k (sym alike ∙ and_right (is_owner sh b m i j.0) (in_family sh b a j.0) j.2))

    -- The others of the family own nothing any more, and all others own what they did.
    pub drained_others : (m i h : ℕ) → m < sh.modes → i < sh.instruments → eqb h a ≡ false →
        is_owner sh aborted m i h ≡ (is_owner sh b m i h && not (in_family sh b a h))
    drained_others m i h lm li other =
        same (is_owner sh aborted m i h) (is_owner sh b m i h && not (in_family sh b a h))
        (λ o. let t = owner_heir sh aborted aborted_ok m i h o in
        let k = t.0 in
        by_bool (in_family sh b a k)
        (λ f. absurd (eqb-false h a other (some-injective h a (sym t.3 ∙ aborted_heir sh b ok a k f))))
        (λ f. let is = sym (drained_heir sh b ok a k t.1 f) ∙ t.3 in
        rw (heir_owner sh b ok m i k h t.1 t.2 is, alike k t.1 t.2 is, f)))
        (λ o. let t = owner_heir sh b ok m i h (and_left (is_owner sh b m i h) (not (in_family sh b a h)) o) in
        let k = t.0 in
        let stays = sym (alike k t.1 t.2 t.3) ∙ not-true (in_family sh b a h) (and_right (is_owner sh b m i h) (not (in_family sh b a h)) o) in
        heir_owner sh aborted aborted_ok m i k h t.1 t.2 (drained_heir sh b ok a k t.1 stays ∙ t.3))
      where
        alike : (k : ℕ) → k < sh.actions → b.stands m i k ≡ true → heir sh b k ≡ some h → in_family sh b a h ≡ in_family sh b a k
        alike k l s is = family_heir sh b ok a runs k l (standing_in_use sh b ok m i k lm li l s) h is

  -- ---- a group and its head

  module _ (a : ℕ) (la : a < sh.actions) (drains : drains_under b a a ≡ true) where
    -- a number in use is of the group exactly if the head is its heir
    pub group_heir : (k h : ℕ) → k < sh.actions → is_free (b.state k) ≡ false → heir sh b k ≡ some h → eqb h a ≡ drains_under b a k
    group_heir k h l u is =
        by_parent (head_of (b.state k))
        (λ e. let found = heir_is sh b ok k l (in_use_tree (b.state k) u e) in
        let itself : found.0 ≡ h = some-injective found.0 h (sym found.1.is ∙ is) in
        rw e
        (ne_eqb h a
        (λ q. none-ne-some a
        (sym (tree_headless (b.state a) (runs_in_tree (b.state a) (rw (itself ∙ q) at found.1.runs))) ∙ under_head b a a drains))))
        (λ x e. rw (e, some-injective x h (sym (heir_drains sh b ok k x e) ∙ is)))

    -- What the head owns, in sets that have no number in a place where it didn't stand, is where one of its group stands.
    module _ (sets : ℕ → ℕ → ℕ → Bool) (fewer : (m i k : ℕ) → sets m i k ≡ true → b.stands m i k ≡ true) where
      abbrev with_sets : Bench
      with_sets = record { state = b.state; parent = b.parent; stands = sets }

      pub group_owns : (m i : ℕ) → m < sh.modes → i < sh.instruments →
          is_owner sh with_sets m i a ≡ any sh.actions (λ k. sets m i k && drains_under b a k)
      unfolding is_owner heir
      group_owns m i lm li =
          any_cong sh.actions (λ k. sets m i k && from (heir sh b k) false (λ x. eqb x a)) (λ k. sets m i k && drains_under b a k)
          (λ k l. by_bool (sets m i k)
          (λ s. let u = standing_in_use sh b ok m i k lm li l (fewer m i k s) in
          let found = heir_found sh b ok k l u in
          rw (s, found.1) (group_heir k found.0 l u found.1))
          (λ s. rw s))

      pub group_stands_at : (i : ℕ) → i < sh.instruments → any sh.modes (λ m. is_owner sh with_sets m i a) ≡ stand_at sh with_sets (drains_under b a) i
      unfolding stand_at
      group_stands_at i li =
          any_cong sh.modes (λ m. is_owner sh with_sets m i a) (λ m. any sh.actions (λ k. sets m i k && drains_under b a k)) (λ m lm. group_owns m i lm li)

      pub group_stands : any sh.instruments (λ i. any sh.modes (λ m. is_owner sh with_sets m i a)) ≡ stand_somewhere sh with_sets (drains_under b a)
      unfolding stand_somewhere
      group_stands =
          any_cong sh.instruments (λ i. any sh.modes (λ m. is_owner sh with_sets m i a)) (stand_at sh with_sets (drains_under b a)) (λ i li. group_stands_at i li)

    -- ---- quiet

    -- At the quiet instrument the head owns nothing any more; all else stays.
    pub quiet_owners : (i m at h : ℕ) → m < sh.modes → at < sh.instruments →
        is_owner sh (quieted (drains_under b a) i b) m at h ≡ (is_owner sh b m at h && not (eqb at i && eqb h a))
    unfolding is_owner heir
    quiet_owners i m at h lm la =
        same (any sh.actions after) (any sh.actions before && not (eqb at i && eqb h a))
        (λ o. let t = any_at sh.actions after o in
        let k = t.0 in
        let stays = and_left (b.stands m at k && not (eqb at i && drains_under b a k)) (owned k) t.2 in
        let s = and_left (b.stands m at k) (not (eqb at i && drains_under b a k)) stays in
        let own = and_right (b.stands m at k && not (eqb at i && drains_under b a k)) (owned k) t.2 in
        rw (any_by sh.actions before k t.1 (rw (s, own)), alike k t.1 s own)
        (and_right (b.stands m at k) (not (eqb at i && drains_under b a k)) stays))
        (λ o. let t = any_at sh.actions before (and_left (any sh.actions before) (not (eqb at i && eqb h a)) o) in
        let k = t.0 in
        let s = and_left (b.stands m at k) (owned k) t.2 in
        let own = and_right (b.stands m at k) (owned k) t.2 in
        any_by sh.actions after k t.1
        (rw (s, own, ← alike k t.1 s own, and_right (any sh.actions before) (not (eqb at i && eqb h a)) o)))
      where
        owned : ℕ → Bool
        owned k = from (heir sh b k) false (λ x. eqb x h)

        before : ℕ → Bool
        before k = b.stands m at k && owned k

        after : ℕ → Bool
        after k = (b.stands m at k && not (eqb at i && drains_under b a k)) && owned k

        alike : (k : ℕ) → k < sh.actions → b.stands m at k ≡ true → owned k ≡ true → eqb h a ≡ drains_under b a k
        alike k l s own =
            let u = standing_in_use sh b ok m at k lm la l s in
            let found = heir_found sh b ok k l u in
            let itself : found.0 ≡ h = eqb-true found.0 h (rw found.1 at own) in
            group_heir k h l u (found.1 ∙ ap some itself)

    -- a group that becomes free owns nothing, and all others own what they did
    pub released_owners : (m i h : ℕ) → m < sh.modes → i < sh.instruments → is_owner sh (without (drains_under b a) b) m i h ≡ (is_owner sh b m i h && not (eqb h a))
    released_owners = leaving_owners sh b ok (drains_under b a) (λ h. eqb h a) (group_leaves sh b ok a) group_heir
