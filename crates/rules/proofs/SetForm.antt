-- Owner sets held to ancestors, and upward and downward sets, give the rule over heirs (the Eos report, sections 3.1 to 3.3).
use mathlib.Core.Path.{◌≡◌, refl, sym, ◌∙◌, ap}
use mathlib.Core.Bool.{true, false, ◌&&◌, ◌||◌, or_assoc, or_comm}
use mathlib.Core.Option.{Option, none, some}
use Prim.Native.Nat.{ℕ, zero, suc, ◌<◌, ◌-◌}
use native.Mathlib.Omega.{arith}
use lib.Dec.{eqb}
use borrow.Author.Tests.{eqb-true, eq-eqb}
use Rattle.rules.specs.Tests.{◌⇒◌, all, from}
use Rattle.rules.specs.Bench.{Shape, State, free, running, committed, meaningless, Bench, is_free, is_running, is_committed, head_of, in_tree, draining}
use Rattle.rules.specs.Owners.{is_child, is_ancestor, heir, is_owner, is_asker_or_ancestor, granted, heir_in_line}
use Rattle.rules.specs.Sound.{means_something, reaches_top, sound}
use Rattle.rules.specs.SetForm.{granted_by_owners, upward_within, in_upward, downward_within, in_downward, granted_by_sets}
use Rattle.rules.proofs.Tests.{by_bool, by_parent, clash, and_left, and_right, by_or, or_left, or_right, implies, implied, refuted, from_at, from_cong, all_at, all_by, any_at, any_by, same, all_cong}
use Rattle.rules.proofs.Facts.{in_use_tree, SoundNumber, sound_facts}
use Rattle.rules.proofs.Walks.{climb, walk_settled, ancestor_none, ancestor_up, heir_runs, heir_up, heir_found, drains_not_for}

-- a number of the tree that isn't running is committed
resting_committed : (s : State) → means_something s ≡ true → in_tree s ≡ true → is_running s ≡ false → is_committed s ≡ true
resting_committed free m t r = t
resting_committed running m t r = clash true refl r
resting_committed committed m t r = refl
resting_committed (draining h) m t r = t
resting_committed (meaningless n) m t r = m

committed_rests : (s : State) → is_committed s ≡ true → is_running s ≡ false
committed_rests free c = refl
committed_rests running c = sym c
committed_rests committed c = refl
committed_rests (draining h) c = refl
committed_rests (meaningless n) c = refl

-- a number that is there and equals a
pub there_is : (o : Option ℕ) (a : ℕ) → from o false (λ p. eqb p a) ≡ true → o ≡ some a
there_is none a h = clash false h refl
there_is (some p) a h = ap some (eqb-true p a h)

pub eqb_comm : (x y : ℕ) → eqb x y ≡ eqb y x
eqb_comm x y = same (eqb x y) (eqb y x) (λ h. eq-eqb y x (sym (eqb-true x y h))) (λ h. eq-eqb x y (sym (eqb-true y x h)))

-- ---- upward sets, of a depth

-- c is a committed child of a, and x is c or stands in the upward set of c, of depth n
record Through (n : ℕ) (sh : Shape) (b : Bench) (a x c : ℕ) : Type 0 where
  known : c < sh.actions
  rests : is_committed (b.state c) ≡ true
  child : b.parent c ≡ some a
  below : (eqb x c || upward_within n sh b c x) ≡ true

upward_zero : (sh : Shape) (b : Bench) (a x : ℕ) → upward_within zero sh b a x ≡ false
unfolding upward_within
upward_zero sh b a x = refl

upward_through : (n : ℕ) (sh : Shape) (b : Bench) (a x : ℕ) → upward_within (suc n) sh b a x ≡ true → (c : ℕ) × Through n sh b a x c
unfolding upward_within
upward_through n sh b a x h =
    let t = any_at sh.actions (λ c. is_committed (b.state c) && is_child b a c && (eqb x c || upward_within n sh b c x)) h in
    let c = t.0 in
    let s = is_committed (b.state c) in
    let below = eqb x c || upward_within n sh b c x in
    let u = and_left (s && is_child b a c) below t.2 in (
      c,
      record {
        known = t.1;
        rests = and_left s (is_child b a c) u;
        child = there_is (b.parent c) a (and_right s (is_child b a c) u);
        below = and_right (s && is_child b a c) below t.2;
      },
    )

through_upward : (n : ℕ) (sh : Shape) (b : Bench) (a x c : ℕ) → Through n sh b a x c → upward_within (suc n) sh b a x ≡ true
unfolding upward_within
through_upward n sh b a x c t =
    any_by sh.actions (λ d. is_committed (b.state d) && is_child b a d && (eqb x d || upward_within n sh b d x)) c t.known
    (rw (t.rests, t.child, eq-eqb a a refl) t.below)

module _ (sh : Shape) (b : Bench) (k : ℕ) (l : k < sh.actions) (c : is_committed (b.state k) ≡ true) where
  -- committed k stands in its parent's upward set
  upward_child : (n p : ℕ) → b.parent k ≡ some p → upward_within (suc n) sh b p k ≡ true
  upward_child n p e =
      through_upward n sh b p k k
      (record { known = l; rests = c; child = e; below = or_left (eqb k k) (upward_within n sh b k k) (eq-eqb k k refl) })

  -- committed k stands where its parent stands, one deeper
  upward_grows : (n a p : ℕ) → b.parent k ≡ some p → upward_within n sh b a p ≡ true → upward_within (suc n) sh b a k ≡ true
  upward_grows zero a p e h = clash (upward_within zero sh b a p) h (upward_zero sh b a p)
  upward_grows (suc n) a p e h =
      by_or (eqb p d) (upward_within n sh b d p) t.below (λ q. deeper (upward_child n d (e ∙ ap some (eqb-true p d q))))
      (λ q. deeper (upward_grows n d p e q))
    where
      d : ℕ
      d = (upward_through n sh b a p h).0

      t : Through n sh b a p d
      t = (upward_through n sh b a p h).1

      deeper : upward_within (suc n) sh b d k ≡ true → upward_within (suc (suc n)) sh b a k ≡ true
      deeper u =
          through_upward (suc n) sh b a k d
          (record { known = t.known; rests = t.rests; child = t.child; below = or_right (eqb k d) (upward_within (suc n) sh b d k) u })

module _ (sh : Shape) (b : Bench) (ok : sound sh b ≡ true) where
  facts : (k : ℕ) → k < sh.actions → SoundNumber sh b k
  facts = sound_facts sh b ok

  pub standing_in_use : (m i k : ℕ) → m < sh.modes → i < sh.instruments → k < sh.actions → b.stands m i k ≡ true → is_free (b.state k) ≡ false
  standing_in_use m i k lm li lk h =
      refuted (is_free (b.state k)) (λ u. clash (b.stands m i k) h ((facts k lk).free_stands_nowhere u m i lm li))

  heir_line : (a k h : ℕ) → heir sh b k ≡ some h → heir_in_line sh b a k ≡ is_asker_or_ancestor sh b a h
  unfolding heir_in_line
  heir_line a k h e = rw e

  -- ---- owners

  pub heir_owner : (m i k h : ℕ) → k < sh.actions → b.stands m i k ≡ true → heir sh b k ≡ some h → is_owner sh b m i h ≡ true
  unfolding is_owner
  heir_owner m i k h l s e =
      any_by sh.actions (λ x. b.stands m i x && from (heir sh b x) false (λ y. eqb y h)) k l (rw (s, e) (eq-eqb h h refl))

  pub owner_heir : (m i h : ℕ) → is_owner sh b m i h ≡ true → (k : ℕ) × (k < sh.actions) × (b.stands m i k ≡ true) × (heir sh b k ≡ some h)
  unfolding is_owner
  owner_heir m i h o =
      let t = any_at sh.actions (λ x. b.stands m i x && from (heir sh b x) false (λ y. eqb y h)) o in
      let s = b.stands m i t.0 in
      let owns = from (heir sh b t.0) false (λ y. eqb y h) in
      (t.0, t.1, and_left s owns t.2, there_is (heir sh b t.0) h (and_right s owns t.2))

  -- the owners in mode m are in the asker's line exactly if the heirs are
  owners_line : (m a i : ℕ) → m < sh.modes → i < sh.instruments → all sh.actions (λ h. is_owner sh b m i h ⇒ is_asker_or_ancestor sh b a h) ≡ all sh.actions (λ k. b.stands m i k ⇒ heir_in_line sh b a k)
  owners_line m a i lm li =
      same _ _ (λ t. all_by _ _ (λ k lk. implied (b.stands m i k) (heir_in_line sh b a k) (heirs t k lk)))
      (λ t. all_by _ _ (λ h lh. implied (is_owner sh b m i h) (is_asker_or_ancestor sh b a h) (owners t h)))
    where
      heirs : all sh.actions (λ h. is_owner sh b m i h ⇒ is_asker_or_ancestor sh b a h) ≡ true → (k : ℕ) → k < sh.actions → b.stands m i k ≡ true → heir_in_line sh b a k ≡ true
      heirs t k lk s =
          let found = heir_found sh b ok k lk (standing_in_use m i k lm li lk s) in
          let h = found.0 in
          heir_line a k h found.1
          ∙ implies (is_owner sh b m i h) (is_asker_or_ancestor sh b a h) (all_at _ _ t h found.2) (heir_owner m i k h lk s found.1)

      owners : all sh.actions (λ k. b.stands m i k ⇒ heir_in_line sh b a k) ≡ true → (h : ℕ) → is_owner sh b m i h ≡ true → is_asker_or_ancestor sh b a h ≡ true
      owners t h o =
          let found = owner_heir m i h o in
          let k = found.0 in
          sym (heir_line a k h found.3) ∙ implies (b.stands m i k) (heir_in_line sh b a k) (all_at _ _ t k found.1) found.2

  -- section 3.2 gives section 3.1
  pub owner_form : (m a i : ℕ) → i < sh.instruments → granted_by_owners sh b m a i ≡ granted sh b m a i
  unfolding granted_by_owners granted
  owner_form m a i li = all_cong _ _ _ (λ held lh. ap (λ t. sh.conflict m held ⇒ t) (owners_line held a i lh li))

  -- ---- upward sets

  -- what stands in the upward set of a has the heir of a
  upward_heir : (n a x : ℕ) → upward_within n sh b a x ≡ true → heir sh b x ≡ heir sh b a
  upward_heir zero a x h = clash (upward_within zero sh b a x) h (upward_zero sh b a x)
  upward_heir (suc n) a x h =
      let s = upward_through n sh b a x h in
      let c = s.0 in
      let t = s.1 in
      let up : heir sh b c ≡ heir sh b a = heir_up sh b ok c a t.known (committed_rests (b.state c) t.rests) t.child in
      by_or (eqb x c) (upward_within n sh b c x) t.below (λ q. rw (eqb-true x c q) up) (λ q. upward_heir n c x q ∙ up)

  resting_parent : (k : ℕ) → k < sh.actions → in_tree (b.state k) ≡ true → is_running (b.state k) ≡ false → (p : ℕ) × (b.parent k ≡ some p)
  resting_parent k l u r =
      by_parent (b.parent k) (λ e. clash (is_running (b.state k)) ((facts k l).top_runs u e) r) (λ p e. (p, e))

  -- a committed number that reaches its top action within n steps stands in the upward set of its heir, of depth suc n
  heir_upward : (n a k : ℕ) → k < sh.actions → in_tree (b.state k) ≡ true → is_running (b.state k) ≡ false → reaches_top n b.parent k ≡ true → heir sh b k ≡ some a → upward_within (suc n) sh b a k ≡ true
  unfolding reaches_top
  heir_upward zero a k l u r t h =
      let s = resting_parent k l u r in
      clash false (from_at (b.parent k) (λ p. false) t s.0 s.1) refl
  heir_upward (suc n) a k l u r t h =
      let s = resting_parent k l u r in
      let p = s.0 in
      let e : b.parent k ≡ some p = s.1 in
      let lp = (facts k l).parent_known p e in
      let c = resting_committed (b.state k) (facts k l).means u r in
      let hp : heir sh b p ≡ some a = sym (heir_up sh b ok k p l r e) ∙ h in
      by_bool (is_running (b.state p)) (λ rp. upward_child sh b k l c (suc n) a (e ∙ sym (heir_runs sh b ok p lp rp) ∙ hp))
      (λ rp. upward_grows sh b k l c (suc n) a p e
      (heir_upward n a p lp ((facts k l).parent_in_tree p e) rp (from_at (b.parent k) (reaches_top n b.parent) t p e) hp))

  -- running a, with its upward set, is what has a for its heir
  own_part : (a k h : ℕ) → a < sh.actions → is_running (b.state a) ≡ true → k < sh.actions → is_free (b.state k) ≡ false → heir sh b k ≡ some h → (eqb k a || in_upward sh b a k) ≡ eqb h a
  unfolding in_upward
  own_part a k h l r lk u e =
      same (eqb k a || upward_within sh.actions sh b a k) (eqb h a)
      (λ t. by_or (eqb k a) (upward_within sh.actions sh b a k) t (λ q. let s : k ≡ a = eqb-true k a q in eq-eqb h a (cc runs))
      (λ q. let s : heir sh b k ≡ heir sh b a = upward_heir sh.actions a k q in eq-eqb h a (cc runs)))
      (λ t. let s : h ≡ a = eqb-true h a t in
      by_bool (is_running (b.state k))
      (λ q. let own : heir sh b k ≡ some k = heir_runs sh b ok k lk q in or_left (eqb k a) (upward_within sh.actions sh b a k) (eq-eqb k a (cc)))
      (λ q. or_right (eqb k a) (upward_within sh.actions sh b a k)
      (ap (λ n. upward_within n sh b a k) size ∙ heir_upward (sh.actions - 1) a k lk (stays (e ∙ ap some s)) q (facts k lk).ends_at_top (cc))))
    where
      -- what has a for its heir is in the tree
      stays : heir sh b k ≡ some a → in_tree (b.state k) ≡ true
      stays is = in_use_tree (b.state k) u (by_parent (head_of (b.state k)) (λ t. t) (λ x t. absurd (drains_not_for sh b ok a k x lk r t is)))

      size : sh.actions ≡ suc (sh.actions - 1)
      size = omega arith

      runs : heir sh b a ≡ some a
      runs = heir_runs sh b ok a l r

  -- ---- downward sets

  downward_none : (a x : ℕ) → b.parent a ≡ none → in_downward sh b a x ≡ false
  unfolding in_downward downward_within
  downward_none a x e = within sh.actions
    where
      within : (n : ℕ) → downward_within n sh b a x ≡ false
      within zero = refl
      within (suc n) = rw e

  downward_up : (a x p : ℕ) → a < sh.actions → b.parent a ≡ some p → in_downward sh b a x ≡ (eqb x p || in_upward sh b p x || in_downward sh b p x)
  unfolding in_downward downward_within
  downward_up a x p l e = settled a l ∙ rw e
    where
      settled : (k : ℕ) → k < sh.actions → downward_within sh.actions sh b k x ≡ from (b.parent k) false (λ p. eqb x p || in_upward sh b p x || downward_within sh.actions sh b p x)
      settled =
          walk_settled sh b ok (λ n k. downward_within n sh b k x)
          (λ m n k. from_cong (b.parent k) false (λ p t. eqb x p || in_upward sh b p x || t) (λ p. downward_within m sh b p x) (λ p. downward_within n sh b p x))

  -- the downward set of running a is what has an ancestor of a for its heir
  downward_part : (k h : ℕ) → k < sh.actions → is_free (b.state k) ≡ false → heir sh b k ≡ some h → (a : ℕ) → a < sh.actions → is_running (b.state a) ≡ true → in_downward sh b a k ≡ is_ancestor sh b h a
  downward_part k h lk u e =
      climb sh b ok (λ a. is_running (b.state a) ≡ true → in_downward sh b a k ≡ is_ancestor sh b h a)
      (λ a l q r. downward_none a k q ∙ sym (ancestor_none sh b ok h a q))
      (λ a p l lp q above r. let rp = (facts a l).parent_runs r p q in
      downward_up a k p l q ∙ rw (own_part p k h lp rp lk u e, above rp, ancestor_up sh b ok h a p l q, eqb_comm p h))

  -- what downward set, asker and upward set hold is what has its heir in the asker's line
  pub cover : (a k : ℕ) → a < sh.actions → is_running (b.state a) ≡ true → k < sh.actions → is_free (b.state k) ≡ false → (in_downward sh b a k || eqb k a || in_upward sh b a k) ≡ heir_in_line sh b a k
  unfolding is_asker_or_ancestor
  cover a k l r lk u =
      let found = heir_found sh b ok k lk u in
      let h = found.0 in
      let e = found.1 in
      rw (or_assoc (in_downward sh b a k) (eqb k a) (in_upward sh b a k), own_part a k h l r lk u e, downward_part k h lk u e a l r, heir_line a k h e)
      (or_comm (is_ancestor sh b h a) (eqb h a))

  -- section 3.3 gives section 3.1
  pub set_form : (m a i : ℕ) → a < sh.actions → is_running (b.state a) ≡ true → i < sh.instruments → granted_by_sets sh b m a i ≡ granted sh b m a i
  unfolding granted_by_sets granted
  set_form m a i l r li =
      all_cong _ _ _ (λ held lh. ap (λ t. sh.conflict m held ⇒ t) (all_cong _ _ _ (λ k lk.
      by_bool (b.stands held i k) (λ s. rw s (cover a k l r lk (standing_in_use held i k lh li lk s))) (λ s. rw s))))
