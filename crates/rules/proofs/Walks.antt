-- Going up from parent to parent in a sound bench: laws of ancestors and heirs that mention no number of steps, and induction along parents.
use Rattle.std.specs.Prelude.{if◌then◌else◌}
use mathlib.Core.Path.{◌≡◌, refl, sym, ◌∙◌, ap}
use mathlib.Core.Bool.{true, false, ◌||◌}
use mathlib.Core.Option.{Option, none, some, none-ne-some, some-injective}
use Prim.Native.Nat.{ℕ, zero, suc, ◌<◌, ◌-◌}
use native.Mathlib.Omega.{arith}
use lib.Dec.{eqb}
use borrow.Author.Tests.{eqb-true, eq-eqb}
use Rattle.rules.specs.Tests.{from}
use Rattle.rules.specs.Bench.{Shape, Bench, is_free, is_running, head_of, in_tree}
use Rattle.rules.specs.Owners.{above, is_ancestor, nearest, heir, is_asker_or_ancestor}
use Rattle.rules.specs.Sound.{reaches_top, sound}
use Rattle.rules.proofs.Tests.{by_bool, by_parent, clash, by_or, or_left, or_right, refuted, from_at, from_cong, from_none}
use Rattle.rules.proofs.Facts.{tree_in_use, runs_in_tree, tree_headless, in_use_tree, SoundNumber, sound_facts, under_head}

-- how many steps up from k there are, n at most
unfoldable pub steps_up : ℕ → (ℕ → Option ℕ) → ℕ → ℕ
steps_up zero up k = 0
steps_up (suc n) up k = from (up k) 0 (λ p. suc (steps_up n up p))

-- how deep k lies below its top action
unfoldable pub depth : Shape → Bench → ℕ → ℕ
depth sh b k = steps_up sh.actions b.parent k

-- an heir, as facts
pub record IsHeir (sh : Shape) (b : Bench) (k h : ℕ) : Type 0 where
  pub is : heir sh b k ≡ some h
  pub known : h < sh.actions
  pub runs : is_running (b.state h) ≡ true
  pub in_line : is_asker_or_ancestor sh b k h ≡ true

-- A walk asks of its next step only what the parent gives. Where the chain of parents ends within n steps, one step more than suc n changes nothing.
walk_ends : {A : Type 0} (up : ℕ → Option ℕ) (walk : ℕ → ℕ → A) → ((m n k : ℕ) → ((p : ℕ) → up k ≡ some p → walk m p ≡ walk n p) → walk (suc m) k ≡ walk (suc n) k) → (n k : ℕ) → reaches_top n up k ≡ true → walk (suc n) k ≡ walk (suc (suc n)) k
unfolding reaches_top
walk_ends up walk local zero k h = local zero (suc zero) k (λ p e. clash false (from_at (up k) (λ p. false) h p e) refl)
walk_ends up walk local (suc n) k h = local (suc n) (suc (suc n)) k (λ p e. walk_ends up walk local n p (from_at (up k) (reaches_top n up) h p e))

module _ (sh : Shape) (b : Bench) (ok : sound sh b ≡ true) where
  facts : (k : ℕ) → k < sh.actions → SoundNumber sh b k
  facts = sound_facts sh b ok

  -- what holds of every number without a parent, and of a number where it holds of its parent, holds of every number
  pub climb : (P : ℕ → Type 0) → ((k : ℕ) → k < sh.actions → b.parent k ≡ none → P k) → ((k p : ℕ) → k < sh.actions → p < sh.actions → b.parent k ≡ some p → P p → P k) → (k : ℕ) → k < sh.actions → P k
  unfolding reaches_top
  climb P top child k l = within (sh.actions - 1) k l (facts k l).ends_at_top
    where
      within : (n k : ℕ) → k < sh.actions → reaches_top n b.parent k ≡ true → P k
      within zero k l h = top k l (from_none (b.parent k) h)
      within (suc n) k l h =
          by_parent (b.parent k) (top k l)
          (λ p e. let lp = (facts k l).parent_known p e in child k p l lp e (within n p lp (from_at (b.parent k) (reaches_top n b.parent) h p e)))

  -- Of a walk along parents, as many steps as there are numbers are enough.
  pub walk_settled : {A : Type 0} (walk : ℕ → ℕ → A) → ((m n k : ℕ) → ((p : ℕ) → b.parent k ≡ some p → walk m p ≡ walk n p) → walk (suc m) k ≡ walk (suc n) k) → (k : ℕ) → k < sh.actions → walk sh.actions k ≡ walk (suc sh.actions) k
  walk_settled walk local k l =
      let e : sh.actions ≡ suc (sh.actions - 1) = omega arith in
      rw e (walk_ends b.parent walk local (sh.actions - 1) k (facts k l).ends_at_top)

  pub depth_child : (k p : ℕ) → k < sh.actions → b.parent k ≡ some p → depth sh b k ≡ suc (depth sh b p)
  unfolding depth steps_up
  depth_child k p l e = settled k l ∙ rw e
    where
      settled : (k : ℕ) → k < sh.actions → steps_up sh.actions b.parent k ≡ from (b.parent k) 0 (λ p. suc (steps_up sh.actions b.parent p))
      settled =
          walk_settled (λ n k. steps_up n b.parent k)
          (λ m n k. from_cong (b.parent k) 0 (λ p d. suc d) (steps_up m b.parent) (steps_up n b.parent))

  -- ---- ancestors

  pub ancestor_none : (x k : ℕ) → b.parent k ≡ none → is_ancestor sh b x k ≡ false
  unfolding is_ancestor above
  ancestor_none x k e = within sh.actions
    where
      within : (n : ℕ) → above n b.parent x k ≡ false
      within zero = refl
      within (suc n) = rw e

  pub ancestor_up : (x k p : ℕ) → k < sh.actions → b.parent k ≡ some p → is_ancestor sh b x k ≡ (eqb p x || is_ancestor sh b x p)
  unfolding is_ancestor above
  ancestor_up x k p l e = settled k l ∙ rw e
    where
      settled : (k : ℕ) → k < sh.actions → above sh.actions b.parent x k ≡ from (b.parent k) false (λ p. eqb p x || above sh.actions b.parent x p)
      settled =
          walk_settled (λ n k. above n b.parent x k)
          (λ m n k. from_cong (b.parent k) false (λ p t. eqb p x || t) (above m b.parent x) (above n b.parent x))

  -- What holds of every parent, and of an ancestor of a parent where it holds of one of the parent's, holds of every ancestor: `P k x` speaks of k and an ancestor x.
  pub ancestor_climb : (P : ℕ → ℕ → Type 0) → ((k p : ℕ) → k < sh.actions → p < sh.actions → b.parent k ≡ some p → P k p) → ((k p x : ℕ) → k < sh.actions → p < sh.actions → b.parent k ≡ some p → P p x → P k x) → (x k : ℕ) → k < sh.actions → is_ancestor sh b x k ≡ true → P k x
  ancestor_climb P parent further x =
      climb (λ k. is_ancestor sh b x k ≡ true → P k x) (λ k l e h. clash (is_ancestor sh b x k) h (ancestor_none x k e))
      (λ k p l lp e below h. by_or (eqb p x) (is_ancestor sh b x p) (rw (ancestor_up x k p l e) at h)
      (λ q. rw (eqb-true p x q) at (parent k p l lp e))
      (λ q. further k p x l lp e (below q)))

  pub ancestor_known : (x k : ℕ) → k < sh.actions → is_ancestor sh b x k ≡ true → x < sh.actions
  ancestor_known = ancestor_climb (λ k x. x < sh.actions) (λ k p l lp e. lp) (λ k p x l lp e h. h)

  -- an ancestor of a running action runs
  pub ancestor_runs : (x k : ℕ) → k < sh.actions → is_running (b.state k) ≡ true → is_ancestor sh b x k ≡ true → is_running (b.state x) ≡ true
  ancestor_runs x k l r h =
      ancestor_climb (λ k x. is_running (b.state k) ≡ true → is_running (b.state x) ≡ true) (λ k p l lp e r. (facts k l).parent_runs r p e)
      (λ k p x l lp e above r. above ((facts k l).parent_runs r p e))
      x
      k
      l
      h
      r

  -- an ancestor is in the tree: a number that drains is nobody's
  pub ancestor_in_tree : (x k : ℕ) → k < sh.actions → is_ancestor sh b x k ≡ true → in_tree (b.state x) ≡ true
  ancestor_in_tree =
      ancestor_climb (λ k x. in_tree (b.state x) ≡ true) (λ k p l lp e. (facts k l).parent_in_tree p e) (λ k p x l lp e h. h)

  pub ancestor_in_use : (x k : ℕ) → k < sh.actions → is_ancestor sh b x k ≡ true → is_free (b.state x) ≡ false
  ancestor_in_use x k l h = tree_in_use (b.state x) (ancestor_in_tree x k l h)

  pub ancestor_trans : (x y z : ℕ) → z < sh.actions → is_ancestor sh b x y ≡ true → is_ancestor sh b y z ≡ true → is_ancestor sh b x z ≡ true
  ancestor_trans x y z l h g =
      ancestor_climb (λ z y. is_ancestor sh b x y ≡ true → is_ancestor sh b x z ≡ true)
      (λ k p l lp e h. rw (ancestor_up x k p l e) (or_right (eqb p x) (is_ancestor sh b x p) h))
      (λ k p y l lp e below h. rw (ancestor_up x k p l e) (or_right (eqb p x) (is_ancestor sh b x p) (below h)))
      y
      z
      l
      g
      h

  -- an ancestor lies less deep
  pub ancestor_depth : (x k : ℕ) → k < sh.actions → is_ancestor sh b x k ≡ true → depth sh b x < depth sh b k
  ancestor_depth =
      ancestor_climb (λ k x. depth sh b x < depth sh b k) (λ k p l lp e. let d = depth_child k p l e in omega arith)
      (λ k p x l lp e h. let d = depth_child k p l e in omega arith)

  -- an action is not its own ancestor
  pub ancestor_irrefl : (k : ℕ) → k < sh.actions → is_ancestor sh b k k ≡ false
  ancestor_irrefl k l = refuted (is_ancestor sh b k k) (λ h. let d = ancestor_depth k k l h in omega arith)

  -- ---- heirs

  unfoldable pub nearest_of : ℕ → Option ℕ
  nearest_of k = nearest sh.actions b.state b.parent k

  nearest_settled : (k : ℕ) → k < sh.actions → nearest_of k ≡ (if is_running (b.state k) then some k else from (b.parent k) none nearest_of)
  unfolding nearest_of nearest
  nearest_settled =
      walk_settled (λ n k. nearest n b.state b.parent k)
      (λ m n k h. ap (λ o. if is_running (b.state k) then some k else o)
      (from_cong (b.parent k) none (λ p o. o) (nearest m b.state b.parent) (nearest n b.state b.parent) h))

  heir_nearest : (k : ℕ) → head_of (b.state k) ≡ none → heir sh b k ≡ nearest_of k
  unfolding heir nearest_of
  heir_nearest k e = rw e

  pub heir_drains : (k h : ℕ) → head_of (b.state k) ≡ some h → heir sh b k ≡ some h
  unfolding heir
  heir_drains k h e = rw e

  -- a number with a parent doesn't drain
  pub child_headless : (k p : ℕ) → k < sh.actions → b.parent k ≡ some p → head_of (b.state k) ≡ none
  child_headless k p l e = by_parent (head_of (b.state k)) (λ t. t) (λ h t. absurd (none-ne-some p (sym ((facts k l).drains h t).no_parent ∙ e)))

  pub heir_runs : (k : ℕ) → k < sh.actions → is_running (b.state k) ≡ true → heir sh b k ≡ some k
  heir_runs k l h = heir_nearest k (tree_headless (b.state k) (runs_in_tree (b.state k) h)) ∙ nearest_settled k l ∙ rw h

  pub heir_up : (k p : ℕ) → k < sh.actions → is_running (b.state k) ≡ false → b.parent k ≡ some p → heir sh b k ≡ heir sh b p
  heir_up k p l h e =
      heir_nearest k (child_headless k p l e)
      ∙ nearest_settled k l
      ∙ rw (h, e) (sym (heir_nearest p (tree_headless (b.state p) ((facts k l).parent_in_tree p e))))

  -- a number of the tree has an heir
  pub heir_is : (k : ℕ) → k < sh.actions → in_tree (b.state k) ≡ true → (h : ℕ) × IsHeir sh b k h
  unfolding is_asker_or_ancestor
  heir_is =
      climb (λ k. in_tree (b.state k) ≡ true → (h : ℕ) × IsHeir sh b k h) (λ k l e u. (k, itself k l ((facts k l).top_runs u e)))
      (λ k p l lp e above u. by_bool (is_running (b.state k)) (λ r. (k, itself k l r))
      (λ s. let found = above ((facts k l).parent_in_tree p e) in (found.0, inherited k p found.0 l e s found.1)))
    where
      itself : (k : ℕ) → k < sh.actions → is_running (b.state k) ≡ true → IsHeir sh b k k
      itself k l r =
          record { is = heir_runs k l r; known = l; runs = r; in_line = or_left (eqb k k) (is_ancestor sh b k k) (eq-eqb k k refl) }

      inherited : (k p h : ℕ) → k < sh.actions → b.parent k ≡ some p → is_running (b.state k) ≡ false → IsHeir sh b p h → IsHeir sh b k h
      inherited k p h l e s i =
          record {
            is = heir_up k p l s e ∙ i.is;
            known = i.known;
            runs = i.runs;
            in_line = or_right (eqb h k) (is_ancestor sh b h k)
                (rw (ancestor_up h k p l e)
                (by_or (eqb h p) (is_ancestor sh b h p) i.in_line (λ q. or_left (eqb p h) (is_ancestor sh b h p) (eq-eqb p h (sym (eqb-true h p q))))
                (or_right (eqb p h) (is_ancestor sh b h p))));
          }

  -- a number that isn't free has an heir, running or draining, that is one of the table's
  pub heir_found : (k : ℕ) → k < sh.actions → is_free (b.state k) ≡ false → (h : ℕ) × (heir sh b k ≡ some h) × (h < sh.actions)
  heir_found k l u =
      by_parent (head_of (b.state k))
      (λ e. let found = heir_is k l (in_use_tree (b.state k) u e) in (found.0, found.1.is, found.1.known))
      (λ h e. (h, heir_drains k h e, ((facts k l).drains h e).head_known))

  -- a running number isn't the heir of one that drains
  pub drains_not_for : (a k h : ℕ) → k < sh.actions → is_running (b.state a) ≡ true → head_of (b.state k) ≡ some h → heir sh b k ≡ some a → ⊥
  drains_not_for a k h l r e is =
      let same : h ≡ a = some-injective h a (sym (heir_drains k h e) ∙ is) in
      none-ne-some a
      (sym (tree_headless (b.state a) (runs_in_tree (b.state a) r)) ∙ rw same at (under_head b h h ((facts k l).drains h e).head_drains))
