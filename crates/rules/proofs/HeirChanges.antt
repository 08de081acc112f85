-- How heirs change with each accepted request on a sound bench: opening and asking change none of a number in use, a family that leaves takes its
-- own heirs with it and no others, and committing a sub hands what it was the heir of to its parent.
use Rattle.std.specs.Prelude.{if◌then◌else◌}
use mathlib.Core.Path.{◌≡◌, refl, sym, ◌∙◌, ap}
use mathlib.Core.Bool.{Bool, true, false}
use mathlib.Core.Option.{Option, none, some, none-ne-some, some-injective}
use Prim.Native.Nat.{ℕ, zero, suc, ◌<◌}
use lib.Dec.{eqb}
use borrow.Author.Tests.{eqb-true, eq-eqb, ne_eqb}
use Rattle.rules.specs.Tests.{from}
use Rattle.rules.specs.Bench.{Shape, committed, Bench, is_free, is_running, head_of, in_tree}
use Rattle.rules.specs.Owners.{is_ancestor, in_family, nearest, heir, granted}
use Rattle.rules.specs.Sound.{sound}
use Rattle.rules.specs.Requests.{open_top, open_sub, ask, commit, put, without, drained, effect}
use Rattle.rules.specs.Answers.{row}
use Rattle.rules.proofs.Tests.{by_bool, by_parent, clash, refuted, or_left, from_cong}
use Rattle.rules.proofs.Facts.{tree_in_use, runs_in_tree, tree_headless, in_use_tree, SoundNumber, sound_facts, under_head}
use Rattle.rules.proofs.Walks.{climb, ancestor_up, ancestor_irrefl, heir_runs, heir_up, heir_drains}
use Rattle.rules.proofs.Family.{family_child, family_closed}
use Rattle.rules.proofs.Accepted.{Commits, accepted}
use Rattle.rules.proofs.Kept.{family_headless, effect_keeps_sound}

-- the heir that a commit of a under p leaves to a number that had heir o
abbrev pub handed : ℕ → ℕ → Option ℕ → Option ℕ
handed a p o = from o none (λ h. if eqb h a then some p else some h)

-- a is committed, and nothing else changes
abbrev pub with_committed : ℕ → Bench → Bench
with_committed a b = record { state = put a committed b.state; parent = b.parent; stands = b.stands }

pub commit_sub : (sh : Shape) (b : Bench) (a p : ℕ) → b.parent a ≡ some p → effect sh b (commit a) ≡ with_committed a b
unfolding effect
commit_sub sh b a p e = rw e

-- Numbers that keep their states and parents, and whose parents are of them, keep their heirs.
pub heir_kept : (sh : Shape) (b next : Bench) (Kept : ℕ → Type 0) → ((k : ℕ) → Kept k → next.state k ≡ b.state k) → ((k : ℕ) → Kept k → next.parent k ≡ b.parent k) → ((k p : ℕ) → Kept k → b.parent k ≡ some p → Kept p) → (k : ℕ) → Kept k → heir sh next k ≡ heir sh b k
unfolding heir nearest
heir_kept sh b next Kept states parents closed k s =
    rw (states k s) (ap (λ o. from (head_of (b.state k)) o (λ h. some h)) (within sh.actions k s))
  where
    within : (n k : ℕ) → Kept k → nearest n next.state next.parent k ≡ nearest n b.state b.parent k
    within zero k s = refl
    within (suc n) k s =
        rw (states k s, parents k s)
        (ap (λ o. if is_running (b.state k) then some k else o)
        (from_cong (b.parent k) none (λ p o. o) (nearest n next.state next.parent) (nearest n b.state b.parent)
        (λ p e. within n p (closed k p s e))))

module _ (sh : Shape) (b : Bench) (ok : sound sh b ≡ true) where
  facts : (k : ℕ) → k < sh.actions → SoundNumber sh b k
  facts = sound_facts sh b ok

  -- ---- open and ask

  -- What changes a free number only changes no heir of a number in use.
  heir_other : (n : ℕ) (next : Bench) → is_free (b.state n) ≡ true → ((k : ℕ) → (k ≡ n → ⊥) → next.state k ≡ b.state k) → ((k : ℕ) → (k ≡ n → ⊥) → next.parent k ≡ b.parent k) → (k : ℕ) → k < sh.actions → is_free (b.state k) ≡ false → heir sh next k ≡ heir sh b k
  heir_other n next free states parents k l u =
      heir_kept sh b next (λ k. (k < sh.actions) × (is_free (b.state k) ≡ false)) (λ k s. states k (differs k s.1))
      (λ k s. parents k (differs k s.1))
      (λ k p s e. ((facts k s.0).parent_known p e, tree_in_use (b.state p) ((facts k s.0).parent_in_tree p e)))
      k
      (l, u)
    where
      differs : (k : ℕ) → is_free (b.state k) ≡ false → k ≡ n → ⊥
      differs k u q = clash (is_free (b.state n)) free (rw q at u)

  pub open_top_heir : (n k : ℕ) → is_free (b.state n) ≡ true → k < sh.actions → is_free (b.state k) ≡ false → heir sh (effect sh b (open_top n)) k ≡ heir sh b k
  unfolding effect
  open_top_heir n k free = heir_other n (effect sh b (open_top n)) free (λ k ne. rw (ne_eqb k n ne)) (λ k ne. refl) k

  pub open_sub_heir : (n p k : ℕ) → is_free (b.state n) ≡ true → k < sh.actions → is_free (b.state k) ≡ false → heir sh (effect sh b (open_sub n p)) k ≡ heir sh b k
  unfolding effect
  open_sub_heir n p k free =
      heir_other n (effect sh b (open_sub n p)) free (λ k ne. rw (ne_eqb k n ne)) (λ k ne. rw (ne_eqb k n ne)) k

  pub ask_heir : (m a i k : ℕ) → heir sh (effect sh b (ask m a i)) k ≡ heir sh b k
  unfolding effect heir
  ask_heir m a i k = refl

  -- ---- abort, and commit of a top

  -- Where the parent of a number that stays stays, a number that stays keeps its heir.
  pub without_heir : (gone : ℕ → Bool) → ((k p : ℕ) → k < sh.actions → b.parent k ≡ some p → gone k ≡ false → gone p ≡ false) → (k : ℕ) → k < sh.actions → gone k ≡ false → heir sh (without gone b) k ≡ heir sh b k
  without_heir gone closed k l g =
      heir_kept sh b (without gone b) (λ k. (k < sh.actions) × (gone k ≡ false)) (λ k s. rw s.1) (λ k s. rw s.1)
      (λ k p s e. ((facts k s.0).parent_known p e, closed k p s.0 e s.1))
      k
      (l, g)

  -- who drains is in no running action's family
  pub drains_outside : (a k h : ℕ) → is_running (b.state a) ≡ true → k < sh.actions → head_of (b.state k) ≡ some h → in_family sh b a k ≡ false
  drains_outside a k h runs l e =
      refuted (in_family sh b a k) (λ t. none-ne-some h (sym (family_headless sh b ok a k l runs t) ∙ e))

  -- The heir of a number in use is in the family of a running action exactly if the number is.
  pub family_heir : (a : ℕ) → is_running (b.state a) ≡ true → (k : ℕ) → k < sh.actions → is_free (b.state k) ≡ false → (h : ℕ) → heir sh b k ≡ some h → in_family sh b a h ≡ in_family sh b a k
  family_heir a runs k l u h is =
      by_parent (head_of (b.state k)) (λ e. in_tree_lem k l (in_use_tree (b.state k) u e) h is)
      (λ x e. let d = (facts k l).drains x e in
      let same : x ≡ h = some-injective x h (sym (heir_drains sh b ok k x e) ∙ is) in
      rw (← same) (drains_outside a x x runs d.head_known (under_head b x x d.head_drains) ∙ sym (drains_outside a k x runs l e)))
    where
      itself : (k : ℕ) → k < sh.actions → is_running (b.state k) ≡ true → (h : ℕ) → heir sh b k ≡ some h → in_family sh b a h ≡ in_family sh b a k
      itself k l r h is = let own = heir_runs sh b ok k l r in ap (in_family sh b a) (some-injective h k (sym is ∙ own))

      in_tree_lem : (k : ℕ) → k < sh.actions → in_tree (b.state k) ≡ true → (h : ℕ) → heir sh b k ≡ some h → in_family sh b a h ≡ in_family sh b a k
      in_tree_lem =
          climb sh b ok (λ k. in_tree (b.state k) ≡ true → (h : ℕ) → heir sh b k ≡ some h → in_family sh b a h ≡ in_family sh b a k)
          (λ k l e u. itself k l ((facts k l).top_runs u e))
          (λ k p l lp e above u h is. by_bool (is_running (b.state k)) (λ r. itself k l r h is)
          (λ r. above ((facts k l).parent_in_tree p e) h (sym (heir_up sh b ok k p l r e) ∙ is)
          ∙ sym (rw (family_child sh b ok a k p l e, ne_eqb k a (λ q. clash (is_running (b.state a)) runs (rw q at r))))))

  -- ---- an abort that drains

  -- All of the family have the aborted action for their heir.
  pub aborted_heir : (a k : ℕ) → in_family sh b a k ≡ true → heir sh (drained a (in_family sh b a) b) k ≡ some a
  unfolding heir
  aborted_heir a k t = rw t

  -- Others keep theirs.
  pub drained_heir : (a k : ℕ) → k < sh.actions → in_family sh b a k ≡ false → heir sh (drained a (in_family sh b a) b) k ≡ heir sh b k
  drained_heir a k l g =
      heir_kept sh b (drained a (in_family sh b a) b) (λ k. (k < sh.actions) × (in_family sh b a k ≡ false)) (λ k s. rw s.1) (λ k s. rw s.1)
      (λ k p s e. ((facts k s.0).parent_known p e, family_closed sh b ok a k p s.0 e s.1))
      k
      (l, g)

  -- ---- commit of a sub

  -- a parent is another number
  parent_differs : (a p : ℕ) → a < sh.actions → b.parent a ≡ some p → eqb p a ≡ false
  parent_differs a p l e =
      ne_eqb p a
      (λ q. clash (is_ancestor sh b a a) (ancestor_up sh b ok a a p l e ∙ or_left (eqb p a) (is_ancestor sh b a p) (eq-eqb p a q))
      (ancestor_irrefl sh b ok a l))

  -- What a was the heir of has p for its heir once a, a sub under p, is committed; other heirs stay.
  pub commit_heir : (a p : ℕ) → row sh b (commit a) ≡ 0 → b.parent a ≡ some p → (x : ℕ) → x < sh.actions → is_free (b.state x) ≡ false → heir sh (effect sh b (commit a)) x ≡ handed a p (heir sh b x)
  commit_heir a p given e x l u = ap (λ c. heir sh c x) whole ∙ after x l u
    where
      next : Bench
      next = with_committed a b

      whole : effect sh b (commit a) ≡ next
      whole = commit_sub sh b a p e

      next_ok : sound sh next ≡ true
      next_ok = sym (ap (sound sh) whole) ∙ effect_keeps_sound sh b ok (granted sh b) (commit a) given

      acts : Commits sh b a
      acts = accepted (granted sh b) sh b (commit a) given

      -- a running number other than a is its own heir, before and after
      itself : (x : ℕ) → x < sh.actions → eqb x a ≡ false → is_running (b.state x) ≡ true → heir sh next x ≡ handed a p (heir sh b x)
      itself x l t r = heir_runs sh next next_ok x l (rw t r) ∙ sym (rw (heir_runs sh b ok x l r, t))

      -- a itself hands all to its parent
      mine : heir sh next a ≡ handed a p (heir sh b a)
      mine =
          let lp = (facts a acts.known).parent_known p e in
          let rp = (facts a acts.known).parent_runs acts.runs p e in
          heir_up sh next next_ok a p acts.known (rw (eq-eqb a a refl)) e
          ∙ heir_runs sh next next_ok p lp (rw (parent_differs a p acts.known e) rp)
          ∙ sym (rw (heir_runs sh b ok a acts.known acts.runs, eq-eqb a a refl))

      -- who drains is no heir of a's
      drains : (x h : ℕ) → x < sh.actions → head_of (b.state x) ≡ some h → heir sh next x ≡ handed a p (heir sh b x)
      drains x h l t =
          let is = heir_drains sh b ok x h t in
          let rests : (k : ℕ) → head_of (b.state k) ≡ some h → eqb k a ≡ false = λ k own.
          ne_eqb k a (λ q. none-ne-some h (sym (tree_headless (b.state a) (runs_in_tree (b.state a) acts.runs)) ∙ rw q at own)) in
          heir_drains sh next next_ok x h (rw (rests x t) t)
          ∙ sym (rw (is, rests h (under_head b h h ((facts x l).drains h t).head_drains)))

      in_tree_lem : (x : ℕ) → x < sh.actions → in_tree (b.state x) ≡ true → heir sh next x ≡ handed a p (heir sh b x)
      in_tree_lem =
          climb sh b ok (λ x. in_tree (b.state x) ≡ true → heir sh next x ≡ handed a p (heir sh b x))
          (λ x l top u. by_bool (eqb x a) (λ t. rw (eqb-true x a t) mine) (λ t. itself x l t ((facts x l).top_runs u top)))
          (λ x q l lq up above u. by_bool (eqb x a) (λ t. rw (eqb-true x a t) mine)
          (λ t. by_bool (is_running (b.state x)) (itself x l t)
          (λ r. heir_up sh next next_ok x q l (rw t r) up
          ∙ above ((facts x l).parent_in_tree q up)
          ∙ sym (ap (handed a p) (heir_up sh b ok x q l r up)))))

      after : (x : ℕ) → x < sh.actions → is_free (b.state x) ≡ false → heir sh next x ≡ handed a p (heir sh b x)
      after x l u = by_parent (head_of (b.state x)) (λ e. in_tree_lem x l (in_use_tree (b.state x) u e)) (λ h e. drains x h l e)
