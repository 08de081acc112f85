-- How owners change with each accepted request on a sound bench. Committing a sub changes no owner set, yet what it owned its parent owns from then on.
use mathlib.Core.Path.{◌≡◌, refl, sym, ◌∙◌, ap}
use mathlib.Core.Bool.{Bool, true, false, not, ◌&&◌, ◌||◌}
use mathlib.Core.Option.{some, some-injective}
use Prim.Native.Nat.{ℕ, ◌<◌}
use lib.Dec.{eqb}
use borrow.Author.Tests.{eqb-true, eq-eqb, not-true}
use Rattle.rules.specs.Tests.{from}
use Rattle.rules.specs.Bench.{Shape, Bench, is_free, is_running}
use Rattle.rules.specs.Owners.{in_family, heir, is_owner, granted}
use Rattle.rules.specs.Sound.{sound}
use Rattle.rules.specs.Requests.{ask, commit, without, effect}
use Rattle.rules.specs.Answers.{row}
use Rattle.rules.proofs.Tests.{by_bool, and_left, and_right, and_both, by_or, or_left, or_right, same, any_cong}
use Rattle.rules.proofs.Walks.{heir_runs, heir_found}
use Rattle.rules.proofs.Accepted.{Asks, accepted}
use Rattle.rules.proofs.Kept.{Leaves, without_keeps, family_leaves, effect_keeps_sound}
use Rattle.rules.proofs.SetForm.{standing_in_use, heir_owner, owner_heir}
use Rattle.rules.proofs.HeirChanges.{handed, ask_heir, without_heir, family_heir, commit_sub, commit_heir}

-- Committing a subaction changes no owner set.
pub commit_changes_no_set : (sh : Shape) (b : Bench) (a p : ℕ) → b.parent a ≡ some p → (effect sh b (commit a)).stands ≡ b.stands
commit_changes_no_set sh b a p e = ap (λ c. c.stands) (commit_sub sh b a p e)

module _ (sh : Shape) (b : Bench) (ok : sound sh b ≡ true) where
  -- Where the sets stay, and the heirs of all numbers in use, the owners stay.
  pub owners_kept : (next : Bench) → next.stands ≡ b.stands → ((k : ℕ) → k < sh.actions → is_free (b.state k) ≡ false → heir sh next k ≡ heir sh b k) → (m i h : ℕ) → m < sh.modes → i < sh.instruments → is_owner sh next m i h ≡ is_owner sh b m i h
  unfolding is_owner
  owners_kept next sets heirs m i h lm li =
      any_cong sh.actions (λ k. next.stands m i k && from (heir sh next k) false (λ x. eqb x h))
      (λ k. b.stands m i k && from (heir sh b k) false (λ x. eqb x h))
      (λ k l. ap (λ f. f m i k && from (heir sh next k) false (λ x. eqb x h)) sets
      ∙ by_bool (b.stands m i k) (λ s. rw (s, heirs k l (standing_in_use sh b ok m i k lm li l s))) (λ s. rw s))

  -- the asker owns what it asked for
  pub ask_owners : (m a i : ℕ) → row sh b (ask m a i) ≡ 0 → (held at h : ℕ) → is_owner sh (effect sh b (ask m a i)) held at h ≡ (is_owner sh b held at h || (eqb held m && eqb at i && eqb h a))
  unfolding effect
  ask_owners m a i given held at h =
      same (is_owner sh next held at h) (is_owner sh b held at h || asked h)
      (λ o. let t = owner_heir sh next next_ok held at h o in
      let k = t.0 in
      let is : heir sh b k ≡ some h = sym (ask_heir sh b ok m a i k) ∙ t.3 in
      by_or (b.stands held at k) (asked k) t.2
      (λ s. or_left (is_owner sh b held at h) (asked h) (heir_owner sh b ok held at k h t.1 s is))
      (λ s. or_right (is_owner sh b held at h) (asked h) (rw (← asker k h s is) s)))
      (λ o. by_or (is_owner sh b held at h) (asked h) o
      (λ s. let t = owner_heir sh b ok held at h s in
      heir_owner sh next next_ok held at t.0 h t.1 (or_left (b.stands held at t.0) (asked t.0) t.2) (ask_heir sh b ok m a i t.0 ∙ t.3))
      (λ s. let q : h ≡ a = eqb-true h a (and_right (eqb held m && eqb at i) (eqb h a) s) in
      heir_owner sh next next_ok held at a h acts.known (or_right (b.stands held at a) (asked a) (rw q at s))
      (ask_heir sh b ok m a i a ∙ own ∙ ap some (sym q))))
    where
      next : Bench
      next = effect sh b (ask m a i)

      next_ok : sound sh next ≡ true
      next_ok = effect_keeps_sound sh b ok (granted sh b) (ask m a i) given

      acts : Asks (granted sh b) sh b m a i
      acts = accepted (granted sh b) sh b (ask m a i) given

      asked : ℕ → Bool
      asked k = eqb held m && eqb at i && eqb k a

      own : heir sh b a ≡ some a
      own = heir_runs sh b ok a acts.known acts.runs

      -- the number that the request adds is its own heir
      asker : (k h : ℕ) → asked k ≡ true → heir sh b k ≡ some h → k ≡ h
      asker k h s is =
          let q : k ≡ a = eqb-true k a (and_right (eqb held m && eqb at i) (eqb k a) s) in
          some-injective k h (ap some q ∙ sym own ∙ ap (heir sh b) (sym q) ∙ is)

  -- Numbers that leave own nothing through their heirs, and all others own what they did, where a number in a set and its heir leave or stay together:
  -- `out` tells of the heirs.
  pub leaving_owners : (gone out : ℕ → Bool) → Leaves sh b ok gone → ((k h : ℕ) → k < sh.actions → is_free (b.state k) ≡ false → heir sh b k ≡ some h → out h ≡ gone k) → (m i h : ℕ) → m < sh.modes → i < sh.instruments → is_owner sh (without gone b) m i h ≡ (is_owner sh b m i h && not (out h))
  leaving_owners gone out leaves together m i h lm li =
      same (is_owner sh next m i h) (is_owner sh b m i h && not (out h))
      (λ o. let t = owner_heir sh next next_ok m i h o in
      let k = t.0 in
      let s = and_left (b.stands m i k) (not (gone k)) t.2 in
      let stays = not-true (gone k) (and_right (b.stands m i k) (not (gone k)) t.2) in
      let is = sym (kept k t.1 stays) ∙ t.3 in
      and_both (is_owner sh b m i h) (not (out h)) (heir_owner sh b ok m i k h t.1 s is) (rw (alike k t.1 s is, stays)))
      (λ o. let t = owner_heir sh b ok m i h (and_left (is_owner sh b m i h) (not (out h)) o) in
      let k = t.0 in
      let stays = sym (alike k t.1 t.2 t.3) ∙ not-true (out h) (and_right (is_owner sh b m i h) (not (out h)) o) in
      heir_owner sh next next_ok m i k h t.1 (rw (t.2, stays)) (kept k t.1 stays ∙ t.3))
    where
      next : Bench
      next = without gone b

      next_ok : sound sh next ≡ true
      next_ok = without_keeps sh b ok gone leaves

      kept : (k : ℕ) → k < sh.actions → gone k ≡ false → heir sh next k ≡ heir sh b k
      kept = without_heir sh b ok gone leaves.parent_stays

      alike : (k : ℕ) → k < sh.actions → b.stands m i k ≡ true → heir sh b k ≡ some h → out h ≡ gone k
      alike k l s is = together k h l (standing_in_use sh b ok m i k lm li l s) is

  -- a family that leaves owns nothing, and all others own what they did
  pub without_owners : (a : ℕ) → is_running (b.state a) ≡ true → (m i h : ℕ) → m < sh.modes → i < sh.instruments → is_owner sh (without (in_family sh b a) b) m i h ≡ (is_owner sh b m i h && not (in_family sh b a h))
  without_owners a runs =
      leaving_owners (in_family sh b a) (in_family sh b a) (family_leaves sh b ok a runs) (λ k h l u. family_heir sh b ok a runs k l u h)

  -- Yet the locks of a committed subaction count as its parent's: it owns nothing, and its parent owns what it did.
  pub commit_counts_as_parents : (a p : ℕ) → row sh b (commit a) ≡ 0 → b.parent a ≡ some p → (m i h : ℕ) → m < sh.modes → i < sh.instruments → h < sh.actions → is_owner sh (effect sh b (commit a)) m i h ≡ ((is_owner sh b m i h && not (eqb h a)) || (eqb h p && is_owner sh b m i a))
  commit_counts_as_parents a p given e m i h lm li lh =
      same (is_owner sh next m i h) (stays || inherits) (λ o. forth (owner_heir sh next next_ok m i h o))
      (λ o. by_or stays inherits o
      (λ s. back h (and_left (is_owner sh b m i h) (not (eqb h a)) s)
      (rw (not-true (eqb h a) (and_right (is_owner sh b m i h) (not (eqb h a)) s))))
      (λ s. back a (and_right (eqb h p) (is_owner sh b m i a) s)
      (rw (eq-eqb a a refl) (ap some (sym (eqb-true h p (and_left (eqb h p) (is_owner sh b m i a) s)))))))
    where
      next : Bench
      next = effect sh b (commit a)

      next_ok : sound sh next ≡ true
      next_ok = effect_keeps_sound sh b ok (granted sh b) (commit a) given

      stays : Bool
      stays = is_owner sh b m i h && not (eqb h a)

      inherits : Bool
      inherits = eqb h p && is_owner sh b m i a

      sets : (k : ℕ) → next.stands m i k ≡ b.stands m i k
      sets k = ap (λ f. f m i k) (commit_changes_no_set sh b a p e)

      heirs : (k : ℕ) → k < sh.actions → b.stands m i k ≡ true → heir sh next k ≡ handed a p (heir sh b k)
      heirs k l s = commit_heir sh b ok a p given e k l (standing_in_use sh b ok m i k lm li l s)

      -- an owner before gives one after
      back : (x : ℕ) → is_owner sh b m i x ≡ true → handed a p (some x) ≡ some h → is_owner sh next m i h ≡ true
      back x o is =
          let t = owner_heir sh b ok m i x o in
          let k = t.0 in
          heir_owner sh next next_ok m i k h t.1 (sets k ∙ t.2) (heirs k t.1 t.2 ∙ ap (handed a p) t.3 ∙ is)

      forth : (k : ℕ) × (k < sh.actions) × (next.stands m i k ≡ true) × (heir sh next k ≡ some h) → (stays || inherits) ≡ true
      forth t =
          let k = t.0 in
          let s : b.stands m i k ≡ true = sym (sets k) ∙ t.2 in
          let found = heir_found sh b ok k t.1 (standing_in_use sh b ok m i k lm li t.1 s) in
          let x = found.0 in
          let owns = heir_owner sh b ok m i k x t.1 s found.1 in
          let is : handed a p (some x) ≡ some h = sym (heirs k t.1 s ∙ ap (handed a p) found.1) ∙ t.3 in
          by_bool (eqb x a)
          (λ q. or_right stays inherits
          (and_both (eqb h p) (is_owner sh b m i a) (eq-eqb h p (sym (some-injective p h (rw q at is)))) (rw (eqb-true x a q) at owns)))
          (λ q. let y : x ≡ h = some-injective x h (rw q at is) in or_left stays inherits (rw (← y, owns, q)))
