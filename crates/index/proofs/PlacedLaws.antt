-- Places and groups are kept: what each request stores covers again where numbers stand, and has again the groups that it knows. Assumes nothing.
use Rattle.std.specs.Prelude.{if◌then◌else◌}
use mathlib.Core.Path.{◌≡◌, refl, sym, ◌∙◌, ap}
use mathlib.Core.Bool.{Bool, true, ◌||◌}
use mathlib.Core.List.{List}
use Prim.Native.Nat.{ℕ, ◌+◌, ◌-◌, ◌%◌, ◌<◌}
use native.Mathlib.Omega.{arith}
use borrow.Author.Tests.{eqb-true, eqb-false, eq-eqb, ne_eqb, le-leb, leb-true}
use lib.Dec.{eqb, leb}
use lib.ListN.{length, get_or, set, length-set}
use lib.Seq.{get_or-set_same, get_or-set_other}
use Rattle.sets.specs.Sets.{member, with}
use Rattle.sets.proofs.Laws.{member_with}
use Rattle.rules.proofs.Tests.{by_bool, by_or, clash, or_left, or_right}
use Rattle.steps.specs.Changes.{joined_at, group_in}
use Rattle.steps.proofs.Gathered.{set_fits}
use Rattle.index.specs.Places.{group_at, places_at, keeper, Placed}
use Rattle.index.specs.Kept.{grouped}
use Rattle.index.proofs.Walks.{set_at, set_same}
use Rattle.index.proofs.SoundBytes.{SoundBytes}

-- ---- keepers and groups by their bytes

module _ (states : List ℕ) (k : ℕ) where
  pub keeper_low : get_or states k 0 < 3 → keeper states k ≡ k
  keeper_low low = by_bool (leb 3 (get_or states k 0)) (λ t. absurd (let high = leb-true 3 (get_or states k 0) t in omega arith)) (λ t. rw t)

  pub keeper_high : (h : ℕ) → get_or states k 0 ≡ 3 + h → keeper states k ≡ h
  keeper_high h e = let back : 3 + h - 3 ≡ h = omega arith in rw (e, le-leb 3 (3 + h) (omega arith)) back

  -- who is not a, and doesn't drain under a, has another keeper
  pub keeper_apart : (a : ℕ) → (k ≡ a → ⊥) → (get_or states k 0 ≡ 3 + a → ⊥) → keeper states k ≡ a → ⊥
  keeper_apart a other loose e =
      by_bool (leb 3 (get_or states k 0))
      (λ t. let high = leb-true 3 (get_or states k 0) t in let same : get_or states k 0 - 3 ≡ a = rw t at e in loose (omega arith))
      (λ t. other (rw t at e))

  pub keeper_same : (states' : List ℕ) → get_or states' k 0 ≡ get_or states k 0 → keeper states' k ≡ keeper states k
  keeper_same states' e = ap (λ byte. if leb 3 byte then byte - 3 else k) e

pub group_same : (states states' : List ℕ) (h : ℕ) →
    ((k : ℕ) → k < 64 → eqb (get_or states' k 0) (3 + h % 64) ≡ eqb (get_or states k 0) (3 + h % 64)) → group_in states' h ≡ group_in states h
group_same states states' h each =
    let test : ℕ → Bool = λ k. eqb (get_or states k 0) (3 + h % 64) in
    let test' : ℕ → Bool = λ k. eqb (get_or states' k 0) (3 + h % 64) in
    set_same test (group_in states' h) (set_fits test' 64) (λ k l. set_at test' k l ∙ each k l)

-- ---- stores elsewhere in the index

-- the same groups and places
pub record SameBeyond (index index' : List ℕ) : Type 0 where
  pub same_groups : (k : ℕ) → group_at index' k ≡ group_at index k
  pub same_places : (k : ℕ) → places_at index' k ≡ places_at index k

pub beyond_set : (index : List ℕ) (n v : ℕ) → n < 129 → SameBeyond index (set index n v)
beyond_set index n v low =
    record {
      same_groups = λ k. get_or-set_other index n (129 + k) v 0 (λ e. absurd (omega arith));
      same_places = λ k. get_or-set_other index n (193 + k) v 0 (λ e. absurd (omega arith));
    }

pub beyond_twice : {index index' index'' : List ℕ} → SameBeyond index index' → SameBeyond index' index'' → SameBeyond index index''
beyond_twice one two =
    record { same_groups = λ k. two.same_groups k ∙ one.same_groups k; same_places = λ k. two.same_places k ∙ one.same_places k }

pub beyond_placed : {states owners index index' : List ℕ} → SameBeyond index index' → Placed states owners index → Placed states owners index'
beyond_placed {states} same h =
    record {
      covers = λ k word lk lw m. rw (same.same_places (keeper states k)) (h.covers k word lk lw m);
      groups = λ k l e known. same.same_groups k ∙ h.groups k l e (λ u. known (same.same_groups k ∙ u));
    }

-- ---- the index with the group of a and its places

module _ (index : List ℕ) (long : length index ≡ 257) (a : ℕ) (known : a < 64) (group places : ℕ) where
  abbrev with_group : List ℕ
  with_group = set index (129 + a) group

  pub own_group : group_at (grouped a group places index) a ≡ group
  own_group =
      get_or-set_other with_group (193 + a) (129 + a) places 0 (λ e. absurd (omega arith))
      ∙ get_or-set_same index (129 + a) group 0 (rw long (omega arith))

  pub own_places : places_at (grouped a group places index) a ≡ places
  own_places = get_or-set_same with_group (193 + a) places 0 (rw (length-set index (129 + a) group, long) (omega arith))

  pub other_group : (k : ℕ) → k < 64 → (k ≡ a → ⊥) → group_at (grouped a group places index) k ≡ group_at index k
  other_group k l other =
      get_or-set_other with_group (193 + a) (129 + k) places 0 (λ e. absurd (omega arith))
      ∙ get_or-set_other index (129 + a) (129 + k) group 0 (λ e. other (omega arith))

  pub other_places : (k : ℕ) → (k ≡ a → ⊥) → places_at (grouped a group places index) k ≡ places_at index k
  other_places k other =
      get_or-set_other with_group (193 + a) (193 + k) places 0 (λ e. other (omega arith))
      ∙ get_or-set_other index (129 + a) (193 + k) group 0 (λ e. absurd (omega arith))

-- ---- requests

module _ {states owners index : List ℕ} (ok : SoundBytes states owners) (long : length index ≡ 257) (h : Placed states owners index) where
  -- who is not a and has a for its keeper drains under a, and so does a
  loose : (k a : ℕ) → k < 64 → (k ≡ a → ⊥) → (get_or states a 0 ≡ 3 + a → ⊥) → keeper states k ≡ a → ⊥
  loose k a l other rests = keeper_apart states k a other (λ e. rests (ok.head_drains k a l e))

  -- a joins a set, and the place of the set joins the places of a
  module _ (a at place : ℕ) (known : a < 64) (inside : at < 256) (here : at % 64 ≡ place) (runs : get_or states a 0 ≡ 1) where
    abbrev joined : ℕ
    joined = with 64 (places_at index a) place

    abbrev joined_index : List ℕ
    joined_index = set index (193 + a) joined

    own_joined : places_at joined_index a ≡ joined
    own_joined = get_or-set_same index (193 + a) joined 0 (rw long (omega arith))

    joined_has : (p : ℕ) → member joined p ≡ (member (places_at index a) p || eqb p place)
    joined_has p = member_with 64 (places_at index a) place p (rw (sym here) (omega arith))

    grows : (q p : ℕ) → member (places_at index q) p ≡ true → member (places_at joined_index q) p ≡ true
    grows q p m =
        by_bool (eqb q a)
        (λ e. let same = eqb-true q a e in
        rw (same, own_joined) (joined_has p ∙ or_left (member (places_at index a) p) (eqb p place) (rw same at m)))
        (λ e. let other = eqb-false q a e in
        rw (get_or-set_other index (193 + a) (193 + q) joined 0 (λ u. other (omega arith))) m)

    joins : member (places_at joined_index (keeper states a)) (at % 64) ≡ true
    joins =
        rw (keeper_low states a (rw runs (omega arith)), own_joined, here)
        (joined_has place ∙ or_right (member (places_at index a) place) (eqb place place) (eq-eqb place place refl))

    pub asked_placed : Placed states (joined_at owners at a) joined_index
    asked_placed =
        record {
          covers = λ k word lk lw m.
              by_bool (eqb word at)
              (λ e. let same = eqb-true word at e in
              let stood : member (with 64 (get_or owners at 0) a) k ≡ true =
              rw (same, get_or-set_same owners at (with 64 (get_or owners at 0) a) 0 (rw ok.owners_long inside)) at m in
              by_or (member (get_or owners at 0) k) (eqb k a) (sym (member_with 64 (get_or owners at 0) a k known) ∙ stood)
              (λ old. rw same (grows (keeper states k) (at % 64) (h.covers k at lk inside old)))
              (λ new. rw (same, eqb-true k a new) joins))
              (λ e. grows (keeper states k) (word % 64)
              (h.covers k word lk lw (rw (get_or-set_other owners at word (with 64 (get_or owners at 0) a) 0 (eqb-false word at e)) at m)));
          groups = λ k l e known.
              let same : group_at joined_index k ≡ group_at index k = get_or-set_other index (193 + a) (129 + k) joined 0 (λ u. absurd (omega arith)) in
              same ∙ h.groups k l e (λ u. known (same ∙ u));
        }

  -- n opens: it was free, and stood nowhere
  pub opened_placed : (n : ℕ) → n < 64 → get_or states n 0 ≡ 0 → Placed (set states n 1) owners (set index (193 + n) 0)
  opened_placed n known free =
      record {
        covers = λ k word lk lw m.
            by_bool (eqb k n)
            (λ e. let same = eqb-true k n e in clash (member (get_or owners word 0) k) m (rw same (ok.free_nowhere n word known lw free)))
            (λ e. let other = eqb-false k n e in
            rw (
              keeper_same states k (set states n 1) (get_or-set_other states n k 1 0 other),
              get_or-set_other index (193 + n) (193 + keeper states k) 0 0 (λ u. loose k n lk other (λ v. absurd (omega arith)) (omega arith)),
            )
            (h.covers k word lk lw m));
        groups = λ k l e known.
            let same : group_at (set index (193 + n) 0) k ≡ group_at index k = get_or-set_other index (193 + n) (129 + k) 0 0 (λ u. absurd (omega arith)) in
            by_bool (eqb k n)
            (λ t. absurd (let one : get_or (set states n 1) n 0 ≡ 1 = running in let three : get_or (set states n 1) n 0 ≡ 3 + n = rw (eqb-true k n t) at e in omega arith))
            (λ t. let other = eqb-false k n t in
            let was : get_or states k 0 ≡ 3 + k = sym (get_or-set_other states n k 1 0 other) ∙ e in
            same ∙ h.groups k l was (λ u. known (same ∙ u)) ∙ sym (group_same states (set states n 1) k (λ j lj. each k j)));
      }
    where
      running : get_or (set states n 1) n 0 ≡ 1
      running = get_or-set_same states n 1 0 (rw ok.states_long known)

      each : (k j : ℕ) → eqb (get_or (set states n 1) j 0) (3 + k % 64) ≡ eqb (get_or states j 0) (3 + k % 64)
      each k j =
          by_bool (eqb j n)
          (λ t. rw (eqb-true j n t, running, free, ne_eqb 1 (3 + k % 64) (λ u. absurd (omega arith)), ne_eqb 0 (3 + k % 64) (λ u. absurd (omega arith))))
          (λ t. rw (get_or-set_other states n j 1 0 (eqb-false j n t)))

  -- x is committed under its parent
  pub committed_placed : (x : ℕ) → x < 64 → get_or states x 0 ≡ 1 → Placed (set states x 2) owners index
  committed_placed x known runs =
      record {
        covers = λ k word lk lw m. rw (same_keeper k) (h.covers k word lk lw m);
        groups = λ k l e u.
            by_bool (eqb k x)
            (λ t. absurd (let two : get_or (set states x 2) x 0 ≡ 2 = now_two in let three : get_or (set states x 2) x 0 ≡ 3 + x = rw (eqb-true k x t) at e in omega arith))
            (λ t. let was : get_or states k 0 ≡ 3 + k = sym (get_or-set_other states x k 2 0 (eqb-false k x t)) ∙ e in
            h.groups k l was u ∙ sym (group_same states (set states x 2) k (λ j lj. each k j)));
      }
    where
      now_two : get_or (set states x 2) x 0 ≡ 2
      now_two = get_or-set_same states x 2 0 (rw ok.states_long known)

      same_keeper : (k : ℕ) → keeper (set states x 2) k ≡ keeper states k
      same_keeper k =
          by_bool (eqb k x)
          (λ t. rw (eqb-true k x t) (keeper_low (set states x 2) x (rw now_two (omega arith)) ∙ sym (keeper_low states x (rw runs (omega arith)))))
          (λ t. keeper_same states k (set states x 2) (get_or-set_other states x k 2 0 (eqb-false k x t)))

      each : (k j : ℕ) → eqb (get_or (set states x 2) j 0) (3 + k % 64) ≡ eqb (get_or states j 0) (3 + k % 64)
      each k j =
          by_bool (eqb j x)
          (λ t. rw (eqb-true j x t, now_two, runs, ne_eqb 2 (3 + k % 64) (λ u. absurd (omega arith)), ne_eqb 1 (3 + k % 64) (λ u. absurd (omega arith))))
          (λ t. rw (get_or-set_other states x j 2 0 (eqb-false j x t)))
