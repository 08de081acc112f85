-- Walks over places and numbers, from the least on: what is left to walk gives what all would have given. Assumes nothing.
use mathlib.Core.Path.{◌≡◌, sym, ◌∙◌, ap}
use mathlib.Core.Bool.{Bool, true, false, not, ◌&&◌, ◌||◌, and-true, and-false, or-false}
use mathlib.Core.List.{List}
use Prim.Native.Nat.{ℕ, suc, ◌<◌, ◌^◌}
use native.Mathlib.Omega.{arith}
use borrow.Author.Tests.{eqb-true, eqb-false, ltb-true, ltb-false, lt-ltb}
use lib.Dec.{eqb, ltb}
use Rattle.sets.specs.Sets.{member, union, least}
use Rattle.sets.proofs.Laws.{member_empty, member_union, same_members, least_first, least_member}
use Rattle.rules.specs.Tests.{any}
use Rattle.rules.proofs.Tests.{by_bool, clash, refuted, and_left, and_right, and_both, any_at, any_by, any_cong}
use Rattle.tables.proofs.Taken.{Taken}
use Rattle.tables.proofs.Members.{some_of_nobody, some_joined}
use Rattle.steps.specs.Changes.{set_of}
use Rattle.steps.proofs.Gathered.{set_fits, set_members}
use Rattle.index.specs.Places.{places_at, places_of, stand_in_place, still_in}

-- a set of numbers below 64, by its members
pub set_at : (test : ℕ → Bool) (k : ℕ) → k < 64 → member (set_of 64 test) k ≡ test k
set_at test k l = set_members test 64 (omega arith) k ∙ rw (lt-ltb k 64 l)

pub set_same : (test : ℕ → Bool) (s : ℕ) → s < 2 ^ 64 → ((k : ℕ) → k < 64 → member s k ≡ test k) → s ≡ set_of 64 test
set_same test s fits each = same_members 64 s (set_of 64 test) fits (set_fits test 64) (λ k l. each k l ∙ sym (set_at test k l))

-- ---- places at which one of the numbers stands still

module _ (owners : List ℕ) (numbers : ℕ) where
  -- a place of a set at which one of the numbers stands
  abbrev hit : ℕ → ℕ → Bool
  hit s place = member s place && stand_in_place owners numbers place

  abbrev from_hit : ℕ → ℕ → Bool
  from_hit s place = member s place && any (suc place) (hit s)

  pub still_fits : (s : ℕ) → still_in owners numbers s < 2 ^ 64
  still_fits s = set_fits (from_hit s) 64

  -- the place that is taken is no hit
  module _ (s k rest : ℕ) (t : Taken 64 s k rest) (first : k ≡ least 64 s) (miss : stand_in_place owners numbers k ≡ false) where
    same_hits : (place : ℕ) → hit rest place ≡ hit s place
    same_hits place =
        rw (t.members place)
        (by_bool (eqb place k) (λ e. rw (eqb-true place k e, miss, and-false (member s k), and-false (member s k && not (eqb k k))))
        (λ e. rw (e, and-true (member s place))))

    -- up to it there is none
    none_to : any (suc k) (hit s) ≡ false
    none_to =
        refuted (any (suc k) (hit s))
        (λ found. let at = any_at (suc k) (hit s) found in
        let place = at.0 in
        let was = and_left (member s place) (stand_in_place owners numbers place) at.2 in
        let stands = and_right (member s place) (stand_in_place owners numbers place) at.2 in
        by_bool (eqb place k) (λ e. clash (stand_in_place owners numbers k) (rw (eqb-true place k e) at stands) miss)
        (λ e. let other = eqb-false place k e in
        let below = at.1 in
        let under : place < least 64 s = rw (sym first) (omega arith) in
        clash (member s place) was (least_first 64 s place under)))

    same_from : (place : ℕ) → from_hit rest place ≡ from_hit s place
    same_from place =
        rw (any_cong (suc place) (hit rest) (hit s) (λ i l. same_hits i), t.members place)
        (by_bool (eqb place k) (λ e. rw (eqb-true place k e, none_to, and-false (member s k), and-false (member s k && not (eqb k k))))
        (λ e. rw (e, and-true (member s place))))

    pub still_turn : still_in owners numbers rest ≡ still_in owners numbers s
    still_turn = set_same (from_hit s) (still_in owners numbers rest) (still_fits rest) (λ place l. set_at (from_hit rest) place l ∙ same_from place)

  pub still_none : (s : ℕ) → s ≡ 0 → 0 ≡ still_in owners numbers s
  still_none s e = set_same (from_hit s) 0 (omega arith) (λ place l. rw (e, member_empty place))

  pub still_hit : (s : ℕ) → s < 2 ^ 64 → (s ≡ 0 → ⊥) → stand_in_place owners numbers (least 64 s) ≡ true → s ≡ still_in owners numbers s
  still_hit s fits more stands =
      set_same (from_hit s) s fits
      (λ place l. by_bool (member s place)
      (λ m. rw (m, any_by (suc place) (hit s) (least 64 s) (above place m) (and_both (member s (least 64 s)) (stand_in_place owners numbers (least 64 s)) (least_member 64 s fits more) stands)))
      (λ m. rw m))
    where
      above : (place : ℕ) → member s place ≡ true → least 64 s < suc place
      above place m =
          by_bool (ltb place (least 64 s)) (λ under. clash (member s place) m (least_first 64 s place (ltb-true place (least 64 s) under)))
          (λ over. let l = ltb-false place (least 64 s) over in omega arith)

  -- what is left has each place at which one of the numbers stands
  pub still_has : (s place : ℕ) → place < 64 → member s place ≡ true → stand_in_place owners numbers place ≡ true → member (still_in owners numbers s) place ≡ true
  still_has s place l m stands =
      set_at (from_hit s) place l
      ∙ and_both (member s place) (any (suc place) (hit s)) m
      (any_by (suc place) (hit s) place (omega arith) (and_both (member s place) (stand_in_place owners numbers place) m stands))

  -- and where it has a place at all, one of the numbers stands at some place
  pub still_stands : (s place : ℕ) → place < 64 → member (still_in owners numbers s) place ≡ true → (at : ℕ) × (at < 64) × (stand_in_place owners numbers at ≡ true)
  still_stands s place l m =
      let from = and_right (member s place) (any (suc place) (hit s)) (sym (set_at (from_hit s) place l) ∙ m) in
      let found = any_at (suc place) (hit s) from in
      let below = found.1 in
      (found.0, omega arith, and_right (member s found.0) (stand_in_place owners numbers found.0) found.2)

-- ---- the places of numbers

module _ (index : List ℕ) where
  abbrev reach : ℕ → ℕ → Bool
  reach numbers place = any 64 (λ k. member numbers k && member (places_at index k) place)

  -- Places that were joined, and numbers whose places are to be: all the places of `numbers`.
  pub record Joining (numbers places rest : ℕ) : Type 0 where
    pub fits : places < 2 ^ 64
    pub rest_fits : rest < 2 ^ 64
    pub each : (place : ℕ) → (member places place || reach rest place) ≡ reach numbers place

  pub joining_start : (numbers : ℕ) → numbers < 2 ^ 64 → Joining numbers 0 numbers
  joining_start numbers fits = record { fits = omega arith; rest_fits = fits; each = λ place. rw (member_empty place) }

  pub joining_turn : (numbers places rest k next joined : ℕ) → Joining numbers places rest → Taken 64 rest k next → joined < 2 ^ 64 → joined ≡ union places (places_at index k) →
      Joining numbers joined next
  joining_turn numbers places rest k next joined h t fits e =
      record {
        fits = fits;
        rest_fits = t.fits;
        each = λ place.
            rw (e, member_union places (places_at index k) place)
            (some_joined 64 rest k next (λ j. member (places_at index j) place) t (member places place) ∙ h.each place);
      }

  pub joining_end : (numbers places rest : ℕ) → Joining numbers places rest → rest ≡ 0 → places ≡ places_of index numbers
  joining_end numbers places rest h e =
      set_same (reach numbers) places h.fits
      (λ place l. sym (or-false (member places place)) ∙ ap (λ t. member places place || t) (sym (rw e (some_of_nobody 64 (λ j. member (places_at index j) place)))) ∙ h.each place)

  -- they have the places of each of the numbers
  pub places_have : (numbers k place : ℕ) → k < 64 → place < 64 → member numbers k ≡ true → member (places_at index k) place ≡ true → member (places_of index numbers) place ≡ true
  places_have numbers k place lk l mk mp =
      set_at (reach numbers) place l
      ∙ any_by 64 (λ j. member numbers j && member (places_at index j) place) k lk (and_both (member numbers k) (member (places_at index k) place) mk mp)
