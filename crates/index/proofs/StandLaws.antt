-- Numbers that stand at some places only: they stand in a set where they stand at one of those places, whatever places are looked at besides. Assumes nothing.
use mathlib.Core.Path.{◌≡◌, sym, ◌∙◌}
use mathlib.Core.Bool.{true, false, not, ◌&&◌}
use mathlib.Core.List.{List}
use Prim.Native.Nat.{ℕ, ◌+◌, ◌%◌, ◌<◌, ◌^◌}
use native.Mathlib.Omega.{arith}
use borrow.Author.Tests.{eqb-true, eq-eqb, ltb-true, ltb-false}
use lib.Dec.{eqb, ltb}
use lib.ListN.{length, get_or}
use Rattle.sets.specs.Sets.{member, union, meet, least}
use Rattle.sets.proofs.Laws.{member_empty, member_union, apart_at, meet_common, below_pow, least_inside, least_member}
use Rattle.rules.proofs.Tests.{by_bool, by_or, clash, and_left, and_right, and_both, or_left, or_right, any_at, any_by, same}
use Rattle.steps.specs.Changes.{standing_in, stand_in}
use Rattle.steps.proofs.Standing.{standing_members}
use Rattle.index.specs.Places.{stand_in_place, still_in}
use Rattle.index.specs.Kept.{somewhere}
use Rattle.index.proofs.Walks.{still_fits, still_has, still_stands}

-- a number that two sets have in common
meet_by : (s t k : ℕ) → member s k ≡ true → member t k ≡ true → meet s t ≡ true
meet_by s t k ms mt =
    by_bool (meet s t) (λ m. m) (λ out. clash (member s k && member t k) (and_both (member s k) (member t k) ms mt) (apart_at s t out k))

meet_at : (s t : ℕ) → meet s t ≡ true → (k : ℕ) × (member s k ≡ true) × (member t k ≡ true)
meet_at s t m =
    let found = meet_common s s t (below_pow s) m in
    let k = found.0 in
    (k, and_left (member s k) (member t k) found.2, and_right (member s k) (member t k) found.2)

module _ (owners : List ℕ) (numbers : ℕ) (long : length owners ≡ 256) where
  abbrev readers : ℕ → ℕ
  readers place = union (get_or owners place 0) (get_or owners (64 + place) 0)

  abbrev writers : ℕ → ℕ
  writers place = union (get_or owners (128 + place) 0) (get_or owners (192 + place) 0)

  -- a number that stands in a set stands at the place of the set
  pub place_by : (word k : ℕ) → word < 256 → member (get_or owners word 0) k ≡ true → member numbers k ≡ true → stand_in_place owners numbers (word % 64) ≡ true
  place_by word k l stands one =
      meet_by (union (readers (word % 64)) (writers (word % 64))) numbers k
      (member_union (readers (word % 64)) (writers (word % 64)) k
      ∙ by_bool (ltb word 128)
      (λ t. let below = ltb-true word 128 t in
      or_left (member (readers (word % 64)) k) (member (writers (word % 64)) k)
      (member_union (get_or owners (word % 64) 0) (get_or owners (64 + word % 64) 0) k
      ∙ by_bool (ltb word 64)
      (λ u. let lower = ltb-true word 64 u in
      let same : word % 64 ≡ word = omega arith in
      or_left (member (get_or owners (word % 64) 0) k) (member (get_or owners (64 + word % 64) 0) k) (rw same stands))
      (λ u. let upper = ltb-false word 64 u in
      let same : 64 + word % 64 ≡ word = omega arith in
      or_right (member (get_or owners (word % 64) 0) k) (member (get_or owners (64 + word % 64) 0) k) (rw same stands))))
      (λ t. let above = ltb-false word 128 t in
      or_right (member (readers (word % 64)) k) (member (writers (word % 64)) k)
      (member_union (get_or owners (128 + word % 64) 0) (get_or owners (192 + word % 64) 0) k
      ∙ by_bool (ltb word 192)
      (λ u. let lower = ltb-true word 192 u in
      let same : 128 + word % 64 ≡ word = omega arith in
      or_left (member (get_or owners (128 + word % 64) 0) k) (member (get_or owners (192 + word % 64) 0) k) (rw same stands))
      (λ u. let upper = ltb-false word 192 u in
      let same : 192 + word % 64 ≡ word = omega arith in
      or_right (member (get_or owners (128 + word % 64) 0) k) (member (get_or owners (192 + word % 64) 0) k) (rw same stands)))))
      one

  -- one of the numbers stands in the set of a word
  in_word : (word k : ℕ) → word < 256 → member (get_or owners word 0) k ≡ true → member numbers k ≡ true → stand_in owners numbers ≡ true
  in_word word k l stands one =
      meet_by (standing_in owners) numbers k
      (standing_members owners k ∙ any_by (length owners) (λ i. member (get_or owners i 0) k) word (rw long l) stands)
      one

  -- who stands at a place stands in a set
  in_place : (place : ℕ) → place < 64 → stand_in_place owners numbers place ≡ true → stand_in owners numbers ≡ true
  in_place place l stands =
      let found = meet_at (union (readers place) (writers place)) numbers stands in
      let k = found.0 in
      let one = found.2 in
      by_or (member (readers place) k) (member (writers place) k) (sym (member_union (readers place) (writers place) k) ∙ found.1)
      (λ read. by_or (member (get_or owners place 0) k) (member (get_or owners (64 + place) 0) k) (sym (member_union (get_or owners place 0) (get_or owners (64 + place) 0) k) ∙ read)
      (λ m. in_word place k (omega arith) m one) (λ m. in_word (64 + place) k (omega arith) m one))
      (λ write. by_or (member (get_or owners (128 + place) 0) k) (member (get_or owners (192 + place) 0) k) (sym (member_union (get_or owners (128 + place) 0) (get_or owners (192 + place) 0) k) ∙ write)
      (λ m. in_word (128 + place) k (omega arith) m one) (λ m. in_word (192 + place) k (omega arith) m one))

  -- The places cover the numbers: none of them stands elsewhere.
  abbrev pub Cover : ℕ → Type 0
  Cover places = (word k : ℕ) → word < 256 → member (get_or owners word 0) k ≡ true → member numbers k ≡ true → member places (word % 64) ≡ true

  pub somewhere_stands : (places : ℕ) → Cover places → somewhere (still_in owners numbers places) ≡ stand_in owners numbers
  somewhere_stands places cover =
      same (somewhere still) (stand_in owners numbers)
      (λ some. let more : still ≡ 0 → ⊥ = λ e. clash (eqb still 0) (eq-eqb still 0 e) (eqb_is_false some) in
      let place = least 64 still in
      let found = still_stands owners numbers places place (least_inside 64 still fits more) (least_member 64 still fits more) in
      in_place found.0 found.1 found.2)
      (λ stands. let found = meet_at (standing_in owners) numbers stands in
      let k = found.0 in
      let at = any_at (length owners) (λ i. member (get_or owners i 0) k) (sym (standing_members owners k) ∙ found.1) in
      let word = at.0 in
      let below : word < 256 = (let l = at.1 in omega arith) in
      let left = still_has owners numbers places (word % 64) (omega arith) (cover word k below at.2 found.2) (place_by word k below at.2 found.2) in
      by_bool (eqb still 0) (λ e. clash (member still (word % 64)) left (rw (eqb-true still 0 e) (member_empty (word % 64)))) (λ e. rw e))
    where
      still : ℕ
      still = still_in owners numbers places

      fits : still_in owners numbers places < 2 ^ 64
      fits = still_fits owners numbers places

      eqb_is_false : not (eqb still 0) ≡ true → eqb still 0 ≡ false
      eqb_is_false some = by_bool (eqb still 0) (λ e. clash (not (eqb still 0)) some (rw e)) (λ e. e)
