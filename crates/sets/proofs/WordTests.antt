-- Tests of sets of several words: inclusion, meeting, and the least member, word by word and number by number. Assumes nothing.
use Rattle.std.proofs.Common.{◌≡◌, ℕ, zero, suc, ◌+◌, ◌-◌, ◌*◌, ◌/◌, ◌%◌, ◌<◌, ◌≤◌, Bool, true, false, ◌&&◌, ◌||◌, eqb, List, sym, refl, ◌∙◌, suc-mul, zero-mul, arith, le-ltb, lt-ltb, eqb-true}
use mathlib.Core.Bool.{false≢true}
use lib.Arith.{digits_lt}
use lib.Count.{count_trailing_zeros}
use borrow.Author.Tests.{eqb-false}
use Rattle.sets.specs.Sets.{member, within, meet, least}
use Rattle.sets.specs.Words.{word_at, Fits, member_at, within_words, meet_words, least_words}
use Rattle.sets.proofs.Laws.{by_test, member_suc, within_at, within_by, meet_common, apart_at, least_step, least_first}
use Rattle.sets.proofs.WordPlaces.{by_bound, word_below, member_place}

-- ---- inclusion and meeting, word by word

pub and_parts : (t u : Bool) → (t && u) ≡ true → (t ≡ true) × (u ≡ true)
and_parts true u h = (refl, h)
and_parts false u h = absurd (false≢true h)

pub or_parts : (t u : Bool) → (t || u) ≡ false → (t ≡ false) × (u ≡ false)
or_parts true u h = absurd (false≢true (sym h))
or_parts false u h = (refl, h)

-- a result that comes about only where the words before gave it and the last word gives it, comes from every word
pub each_word : (result word : ℕ → Bool) (r : Bool) → ((n : ℕ) → result (suc n) ≡ r → (result n ≡ r) × (word n ≡ r)) →
    (n : ℕ) → result n ≡ r → (j : ℕ) → j < n → word j ≡ r
each_word result word r parts zero h j below = absurd (omega arith)
each_word result word r parts (suc n) h j below =
    by_test (eqb j n)
    (λ e. rw (eqb-true j n e) (parts n h).1)
    (λ e. let other = eqb-false j n e in each_word result word r parts n (parts n h).0 j (omega arith))

module _ (l : List ℕ) (at : ℕ) (l' : List ℕ) (at' : ℕ) where
  pub within_word : (n : ℕ) → within_words n l at l' at' ≡ true → (j : ℕ) → j < n → within (word_at l at j) (word_at l' at' j) ≡ true
  unfolding within_words
  within_word =
      each_word (λ n. within_words n l at l' at') (λ j. within (word_at l at j) (word_at l' at' j)) true
      (λ n. and_parts (within_words n l at l' at') (within (word_at l at n) (word_at l' at' n)))

  pub words_within : (n : ℕ) → ((j : ℕ) → j < n → within (word_at l at j) (word_at l' at' j) ≡ true) → within_words n l at l' at' ≡ true
  unfolding within_words
  words_within zero each = refl
  words_within (suc n) each = rw (words_within n (λ j h. each j (omega arith)), each n (omega arith))

  pub meet_word : (n : ℕ) → meet_words n l at l' at' ≡ true → (j : ℕ) × (j < n) × (meet (word_at l at j) (word_at l' at' j) ≡ true)
  unfolding meet_words
  meet_word zero h = absurd (false≢true h)
  meet_word (suc n) h =
      by_test (meet_words n l at l' at')
      (λ e. let found = meet_word n e in (found.0, (let below = found.1 in omega arith), found.2))
      (λ e. (n, omega arith, rw e at h))

  pub apart_word : (n : ℕ) → meet_words n l at l' at' ≡ false → (j : ℕ) → j < n → meet (word_at l at j) (word_at l' at' j) ≡ false
  unfolding meet_words
  apart_word =
      each_word (λ n. meet_words n l at l' at') (λ j. meet (word_at l at j) (word_at l' at' j)) false
      (λ n. or_parts (meet_words n l at l' at') (meet (word_at l at n) (word_at l' at' n)))

-- ---- inclusion and meeting, number by number

module _ (width n : ℕ) (l : List ℕ) (at : ℕ) (l' : List ℕ) (at' : ℕ) where
  -- within: every member of the first set is one of the second
  pub within_words_at : within_words n l at l' at' ≡ true → (k : ℕ) → k < n * width → member_at width l at k ≡ true → member_at width l' at' k ≡ true
  unfolding member_at
  within_words_at h k below =
      within_at (word_at l at (k / width)) (word_at l' at' (k / width)) (within_word l at l' at' n h (k / width) (word_below width n k below)) (k % width)

  pub within_words_by : Fits width l → Fits width l' →
      ((k : ℕ) → k < n * width → member_at width l at k ≡ true → member_at width l' at' k ≡ true) → within_words n l at l' at' ≡ true
  within_words_by fits fits' each =
      words_within l at l' at' n
      (λ j hj. within_by width (word_at l at j) (word_at l' at' j) (fits (at + j)) (fits' (at' + j))
      (λ i hi m. sym (member_place width l' at' j i hi) ∙ each (j * width + i) (digits_lt hj hi) (member_place width l at j i hi ∙ m)))

  -- meet: some number is a member of both
  pub meet_words_common : Fits width l → meet_words n l at l' at' ≡ true →
      (k : ℕ) × (k < n * width) × ((member_at width l at k && member_at width l' at' k) ≡ true)
  meet_words_common fits h =
      let found = meet_word l at l' at' n h in
      let j = found.0 in
      let common = meet_common width (word_at l at j) (word_at l' at' j) (fits (at + j)) found.2 in
      let i = common.0 in (
        j * width + i,
        digits_lt found.1 common.1,
        rw (member_place width l at j i common.1, member_place width l' at' j i common.1) common.2,
      )

  pub apart_words_at : meet_words n l at l' at' ≡ false → (k : ℕ) → k < n * width → (member_at width l at k && member_at width l' at' k) ≡ false
  unfolding member_at
  apart_words_at h k below =
      apart_at (word_at l at (k / width)) (word_at l' at' (k / width)) (apart_word l at l' at' n h (k / width) (word_below width n k below)) (k % width)

  pub meet_words_by : (k : ℕ) → k < n * width → member_at width l at k ≡ true → member_at width l' at' k ≡ true → meet_words n l at l' at' ≡ true
  meet_words_by k below m m' =
      by_test (meet_words n l at l' at') (λ e. e)
      (λ e. let none : true ≡ false = rw (m, m') at (apart_words_at e k below) in absurd (false≢true (sym none)))

-- ---- the least member

-- of one word of any contents: within the width, and below the width a member
pub least_within : (w s : ℕ) → least w s ≤ w
unfolding least count_trailing_zeros
least_within zero s = omega arith
least_within (suc w) s = rw least_step (by_test (member s 0) (λ e. rw e (omega arith)) (λ e. rw e (omega (arith, least_within w (s / 2)))))

pub least_found : (w s : ℕ) → least w s < w → member s (least w s) ≡ true
least_found zero s h = absurd (omega arith)
least_found (suc w) s h =
    by_test (member s 0)
    (λ e. rw (least_step, e) e)
    (λ e. let below : suc (least w (s / 2)) < suc w = rw (least_step, e) at h in
    rw (least_step, e, member_suc) (least_found w (s / 2) (omega arith)))

module _ (width : ℕ) (l : List ℕ) (at : ℕ) where
  -- among n words and one more: found before, or else the least of the last word
  pub least_words_before : (n : ℕ) → least_words width n l at < n * width → least_words width (suc n) l at ≡ least_words width n l at
  unfolding least_words
  least_words_before n h = rw (lt-ltb (least_words width n l at) (n * width) h)

  pub least_words_last : (n : ℕ) → n * width ≤ least_words width n l at → least_words width (suc n) l at ≡ n * width + least width (word_at l at n)
  unfolding least_words
  least_words_last n h = rw (le-ltb (least_words width n l at) (n * width) h)

  pub least_words_within : (n : ℕ) → least_words width n l at ≤ n * width
  unfolding least_words
  least_words_within zero = omega arith
  least_words_within (suc n) =
      by_bound (least_words width n l at) (n * width)
      (λ found. rw (least_words_before n found, suc-mul) (omega arith))
      (λ none. rw (least_words_last n none, suc-mul) (omega (arith, least_within width (word_at l at n))))

  -- a least member is a member
  pub least_words_member : (n : ℕ) → least_words width n l at < n * width → member_at width l at (least_words width n l at) ≡ true
  least_words_member zero h = absurd (omega (arith, zero-mul width))
  least_words_member (suc n) h =
      by_bound (least_words width n l at) (n * width)
      (λ found. rw (least_words_before n found) (least_words_member n found))
      (λ none.
      let last : n * width + least width (word_at l at n) < n * width + width = rw (least_words_last n none, suc-mul) at h in
      let inside : least width (word_at l at n) < width = omega arith in
      rw (least_words_last n none, member_place width l at n (least width (word_at l at n)) inside) (least_found width (word_at l at n) inside))

  -- and no number below it is one
  pub least_words_first : (n k : ℕ) → k < least_words width n l at → member_at width l at k ≡ false
  least_words_first zero k h = absurd (omega (arith, least_words_within zero, zero-mul width))
  least_words_first (suc n) k h =
      by_bound (least_words width n l at) (n * width)
      (λ found. least_words_first n k (rw (least_words_before n found) at h))
      (λ none.
      let last : k < n * width + least width (word_at l at n) = rw (least_words_last n none) at h in
      by_bound k (n * width)
      (λ below. least_words_first n k (omega arith))
      (λ above.
      let number : n * width + (k - n * width) ≡ k = omega arith in
      let before : k - n * width < least width (word_at l at n) = omega arith in
      let inside : k - n * width < width = omega (arith, least_within width (word_at l at n)) in
      rw number at (member_place width l at n (k - n * width) inside ∙ least_first width (word_at l at n) (k - n * width) before)))

  -- so it is at most any member, and n * width only where there is none
  pub least_words_least : (n k : ℕ) → member_at width l at k ≡ true → least_words width n l at ≤ k
  least_words_least n k m =
      by_bound k (least_words width n l at)
      (λ below. absurd (false≢true (sym (least_words_first n k below) ∙ m)))
      (λ least. least)

  pub least_words_none : (n : ℕ) → ((k : ℕ) → k < n * width → member_at width l at k ≡ false) → least_words width n l at ≡ n * width
  least_words_none n none =
      by_bound (least_words width n l at) (n * width)
      (λ found. absurd (false≢true (sym (none (least_words width n l at) found) ∙ least_words_member n found)))
      (λ beyond. omega (arith, least_words_within n))
