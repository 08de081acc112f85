-- A test of all numbers, or of any number, below a bound: word by word it is the test number by number, and inclusion and meeting of sets of several words
-- are such tests. Once for every function that tests so, whatever way it goes through the numbers. Assumes nothing.
use Rattle.std.proofs.Common.{◌≡◌, ℕ, ◌+◌, ◌*◌, ◌<◌, Bool, true, ◌&&◌, List}
use lib.Arith.{digits_lt}
use Rattle.sets.specs.Words.{Fits, member_at, within_words, meet_words}
use Rattle.sets.proofs.Laws.{same_tests}
use Rattle.sets.proofs.WordPlaces.{by_words}
use Rattle.sets.proofs.WordTests.{and_parts, within_words_at, within_words_by, meet_words_common, meet_words_by}

-- `every` tests all numbers below a bound
module _ (every : ℕ → (ℕ → Bool) → Bool)
    (every_at : (n : ℕ) (f : ℕ → Bool) → every n f ≡ true → (k : ℕ) → k < n → f k ≡ true)
    (every_by : (n : ℕ) (f : ℕ → Bool) → ((k : ℕ) → k < n → f k ≡ true) → every n f ≡ true) where
  pub every_word : (width n : ℕ) (f : ℕ → Bool) → every n (λ j. every width (λ i. f (j * width + i))) ≡ every (n * width) f
  every_word width n f =
      let word : ℕ → Bool = λ j. every width (λ i. f (j * width + i)) in
      same_tests (every n word) (every (n * width) f)
      (λ h. every_by (n * width) f
      (by_words (λ k. f k ≡ true) width n (λ j i hj hi. every_at width (λ i. f (j * width + i)) (every_at n word h j hj) i hi)))
      (λ h. every_by n word
      (λ j hj. every_by width (λ i. f (j * width + i)) (λ i hi. every_at (n * width) f h (j * width + i) (digits_lt hj hi))))

  -- `implied` holds of a number just where it is a member of the second set, if it is one of the first
  pub within_words_every : (width n : ℕ) (l : List ℕ) (at : ℕ) (l' : List ℕ) (at' : ℕ) → Fits width l → Fits width l' → (implied : ℕ → Bool) →
      ((k : ℕ) → implied k ≡ true → member_at width l at k ≡ true → member_at width l' at' k ≡ true) →
      ((k : ℕ) → (member_at width l at k ≡ true → member_at width l' at' k ≡ true) → implied k ≡ true) →
      within_words n l at l' at' ≡ every (n * width) implied
  within_words_every width n l at l' at' fits fits' implied there back =
      same_tests (within_words n l at l' at') (every (n * width) implied)
      (λ h. every_by (n * width) implied (λ k below. back k (within_words_at width n l at l' at' h k below)))
      (λ h. within_words_by width n l at l' at' fits fits' (λ k below. there k (every_at (n * width) implied h k below)))

-- `some` tests whether there is one below a bound
module _ (some : ℕ → (ℕ → Bool) → Bool)
    (some_at : (n : ℕ) (f : ℕ → Bool) → some n f ≡ true → (k : ℕ) × (k < n) × (f k ≡ true))
    (some_by : (n : ℕ) (f : ℕ → Bool) (k : ℕ) → k < n → f k ≡ true → some n f ≡ true) where
  pub some_word : (width n : ℕ) (f : ℕ → Bool) → some n (λ j. some width (λ i. f (j * width + i))) ≡ some (n * width) f
  some_word width n f =
      let word : ℕ → Bool = λ j. some width (λ i. f (j * width + i)) in
      same_tests (some n word) (some (n * width) f)
      (λ h.
      let found = some_at n word h in
      let digit = some_at width (λ i. f (found.0 * width + i)) found.2 in
      some_by (n * width) f (found.0 * width + digit.0) (digits_lt found.1 digit.1) digit.2)
      (λ h.
      let found = some_at (n * width) f h in
      by_words (λ k. f k ≡ true → some n word ≡ true) width n
      (λ j i hj hi here. some_by n word j hj (some_by width (λ i. f (j * width + i)) i hi here)) found.0 found.1 found.2)

  pub meet_words_some : (width n : ℕ) (l : List ℕ) (at : ℕ) (l' : List ℕ) (at' : ℕ) → Fits width l →
      meet_words n l at l' at' ≡ some (n * width) (λ k. member_at width l at k && member_at width l' at' k)
  meet_words_some width n l at l' at' fits =
      let common : ℕ → Bool = λ k. member_at width l at k && member_at width l' at' k in
      same_tests (meet_words n l at l' at') (some (n * width) common)
      (λ h. let found = meet_words_common width n l at l' at' fits h in some_by (n * width) common found.0 found.1 found.2)
      (λ h.
      let found = some_at (n * width) common h in
      let both = and_parts (member_at width l at found.0) (member_at width l' at' found.0) found.2 in
      meet_words_by width n l at l' at' found.0 found.1 both.0 both.1)
