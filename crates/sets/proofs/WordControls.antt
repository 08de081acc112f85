-- Controls of the laws of sets of several words: sets of two words of two bits and of four words of 64 bits computed, and the laws refuted where a bound or
-- a width that they ask for is left out.
use Rattle.std.proofs.Common.{◌≡◌, ℕ, zero, suc, ◌+◌, ◌*◌, ◌/◌, ◌<◌, Bool, true, false, not, ◌&&◌, ◌||◌, eqb, List, [], ◌∷◌, map, length, sym, refl, ◌∙◌, arith}
use mathlib.Core.Bool.{false≢true}
use lib.Count.{count_trailing_zeros}
use Rattle.sets.specs.Sets.{member, single, union, difference, within, meet, with, without, least}
use Rattle.sets.specs.Words.{word_at, member_at, with_at, without_at, first_words, empty_words, single_words}
use Rattle.sets.specs.Words.{union_words, difference_words, cleared_words, within_words, meet_words, least_words}
use Rattle.sets.proofs.WordLaws.{member_empty_words}
use Rattle.sets.proofs.WordTests.{and_parts, each_word}
use Rattle.sets.proofs.WordEvery.{every_word}

-- ---- two words of two bits

-- two sets, one behind the other: the first has the number 3, the second has 0, 2 and 3
pair : List ℕ
pair = 0 ∷ 2 ∷ 1 ∷ 3 ∷ []

-- which of the four numbers are members of the set at `at`
members : List ℕ → ℕ → List Bool
unfolding member_at member
members l at = map (member_at 2 l at) (0 ∷ 1 ∷ 2 ∷ 3 ∷ [])

members_computed : (members pair 0 ≡ false ∷ false ∷ false ∷ true ∷ []) × (members pair 2 ≡ true ∷ false ∷ true ∷ true ∷ [])
unfolding pair members
members_computed = (refl, refl)

changes_computed : (with_at 2 pair 0 0 ≡ 1 ∷ 2 ∷ 1 ∷ 3 ∷ []) × (without_at 2 pair 2 2 ≡ 0 ∷ 2 ∷ 1 ∷ 2 ∷ []) × (single_words 2 2 3 ≡ 0 ∷ 2 ∷ [])
unfolding pair with_at without_at single_words with without union difference single
changes_computed = (refl, refl, refl)

results_computed : (union_words 2 pair 0 pair 2 ≡ 1 ∷ 3 ∷ []) × (difference_words 2 pair 2 pair 0 ≡ 1 ∷ 1 ∷ []) × (cleared_words 2 pair pair 0 ≡ 0 ∷ 0 ∷ 1 ∷ 1 ∷ [])
unfolding pair union_words difference_words cleared_words first_words union difference
results_computed = (refl, refl, refl)

-- inclusion both ways, sets that meet, and sets that don't
tests_computed : (within_words 2 pair 0 pair 2 ≡ true) × (within_words 2 pair 2 pair 0 ≡ false) × (meet_words 2 pair 0 pair 2 ≡ true)
    × (meet_words 2 pair 0 (single_words 2 2 2) 0 ≡ false)
unfolding pair within_words meet_words single_words with_at with single within meet union
tests_computed = (refl, refl, refl, refl)

least_computed : (least_words 2 2 pair 0 ≡ 3) × (least_words 2 2 pair 2 ≡ 0) × (least_words 2 2 (empty_words 2) 0 ≡ 4)
unfolding pair least_words least count_trailing_zeros
least_computed = (refl, refl, refl)

-- ---- four words of 64 bits

-- three sets, and the number 200 in the second
wide : List ℕ
unfolding with_at with union single
wide = with_at 64 (empty_words 12) 4 200

wide_computed : (wide ≡ 0 ∷ 0 ∷ 0 ∷ 0 ∷ 0 ∷ 0 ∷ 0 ∷ 256 ∷ 0 ∷ 0 ∷ 0 ∷ 0 ∷ []) × (map (λ at. member_at 64 wide at 200) (0 ∷ 4 ∷ 8 ∷ []) ≡ false ∷ true ∷ false ∷ [])
unfolding wide member_at member
wide_computed = (refl, refl)

wide_least : map (least_words 64 4 wide) (0 ∷ 4 ∷ 8 ∷ []) ≡ 256 ∷ 200 ∷ 256 ∷ []
unfolding wide least_words least count_trailing_zeros
wide_least = refl

-- ---- every number below a bound, as a test that `every_word` speaks of

every : ℕ → (ℕ → Bool) → Bool
every zero f = true
every (suc n) f = every n f && f n

every_by : (n : ℕ) (f : ℕ → Bool) → ((k : ℕ) → k < n → f k ≡ true) → every n f ≡ true
unfolding every
every_by zero f h = refl
every_by (suc n) f h = rw (every_by n f (λ k l. h k (omega arith)), h n (omega arith))

every_number : (width n : ℕ) (f : ℕ → Bool) → every n (λ j. every width (λ i. f (j * width + i))) ≡ every (n * width) f
unfolding every
every_number = every_word every (λ n f. each_word (λ n. every n f) f true (λ n. and_parts (every n f) (f n)) n) every_by

-- ---- what a law asks for is needed

-- Number 4 of the first set of two words of two bits is number 0 of the second: sets one behind the other spill without the bound on k.
with_row_spills : ((width n : ℕ) (l : List ℕ) (c k d j : ℕ) → j < n * width → c * n + k / width < length l →
    member_at width (with_at width l (c * n) k) (d * n) j ≡ (member_at width l (d * n) j || (eqb d c && eqb j k))) → ⊥
unfolding member_at with_at with union single member
with_row_spills law = false≢true (sym (law 2 2 (empty_words 4) 0 4 1 0 (omega arith) (omega arith)))

-- Behind the list's end no number is put in.
with_behind_the_list : ((width : ℕ) → 0 < width → (l : List ℕ) (at k j : ℕ) → member_at width (with_at width l at k) at j ≡ (member_at width l at j || eqb j k)) → ⊥
unfolding member_at with_at member
with_behind_the_list law = false≢true (law 2 (omega arith) [] 0 0 0)

-- A union of one word has no number of the second word.
union_spills : ((width n : ℕ) (l : List ℕ) (at : ℕ) (l' : List ℕ) (at' k : ℕ) →
    member_at width (union_words n l at l' at') 0 k ≡ (member_at width l at k || member_at width l' at' k)) → ⊥
unfolding pair member_at union_words first_words union member
union_spills law = false≢true (law 2 1 pair 0 pair 0 3)

-- Number 2 of a set of one word is taken out where number 0 of the one set is, whatever number 2 of that is.
cleared_spills : ((width n : ℕ) (l l' : List ℕ) (at' c k : ℕ) →
    member_at width (cleared_words n l l' at') (c * n) k ≡ (member_at width l (c * n) k && not (member_at width l' at' k))) → ⊥
unfolding member_at cleared_words first_words difference member
cleared_spills law = false≢true (law 2 1 (0 ∷ 1 ∷ []) (1 ∷ []) 0 0 2)

-- Inclusion of one word says nothing of the next.
within_spills : ((width n : ℕ) (l : List ℕ) (at : ℕ) (l' : List ℕ) (at' : ℕ) → within_words n l at l' at' ≡ true →
    (k : ℕ) → member_at width l at k ≡ true → member_at width l' at' k ≡ true) → ⊥
unfolding pair member_at within_words within union member
within_spills law = false≢true (law 2 1 pair 0 [] 0 refl 3 refl)

-- The least member of a set without members is none: it is the first number of the set behind.
least_spills : ((width : ℕ) (l : List ℕ) (at n : ℕ) → member_at width l at (least_words width n l at) ≡ true) → ⊥
unfolding member_at least_words least count_trailing_zeros member
least_spills law = false≢true (law 2 (empty_words 4) 0 2)

-- The word 4 has no member below 2, and yet isn't the empty word of two bits. Where words needn't fit their width,
unfit : List ℕ
unfit = 4 ∷ []

unfit_members : (k : ℕ) → k < 1 * 2 → member_at 2 unfit 0 k ≡ false
unfolding unfit member_at member
unfit_members zero h = refl
unfit_members (suc zero) h = refl
unfit_members (suc (suc k)) h = absurd (omega arith)

-- the same members don't make the same words,
same_words_unfit : ((width n : ℕ) (l : List ℕ) (at : ℕ) (l' : List ℕ) (at' : ℕ) →
    ((k : ℕ) → k < n * width → member_at width l at k ≡ member_at width l' at' k) → (j : ℕ) → j < n → word_at l at j ≡ word_at l' at' j) → ⊥
unfolding unfit
same_words_unfit law =
    let same : word_at unfit 0 0 ≡ word_at (empty_words 1) 0 0 = law 2 1 unfit 0 (empty_words 1) 0 (λ k h. unfit_members k h ∙ sym (member_empty_words 2 1 0 k)) 0 (omega arith) in
    omega arith

-- a set isn't within another though each of its members is,
within_unfit : ((width n : ℕ) (l : List ℕ) (at : ℕ) (l' : List ℕ) (at' : ℕ) →
    ((k : ℕ) → k < n * width → member_at width l at k ≡ true → member_at width l' at' k ≡ true) → within_words n l at l' at' ≡ true) → ⊥
unfolding unfit within_words within union
within_unfit law = false≢true (law 2 1 unfit 0 (empty_words 1) 0 (λ k h m. absurd (false≢true (sym (unfit_members k h) ∙ m))))

-- and sets meet that have no member in common.
meet_unfit : ((width n : ℕ) (l : List ℕ) (at : ℕ) (l' : List ℕ) (at' : ℕ) → meet_words n l at l' at' ≡ true →
    (k : ℕ) × (k < n * width) × ((member_at width l at k && member_at width l' at' k) ≡ true)) → ⊥
unfolding unfit meet_words meet
meet_unfit law =
    let found = law 2 1 unfit 0 unfit 0 refl in
    false≢true (sym (unfit_members found.0 found.1) ∙ (and_parts (member_at 2 unfit 0 found.0) (member_at 2 unfit 0 found.0) found.2).0)
