-- A set of several words of `width` bits each stands in a list of words from a place `at` on: number k is digit k % width of word at + k / width.
-- A list may hold many such sets, one behind the other. The numbers of a set of n words are those below n * width; a number at that bound or above it
-- reaches into the words behind the set.
use Rattle.std.specs.Prelude.{ℕ, zero, suc, ◌+◌, ◌*◌, ◌/◌, ◌%◌, ◌^◌, ◌<◌, Bool, true, false, cond, ◌&&◌, ◌||◌, List, [], ◌∷◌, length, replicate, nat_lt, slice_index, slice_set}
use Rattle.sets.specs.Sets.{member, with, without, union, difference, within, meet, least}

-- ---- one set among others

-- word j of the set at `at`; behind the list's end every word is empty
abbrev pub word_at : List ℕ → ℕ → ℕ → ℕ
word_at l at j = slice_index l (at + j)

-- each word of the list is one of `width` bits
abbrev pub Fits : ℕ → List ℕ → Type 0
Fits width l = (p : ℕ) → slice_index l p < 2 ^ width

-- k is a member of the set at `at`
unfoldable pub member_at : ℕ → List ℕ → ℕ → ℕ → Bool
member_at width l at k = member (word_at l at (k / width)) (k % width)

-- the list, after `op` on the word of the set at `at` that k belongs to, for the digit of k
abbrev pub changed_at : (ℕ → ℕ → ℕ) → ℕ → List ℕ → ℕ → ℕ → List ℕ
changed_at op width l at k = slice_set l (at + k / width) (op (word_at l at (k / width)) (k % width))

-- the list, with k in the set at `at`
unfoldable pub with_at : ℕ → List ℕ → ℕ → ℕ → List ℕ
with_at width l at k = changed_at (with width) width l at k

-- the list, without k in the set at `at`
unfoldable pub without_at : ℕ → List ℕ → ℕ → ℕ → List ℕ
without_at width l at k = changed_at (without width) width l at k

-- ---- whole sets of n words

-- the words f 0 to f (n - 1)
unfoldable pub first_words : ℕ → (ℕ → ℕ) → List ℕ
first_words zero f = []
first_words (suc n) f = let word = f 0 in word ∷ first_words n (λ j. f (suc j))

-- the n words that `op` makes of the set of l at `at` and the set of l' at at', word by word
abbrev pub word_by_word : (ℕ → ℕ → ℕ) → ℕ → List ℕ → ℕ → List ℕ → ℕ → List ℕ
word_by_word op n l at l' at' = first_words n (λ j. op (word_at l at j) (word_at l' at' j))

-- the set of no number
abbrev pub empty_words : ℕ → List ℕ
empty_words n = replicate n 0

-- the set of k alone
unfoldable pub single_words : ℕ → ℕ → ℕ → List ℕ
single_words width n k = with_at width (empty_words n) 0 k

-- the numbers of the set of l at `at` and those of the set of l' at at'
unfoldable pub union_words : ℕ → List ℕ → ℕ → List ℕ → ℕ → List ℕ
union_words n l at l' at' = word_by_word union n l at l' at'

-- the numbers of the set of l at `at` that are not in the set of l' at at'
unfoldable pub difference_words : ℕ → List ℕ → ℕ → List ℕ → ℕ → List ℕ
difference_words n l at l' at' = word_by_word difference n l at l' at'

-- the whole list l, where each of its sets of n words has lost the numbers of the set of l' at at'
unfoldable pub cleared_words : ℕ → List ℕ → List ℕ → ℕ → List ℕ
cleared_words n l l' at' = first_words (length l) (λ p. difference (slice_index l p) (word_at l' at' (p % n)))

-- every number of the set of l at `at` is one of the set of l' at at'
unfoldable pub within_words : ℕ → List ℕ → ℕ → List ℕ → ℕ → Bool
within_words zero l at l' at' = true
within_words (suc n) l at l' at' = within_words n l at l' at' && within (word_at l at n) (word_at l' at' n)

-- the set of l at `at` and the set of l' at at' have a number in common
unfoldable pub meet_words : ℕ → List ℕ → ℕ → List ℕ → ℕ → Bool
meet_words zero l at l' at' = false
meet_words (suc n) l at l' at' = meet_words n l at l' at' || meet (word_at l at n) (word_at l' at' n)

-- the least member of the set of n words at `at`, and n * width where there is none: that of the words below, or else that of the last word
unfoldable pub least_words : ℕ → ℕ → List ℕ → ℕ → ℕ
least_words width zero l at = 0
least_words width (suc n) l at = let below = least_words width n l at in cond (nat_lt below (n * width)) below (n * width + least width (word_at l at n))
