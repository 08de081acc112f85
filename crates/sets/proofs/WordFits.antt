-- Sets of several words whose words fit their width: each operation keeps them so and keeps the list's length, and sets that have the same members are
-- the same words. Assumes nothing.
use Rattle.std.proofs.Common.{◌≡◌, ℕ, ◌+◌, ◌*◌, ◌/◌, ◌%◌, ◌^◌, ◌<◌, eqb, List, length, get_or, set, sym, ◌∙◌, zero-add, length-set, get_or-set_other, get_or-set_same, ext_get_or, pow_pos, eqb-true}
use lib.Arith.{digits_lt}
use lib.Seq.{set_out}
use borrow.Author.Tests.{eqb-false}
use Rattle.sets.specs.Words.{word_at, Fits, member_at, with_at, without_at, first_words, empty_words, single_words, union_words, difference_words, cleared_words}
use Rattle.sets.proofs.Laws.{by_test, same_members, union_fits, difference_fits, with_fits, without_fits}
use Rattle.sets.proofs.WordPlaces.{by_bound, member_place, length_first, word_first, word_behind, word_empty}

-- ---- what fits goes on to fit

pub set_fits : (width : ℕ) (l : List ℕ) (p s : ℕ) → Fits width l → s < 2 ^ width → Fits width (set l p s)
set_fits width l p s fits h q =
    by_test (eqb q p)
    (λ e. rw (eqb-true q p e)
    (by_bound p (length l)
    (λ inside. rw (get_or-set_same l p s 0 inside) h)
    (λ behind. rw (set_out l p s behind) (fits p))))
    (λ e. rw (get_or-set_other l p q s 0 (eqb-false q p e)) (fits q))

pub first_fits : (width n : ℕ) (f : ℕ → ℕ) → ((j : ℕ) → f j < 2 ^ width) → Fits width (first_words n f)
first_fits width n f h p =
    by_bound p n
    (λ inside. rw (word_first n f p inside) (h p))
    (λ behind. rw (word_behind n f p behind) (pow_pos width))

pub empty_words_fit : (width n : ℕ) → Fits width (empty_words n)
empty_words_fit width n p = rw (word_empty n p) (pow_pos width)

module _ (width : ℕ) (l : List ℕ) (at k : ℕ) where
  pub length_with_at : length (with_at width l at k) ≡ length l
  unfolding with_at
  length_with_at = simp length-set

  pub length_without_at : length (without_at width l at k) ≡ length l
  unfolding without_at
  length_without_at = simp length-set

  pub with_at_fits : Fits width l → Fits width (with_at width l at k)
  unfolding with_at
  with_at_fits fits = set_fits width l (at + k / width) _ fits (with_fits width (word_at l at (k / width)) (k % width) (fits (at + k / width)))

  pub without_at_fits : Fits width l → Fits width (without_at width l at k)
  unfolding without_at
  without_at_fits fits = set_fits width l (at + k / width) _ fits (without_fits width (word_at l at (k / width)) (k % width) (fits (at + k / width)))

pub single_words_fit : (width n k : ℕ) → Fits width (single_words width n k)
unfolding single_words
single_words_fit width n k = with_at_fits width (empty_words n) 0 k (empty_words_fit width n)

module _ (width n : ℕ) (l : List ℕ) (at : ℕ) (l' : List ℕ) (at' : ℕ) where
  pub length_union_words : length (union_words n l at l' at') ≡ n
  unfolding union_words
  length_union_words = length_first n _

  pub length_difference_words : length (difference_words n l at l' at') ≡ n
  unfolding difference_words
  length_difference_words = length_first n _

  pub length_cleared_words : length (cleared_words n l l' at') ≡ length l
  unfolding cleared_words
  length_cleared_words = length_first (length l) _

  pub union_words_fit : Fits width l → Fits width l' → Fits width (union_words n l at l' at')
  unfolding union_words
  union_words_fit fits fits' =
      first_fits width n _ (λ j. union_fits width (word_at l at j) (word_at l' at' j) (fits (at + j)) (fits' (at' + j)))

  pub difference_words_fit : Fits width l → Fits width (difference_words n l at l' at')
  unfolding difference_words
  difference_words_fit fits = first_fits width n _ (λ j. difference_fits width (word_at l at j) (word_at l' at' j) (fits (at + j)))

  pub cleared_words_fit : Fits width l → Fits width (cleared_words n l l' at')
  unfolding cleared_words
  cleared_words_fit fits = first_fits width (length l) _ (λ p. difference_fits width (get_or l p 0) (word_at l' at' (p % n)) (fits p))

  -- ---- the same members, the same words

  pub same_words : Fits width l → Fits width l' → ((k : ℕ) → k < n * width → member_at width l at k ≡ member_at width l' at' k) →
      (j : ℕ) → j < n → word_at l at j ≡ word_at l' at' j
  same_words fits fits' same j h =
      same_members width (word_at l at j) (word_at l' at' j) (fits (at + j)) (fits' (at' + j))
      (λ i below. sym (member_place width l at j i below) ∙ same (j * width + i) (digits_lt h below) ∙ member_place width l' at' j i below)

-- of two lists that are one set of n words each
pub same_lists : (width n : ℕ) (l l' : List ℕ) → length l ≡ n → length l' ≡ n → Fits width l → Fits width l' →
    ((k : ℕ) → k < n * width → member_at width l 0 k ≡ member_at width l' 0 k) → l ≡ l'
same_lists width n l l' long long' fits fits' same =
    ext_get_or 0 l l' (long ∙ sym long')
    (λ j h. simp zero-add at (same_words width n l 0 l' 0 fits fits' same j (rw long at h)))
