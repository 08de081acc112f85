-- The members of sets of several words after each operation, once over the number n of words and their width. Assumes nothing.
use Rattle.std.proofs.Common.{◌≡◌, ℕ, ◌+◌, ◌*◌, ◌/◌, ◌%◌, ◌<◌, Bool, false, not, ◌&&◌, ◌||◌, eqb, List, length, get_or, sym, ap, ◌∙◌, mod-lt, zero-add, get_or-set_other, get_or-set_same, eqb-true}
use mathlib.Core.Bool.{or-false, and-true, and_assoc}
use lib.Arith.{digits_mod}
use lib.ListN.{length-replicate, get_or-eq_default}
use borrow.Author.Tests.{eqb-false}
use Rattle.sets.specs.Sets.{member, with, without, union, difference}
use Rattle.sets.specs.Words.{word_at, member_at, changed_at, with_at, without_at, word_by_word, empty_words, single_words, union_words, difference_words, cleared_words}
use Rattle.sets.proofs.Laws.{by_test, member_empty, member_union, member_difference, member_with, member_without}
use Rattle.sets.proofs.WordPlaces.{by_bound, width_some, word_below, number_test, row_test, shifted_test, word_first, word_behind, word_empty}

-- ---- one number more, one number less

-- An operation on the word of k that works by g on membership works so on the sets of a list.
module _ (op : ℕ → ℕ → ℕ) (g : Bool → Bool → Bool) (width : ℕ)
    (works : (s j i : ℕ) → j < width → member (op s j) i ≡ g (member s i) (eqb i j))
    (keeps : (t : Bool) → g t false ≡ t) where
  -- in the set at at', whether or not it shares words with the one at `at`
  pub member_changed : 0 < width → (l : List ℕ) (at k at' j : ℕ) → at + k / width < length l →
      member_at width (changed_at op width l at k) at' j
      ≡ g (member_at width l at' j) (eqb (at' + j / width) (at + k / width) && eqb (j % width) (k % width))
  unfolding member_at
  member_changed some l at k at' j h =
      let new = op (word_at l at (k / width)) (k % width) in
      by_test (eqb (at' + j / width) (at + k / width))
      (λ e. rw (e, eqb-true (at' + j / width) (at + k / width) e, get_or-set_same l (at + k / width) new 0 h)
      (works (word_at l at (k / width)) (k % width) (j % width) (mod-lt k some)))
      (λ e. rw (e, get_or-set_other l (at + k / width) (at' + j / width) new 0 (eqb-false (at' + j / width) (at + k / width) e))
      (sym (keeps (member (word_at l at' (j / width)) (j % width)))))

  -- in the set at `at` itself
  pub member_changed_at : 0 < width → (l : List ℕ) (at k j : ℕ) → at + k / width < length l →
      member_at width (changed_at op width l at k) at j ≡ g (member_at width l at j) (eqb j k)
  member_changed_at some l at k j h =
      member_changed some l at k at j h
      ∙ ap (g (member_at width l at j)) (ap (λ (t : Bool). t && eqb (j % width) (k % width)) (shifted_test at (j / width) (k / width)) ∙ number_test width j k)

  -- in any set d, where sets of n words stand one behind the other: nothing changes but number k of set c
  pub member_changed_row : (n : ℕ) (l : List ℕ) (c k d j : ℕ) → k < n * width → j < n * width → c * n + k / width < length l →
      member_at width (changed_at op width l (c * n) k) (d * n) j ≡ g (member_at width l (d * n) j) (eqb d c && eqb j k)
  member_changed_row n l c k d j hk hj h =
      member_changed (width_some width n k hk) l (c * n) k (d * n) j h
      ∙ ap (g (member_at width l (d * n) j))
      (ap (λ (t : Bool). t && eqb (j % width) (k % width)) (row_test n d c (j / width) (k / width) (word_below width n j hj) (word_below width n k hk))
      ∙ and_assoc (eqb d c) (eqb (j / width) (k / width)) (eqb (j % width) (k % width))
      ∙ ap (λ (t : Bool). eqb d c && t) (number_test width j k))

-- a number of another word is a member as before, whatever happens to the word of k
pub member_changed_other : (op : ℕ → ℕ → ℕ) (width : ℕ) (l : List ℕ) (at k at' j : ℕ) → (at' + j / width ≡ at + k / width → ⊥) →
    member_at width (changed_at op width l at k) at' j ≡ member_at width l at' j
unfolding member_at
member_changed_other op width l at k at' j apart =
    rw (get_or-set_other l (at + k / width) (at' + j / width) (op (word_at l at (k / width)) (k % width)) 0 apart)

-- with k and without k: in the same set (-at), in any set of a row of sets (-row), at the place of another word (-other)

pub member_with_at : (width : ℕ) → 0 < width → (l : List ℕ) (at k j : ℕ) → at + k / width < length l →
    member_at width (with_at width l at k) at j ≡ (member_at width l at j || eqb j k)
unfolding with_at
member_with_at width = member_changed_at (with width) ◌||◌ width (member_with width) or-false

pub member_with_row : (width n : ℕ) (l : List ℕ) (c k d j : ℕ) → k < n * width → j < n * width → c * n + k / width < length l →
    member_at width (with_at width l (c * n) k) (d * n) j ≡ (member_at width l (d * n) j || (eqb d c && eqb j k))
unfolding with_at
member_with_row width = member_changed_row (with width) ◌||◌ width (member_with width) or-false

pub member_with_other : (width : ℕ) (l : List ℕ) (at k at' j : ℕ) → (at' + j / width ≡ at + k / width → ⊥) →
    member_at width (with_at width l at k) at' j ≡ member_at width l at' j
unfolding with_at
member_with_other width = member_changed_other (with width) width

pub member_without_at : (width : ℕ) → 0 < width → (l : List ℕ) (at k j : ℕ) → at + k / width < length l →
    member_at width (without_at width l at k) at j ≡ (member_at width l at j && not (eqb j k))
unfolding without_at
member_without_at width = member_changed_at (without width) (λ t u. t && not u) width (member_without width) and-true

pub member_without_row : (width n : ℕ) (l : List ℕ) (c k d j : ℕ) → k < n * width → j < n * width → c * n + k / width < length l →
    member_at width (without_at width l (c * n) k) (d * n) j ≡ (member_at width l (d * n) j && not (eqb d c && eqb j k))
unfolding without_at
member_without_row width = member_changed_row (without width) (λ t u. t && not u) width (member_without width) and-true

pub member_without_other : (width : ℕ) (l : List ℕ) (at k at' j : ℕ) → (at' + j / width ≡ at + k / width → ⊥) →
    member_at width (without_at width l at k) at' j ≡ member_at width l at' j
unfolding without_at
member_without_other width = member_changed_other (without width) width

-- ---- whole sets

pub member_empty_words : (width n at k : ℕ) → member_at width (empty_words n) at k ≡ false
unfolding member_at
member_empty_words width n at k = rw (word_empty n (at + k / width)) (member_empty (k % width))

pub member_single_words : (width n k j : ℕ) → k < n * width → member_at width (single_words width n k) 0 j ≡ eqb j k
unfolding single_words
member_single_words width n k j h =
    member_with_at width (width_some width n k h) (empty_words n) 0 k j (rw (length-replicate, zero-add) (word_below width n k h))
    ∙ ap (λ (t : Bool). t || eqb j k) (member_empty_words width n 0 j)

module _ (width n : ℕ) (l : List ℕ) (at : ℕ) (l' : List ℕ) (at' k : ℕ) (h : k < n * width) where
  -- an operation on words that works by g on membership works so on sets of n words
  pub member_word_by_word : (op : ℕ → ℕ → ℕ) (g : Bool → Bool → Bool) → ((s t i : ℕ) → member (op s t) i ≡ g (member s i) (member t i)) →
      member_at width (word_by_word op n l at l' at') 0 k ≡ g (member_at width l at k) (member_at width l' at' k)
  unfolding member_at
  member_word_by_word op g works =
      rw (zero-add, word_first n (λ j. op (word_at l at j) (word_at l' at' j)) (k / width) (word_below width n k h))
      (works (word_at l at (k / width)) (word_at l' at' (k / width)) (k % width))

  pub member_union_words : member_at width (union_words n l at l' at') 0 k ≡ (member_at width l at k || member_at width l' at' k)
  unfolding union_words
  member_union_words = member_word_by_word union ◌||◌ member_union

  pub member_difference_words : member_at width (difference_words n l at l' at') 0 k ≡ (member_at width l at k && not (member_at width l' at' k))
  unfolding difference_words
  member_difference_words = member_word_by_word difference (λ t u. t && not u) member_difference

-- every set c of the list has lost the numbers of the one set, and no others
pub member_cleared_words : (width n : ℕ) (l l' : List ℕ) (at' c k : ℕ) → k < n * width →
    member_at width (cleared_words n l l' at') (c * n) k ≡ (member_at width l (c * n) k && not (member_at width l' at' k))
unfolding member_at cleared_words
member_cleared_words width n l l' at' c k h =
    let place = c * n + k / width in
    let word : ℕ → ℕ = λ p. difference (get_or l p 0) (word_at l' at' (p % n)) in
    by_bound place (length l)
    (λ inside. rw (word_first (length l) word place inside, digits_mod c (word_below width n k h))
    (member_difference (get_or l place 0) (word_at l' at' (k / width)) (k % width)))
    (λ behind. rw (word_behind (length l) word place behind, get_or-eq_default l 0 behind, member_empty))
