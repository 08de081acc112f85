-- One word is the instance n = 1 of a set of several words: there each operation is that of specs/Sets, at every width, so at 64 too. Assumes nothing.
use Rattle.std.proofs.Common.{◌≡◌, ℕ, ◌<◌, List, [], ◌∷◌, get_or, set, add-zero, mod-eq_of_lt, zero-add, zero-mul}
use native.Mathlib.Nat.{div-eq_of_lt}
use Rattle.sets.specs.Sets.{member, with, without, union, difference, within, meet, least}
use Rattle.sets.specs.Words.{member_at, with_at, without_at, first_words, union_words, difference_words, within_words, meet_words, least_words}

module _ (width : ℕ) (l : List ℕ) (at k : ℕ) (h : k < width) where
  pub one_word_member : member_at width l at k ≡ member (get_or l at 0) k
  unfolding member_at
  one_word_member = rw (div-eq_of_lt h, mod-eq_of_lt h, add-zero)

  pub one_word_with : with_at width l at k ≡ set l at (with width (get_or l at 0) k)
  unfolding with_at
  one_word_with = rw (div-eq_of_lt h, mod-eq_of_lt h, add-zero)

  pub one_word_without : without_at width l at k ≡ set l at (without width (get_or l at 0) k)
  unfolding without_at
  one_word_without = rw (div-eq_of_lt h, mod-eq_of_lt h, add-zero)

module _ (l : List ℕ) (at : ℕ) (l' : List ℕ) (at' : ℕ) where
  pub one_word_union : union_words 1 l at l' at' ≡ union (get_or l at 0) (get_or l' at' 0) ∷ []
  unfolding union_words first_words
  one_word_union = simp add-zero

  pub one_word_difference : difference_words 1 l at l' at' ≡ difference (get_or l at 0) (get_or l' at' 0) ∷ []
  unfolding difference_words first_words
  one_word_difference = simp add-zero

  pub one_word_within : within_words 1 l at l' at' ≡ within (get_or l at 0) (get_or l' at' 0)
  unfolding within_words
  one_word_within = simp add-zero

  pub one_word_meet : meet_words 1 l at l' at' ≡ meet (get_or l at 0) (get_or l' at' 0)
  unfolding meet_words
  one_word_meet = simp add-zero

pub one_word_least : (width : ℕ) (l : List ℕ) (at : ℕ) → least_words width 1 l at ≡ least width (get_or l at 0)
unfolding least_words
one_word_least width l at = simp (zero-mul, zero-add, add-zero)
