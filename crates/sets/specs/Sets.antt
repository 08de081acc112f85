-- A set of numbers is a natural number: k is a member where its k-th binary digit is 1. A machine word of w bits is a set of numbers below w.
use Rattle.std.specs.Prelude.{◌≡◌, Option, MatchOption, ℕ, ◌/◌, ◌%◌, ◌^◌, Bool, cond, not, ◌==◌, bit_and, bit_or, bit_xor, nat_lt}
use Rattle.std.specs.Int.Count.{count_trailing_zeros}

-- k is a member of s
unfoldable pub member : ℕ → ℕ → Bool
member s k = s / 2 ^ k % 2 == 1

-- the set of k alone
unfoldable pub single : ℕ → ℕ
single k = 2 ^ k

-- the numbers of s and those of t
unfoldable pub union : ℕ → ℕ → ℕ
union s t = bit_or s t

-- the numbers of s that are not in t
unfoldable pub difference : ℕ → ℕ → ℕ
difference s t = bit_xor s (bit_and s t)

-- every number of s is one of t
unfoldable pub within : ℕ → ℕ → Bool
within s t = union s t == t

-- s and t have a number in common
unfoldable pub meet : ℕ → ℕ → Bool
meet s t = not (bit_and s t == 0)

-- s with k, in a word of w bits: k at w or above has no place in it
unfoldable pub with : ℕ → ℕ → ℕ → ℕ
with w s k = cond (nat_lt k w) (union s (single k)) s

-- s without k, in a word of w bits
unfoldable pub without : ℕ → ℕ → ℕ → ℕ
without w s k = cond (nat_lt k w) (difference s (single k)) s

-- the least member of s, and w where a word of w bits has none
unfoldable pub least : ℕ → ℕ → ℕ
least w s = count_trailing_zeros w s

-- the least member of s is taken out and t is left, and nobody is taken out of an empty set
abbrev pub TakesLeast : ℕ → Option ℕ → ℕ → Type 0
TakesLeast s taken t = MatchOption taken ((s ≡ 0) × (t ≡ 0)) (λ k. (s ≡ 0 → ⊥) × (k ≡ least 64 s) × (t ≡ without 64 s k))
