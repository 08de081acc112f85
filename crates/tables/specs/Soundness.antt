-- The parts of the soundness test that look at bytes: each number's bytes by themselves, what parents forbid, and the heads of those that drain.
use Rattle.std.specs.Prelude.{Bool, not, ◌&&◌, ◌||◌, List, ℕ, zero, suc, ◌+◌, ◌-◌, eqb, leb, ltb, get_or}
use Rattle.std.specs.Int.Bits.{bit_and}
use Rattle.rules.specs.Tests.{any}

-- The bytes of a number by themselves, p its parent's and s its state's: each means something, a number with no parent isn't committed, and one with a
-- parent is running or committed.
abbrev pub fit : ℕ → ℕ → ℕ → Bool
fit n p s = ltb s (3 + n) && leb p n && (not (eqb p 0) || not (eqb s 2)) && (eqb p 0 || (eqb s 1 || eqb s 2))

-- Number k's bytes fit.
abbrev pub bytes_fit : ℕ → List ℕ → List ℕ → ℕ → Bool
bytes_fit n parents states k = fit n (get_or parents k 0) (get_or states k 0)

-- What a number in state s forbids its children to be: 1 running, 2 committed, 3 both. A free number and one that drains have no children.
abbrev pub forbids_of : ℕ → ℕ
forbids_of zero = 3
forbids_of (suc zero) = 0
forbids_of (suc (suc zero)) = 1
forbids_of (suc (suc (suc h))) = 3

-- A list moved up by one place, with f applied to each element, and 0 at place 0: what parents' bytes are looked up in.
abbrev pub shifted : (ℕ → ℕ) → List ℕ → ℕ → ℕ
shifted f l zero = 0
shifted f l (suc k) = f (get_or l k 0)

-- What the number with parent byte p forbids its children; no parent forbids nothing.
abbrev pub forbidden_under : List ℕ → ℕ → ℕ
forbidden_under states p = shifted forbids_of states p

-- Number k is not what its parent forbids.
abbrev pub permitted : List ℕ → List ℕ → ℕ → Bool
permitted parents states k = eqb (bit_and (forbidden_under states (get_or parents k 0)) (get_or states k 0)) 0

-- One of the numbers that stand in a set has this state's byte; `standing` tells of those that do.
abbrev pub stands_with : ℕ → List ℕ → (ℕ → Bool) → ℕ → Bool
stands_with n states standing byte = any n (λ j. standing j && eqb (get_or states j 0) byte)

-- Number k drains under a head that drains under itself, and one of its group stands in a set. A number that doesn't drain has nothing to keep to.
abbrev pub drain_fits : ℕ → List ℕ → (ℕ → Bool) → ℕ → Bool
drain_fits n states standing k = let byte = get_or states k 0 in leb byte 2 || (eqb (get_or states (byte - 3) 0) byte && stands_with n states standing byte)
