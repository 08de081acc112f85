-- Tests that compute: an implication, and a test of all or any of the numbers below a bound.
use Rattle.std.specs.Prelude.{Bool, true, false, ◌&&◌, ◌||◌, ℕ, zero, suc}
use Rattle.std.proofs.Math.Option.{Option, none, some}

infixr 25 ◌⇒◌
-- if the first test holds, so does the second
abbrev pub ◌⇒◌ : Bool → Bool → Bool
true ⇒ t = t
false ⇒ t = true

-- the test holds of every number below n
unfoldable pub all : ℕ → (ℕ → Bool) → Bool
all zero test = true
all (suc n) test = let below = all n test in test n && below

-- the test holds of some number below n
unfoldable pub any : ℕ → (ℕ → Bool) → Bool
any zero test = false
any (suc n) test = let below = any n test in test n || below

-- what a number that may be missing gives: `missing` where it is, and what `found` says of it where it isn't
abbrev pub from {ℓ} : {A : Type ℓ} → Option ℕ → A → (ℕ → A) → A
from none missing found = missing
from (some n) missing found = found n
