-- Chains of parents that end, and climbs that stop at numbers whose chains are known to end: for the test of rule 3.
use Rattle.std.specs.Prelude.{Bool, true, false, ◌||◌, List, ◌≡◌, ℕ, suc, ◌<◌, eqb, ltb, get_or}
use Rattle.std.proofs.Math.Option.{Option}
use Rattle.sets.specs.Sets.{member}
use Rattle.rules.specs.Sound.{reaches_top}

-- number k has no parent, or one with a higher number
abbrev pub parent_higher : List ℕ → ℕ → Bool
parent_higher parents k = eqb (get_or parents k 0) 0 || ltb (suc k) (get_or parents k 0)

-- Going from parent to parent, from k, reaches a number that has none, within some number of steps.
abbrev pub Ends : (ℕ → Option ℕ) → ℕ → Type 0
Ends up k = (reach : ℕ) × (reaches_top reach up k ≡ true)

-- Of the n numbers, those that aren't in `rest` have chains that end.
abbrev pub EndOutside : ℕ → (ℕ → Option ℕ) → ℕ → Type 0
EndOutside n up rest = (k : ℕ) → k < n → member rest k ≡ false → Ends up k

-- What a climb leaves of the numbers not yet known to end: fewer, and the chains of those left out end. Where it says no, some chain doesn't end.
pub record Climbed (n : ℕ) (up : ℕ → Option ℕ) (rest left : ℕ) (ends : Bool) : Type 0 where
  pub fewer : ends ≡ true → (left < rest) × EndOutside n up left
  pub endless : ends ≡ false → (k : ℕ) × (k < n) × (Ends up k → ⊥)
