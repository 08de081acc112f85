-- Each step has one result: what was taken from the same arrays with the same numbers gave the same answer and left the same arrays. The other contracts are equations
-- of what is handed back and of each list that was lent. Assumes nothing.
use Rattle.std.specs.Prelude.{if◌then◌else◌}
use mathlib.Core.Path.{◌≡◌, sym, ◌∙◌, ap}
use Prim.Native.Nat.{ℕ}
use lib.Dec.{eqb}
use Rattle.steps.specs.Arrays.{Arrays}
use Rattle.steps.specs.Steps.{Took}

pub one_result : (row : ℕ) (changed before : Arrays) {answer answer' : ℕ} {after after' : Arrays} → Took row changed before answer after →
    Took row changed before answer' after' → (answer ≡ answer') × (after ≡ after')
one_result row changed before one other =
    let same = one.answered ∙ sym other.answered in
    (same, one.left ∙ ap (λ (n : ℕ). if eqb n 0 then changed else before) same ∙ sym other.left)
