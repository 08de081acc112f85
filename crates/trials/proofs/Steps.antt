-- A sum after one step more, as a loop that counts up makes it.
use mathlib.Core.Path.{◌≡◌, refl}
use Prim.Native.Nat.{ℕ, suc}
use Rattle.trials.specs.Sums.{after_steps}

pub steps_more : (n : ℕ) (step : ℕ → ℕ → ℕ) (sum : ℕ) → after_steps (suc n) step sum ≡ step n (after_steps n step sum)
unfolding after_steps
steps_more n step sum = refl
