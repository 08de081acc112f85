-- A loop that takes frames, by what is left of it: taking the rest from here on gives what taking all of them gives.
use mathlib.Core.Path.{◌≡◌}
use Prim.Native.Nat.{ℕ, suc, ◌+◌, ◌-◌, ◌<◌, ◌≤◌}
use native.Mathlib.Numerals.{add-one}
use native.Mathlib.Omega.{arith}
use Rattle.forms.specs.WellShaped.{Taken, take_from}

-- k of n are passed; start is what was taken before all of them, t what is taken by now
pub record Left (take : ℕ → Taken → Taken) (n k : ℕ) (t start : Taken) : Type 0 where
  pub passed : k ≤ n
  pub rest : take_from take (n - k) k t ≡ take_from take n 0 start

pub left_all : (take : ℕ → Taken → Taken) (n : ℕ) (t : Taken) → Left take n 0 t t
left_all take n t = let e : n - 0 ≡ n = omega arith in record { passed = omega arith; rest = rw e }

module _ {take : ℕ → Taken → Taken} {n k : ℕ} {t start : Taken} (left : Left take n k t start) where
  pub left_less : {next : Taken} → k < n → next ≡ take k t → Left take n (k + 1) next start
  unfolding take_from
  left_less l taken =
      let e : n - k ≡ suc (n - (k + 1)) = omega arith in
      record { passed = omega arith; rest = rw (taken, add-one) (rw (e, add-one) at left.rest) }

  pub left_none : n ≤ k → t ≡ take_from take n 0 start
  unfolding take_from
  left_none l = let e : n - k ≡ 0 = omega arith in rw e at left.rest
