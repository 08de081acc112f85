-- `values` meets its contract, by one computed test over the 256 entries. Assumes nothing.
use mathlib.Core.Bool.{Bool, true, false, ◌&&◌}
use mathlib.Core.List.{List, [], ◌∷◌}
use mathlib.Core.Path.{◌≡◌, refl, ◌∙◌, ap}
use Prim.Native.Nat.{ℕ, zero, suc, ◌+◌, ◌<◌}
use native.Mathlib.Nat.{zero-add}
use native.Mathlib.Omega.{arith}
use borrow.Author.Tests.{eqb-true}
use lib.Dec.{eqb}
use lib.ListN.{length, get_or, set, replicate}
use Rattle.digits.specs.Digits.{digit_of}
use Rattle.digits.proofs.values.Goals as goal

-- the table as it is stored
abbrev table : List ℕ
table = set (set (set (set (set (set (set (set (set (set (set (set (set (set (set (set (replicate 256 16) 48 0) 49 1) 50 2) 51 3) 52 4) 53 5) 54 6) 55 7) 56 8) 57 9) 97 10) 98 11) 99 12) 100 13) 101 14) 102 15

-- each entry is the value of its place, counted from i
abbrev entries_fit : ℕ → List ℕ → Bool
entries_fit i [] = true
entries_fit i (v ∷ rest) = eqb v (digit_of i) && entries_fit (suc i) rest

both_first : (s t : Bool) → (s && t) ≡ true → s ≡ true
both_first true t h = refl
both_first false t h = h

both_second : (s t : Bool) → (s && t) ≡ true → t ≡ true
both_second true t h = h
both_second false t h = absurd (let z : ◌≡◌ {A = ℕ} 0 1 = cc in omega arith)

entry_fits : (l : List ℕ) (i k : ℕ) → entries_fit i l ≡ true → k < length l → get_or l k 0 ≡ digit_of (i + k)
entry_fits [] i k h l = absurd (omega arith)
entry_fits (v ∷ rest) i zero h l =
    let here : i + 0 ≡ i = omega arith in
    rw here (eqb-true v (digit_of i) (both_first (eqb v (digit_of i)) (entries_fit (suc i) rest) h))
entry_fits (v ∷ rest) i (suc k) h l =
    let next : i + suc k ≡ suc i + k = omega arith in
    rw next (entry_fits rest (suc i) k (both_second (eqb v (digit_of i)) (entries_fit (suc i) rest) h) (omega arith))

pub returns : goal.returns
returns c =
    record { long = refl; each = λ k h. entry_fits table 0 k refl h ∙ ap digit_of (zero-add k) }
