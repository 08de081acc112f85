-- The characters of a number's digits, and a number written digit by digit, the highest first.
use mathlib.Core.Path.{◌≡◌, refl}
use mathlib.Core.List.{List}
use Prim.Native.Nat.{ℕ, zero, suc, ◌+◌, ◌*◌, ◌/◌, ◌%◌, ◌^◌}
use native.Mathlib.Nat.{pow-suc}
use native.Mathlib.Numerals.{add-one}
use native.Mathlib.Omega.{arith}
use lib.ListN.{set}
use lib.Pow.{pow-add}
use lib.Seq.{sets}
use Rattle.forms.specs.Text.{hex_digit, hex_of}

-- four bits are a digit
pub shift_digits : (m : ℕ) → 2 ^ (4 * m) ≡ 16 ^ m
shift_digits zero = refl
shift_digits (suc m) = let e : 4 * suc m ≡ 4 * m + 4 = omega arith in rw (e, pow-add 2 (4 * m) 4, shift_digits m, pow-suc 16 m)

-- the highest of the digits left is written, and the others are left behind it
pub digit_more : (out : List ℕ) (place left x : ℕ)
    → sets (set out place (hex_digit (x / 16 ^ left % 16))) (place + 1) (hex_of left x) ≡ sets out place (hex_of (suc left) x)
unfolding hex_of
digit_more out place left x = rw add-one

pub digits_done : (out : List ℕ) (place x : ℕ) → sets out place (hex_of 0 x) ≡ out
unfolding hex_of
digits_done out place x = refl
