-- A run of writes in a row, and the frame that they make.
use mathlib.Core.Path.{◌≡◌}
use mathlib.Core.List.{List, [], ◌∷◌, ◌++◌}
use Prim.Native.Nat.{ℕ, suc, ◌+◌}
use native.Mathlib.Nat.{add-zero}
use native.Mathlib.Omega.{arith}
use lib.ListN.{length, set}
use lib.Seq.{sets}
use Rattle.forms.specs.Kinds.{FrameShape}
use Rattle.forms.specs.Text.{hex_of, frame}
use Rattle.saving.specs.Written.{Written}
use Rattle.forms.proofs.Hex.{length_hex}
use Rattle.forms.proofs.Frames.{frame_long}

-- one text behind another
pub sets_append : (l : List ℕ) (at : ℕ) (xs ys : List ℕ) → sets l at (xs ++ ys) ≡ sets (sets l at xs) (at + length xs) ys
sets_append l at [] ys = rw add-zero
sets_append l at (x ∷ xs) ys =
    let e : suc at + length xs ≡ at + suc (length xs) = omega arith in rw (← e) (sets_append (set l at x) (suc at) xs ys)

-- one number in front of what follows
pub number_first : (l : List ℕ) (at n x : ℕ) (ys : List ℕ) → sets l at (hex_of n x ++ ys) ≡ sets (sets l at (hex_of n x)) (at + n) ys
number_first l at n x ys = rw (sets_append, length_hex)

-- four numbers in a row and 0a behind them
pub frame_stored : (f : FrameShape) (l : List ℕ) (at number first second : ℕ) {l1 l2 l3 l4 : List ℕ}
    → l1 ≡ sets l at (hex_of 2 f.code) → l2 ≡ sets l1 (at + 2) (hex_of 2 number) → l3 ≡ sets l2 (at + 4) (hex_of f.first_digits first)
    → l4 ≡ sets l3 (at + 4 + f.first_digits) (hex_of f.second_digits second)
    → let end = at + 4 + f.first_digits + f.second_digits in Written l at (frame f number first second) (set l4 end 10) (end + 1)
frame_stored f l at number first second {l1} {l2} {l3} {l4} e1 e2 e3 e4 =
    let m = f.first_digits in
    let four : at + 2 + 2 ≡ at + 4 = omega arith in
    record {
      stored = rw (number_first l at 2, ← e1, number_first l1 (at + 2) 2, ← e2, four, number_first l2 (at + 4) m, ← e3, number_first l3 (at + 4 + m) f.second_digits, ← e4);
      ends = rw (frame_long f number first second) (omega arith);
    }
