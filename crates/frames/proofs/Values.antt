-- What two characters write, by a table of the values of all bytes. Assumes nothing.
use mathlib.Core.Path.{◌≡◌, refl, sym}
use mathlib.Core.Bool.{and-false}
use mathlib.Core.List.{List}
use Prim.Native.Nat.{ℕ, ◌+◌, ◌*◌, ◌≤◌, ◌<◌}
use native.Mathlib.Omega.{arith}
use borrow.Author.Tests.{ltb-true, ltb-false, lt-leb, leb-true, leb-false, lt-ltb, le-ltb}
use lib.Dec.{leb, ltb}
use Rattle.std.specs.Prelude.{Option, Some, None}
use Rattle.digits.specs.Digits.{digit_of, ValuesOfBytes}
use Rattle.rules.proofs.Tests.{by_bool}
use Rattle.lines.specs.NextEnds.{pair_of}
use Rattle.frames.specs.Ends.{value_by, pair_by}

-- The number that two characters write, where they write one, and else 256.
abbrev pub Writes : Option ℕ → ℕ → Type 0
Writes None n = n ≡ 256
Writes (Some number) n = (number ≡ n) × (number < 256)

-- what is no byte is no digit
no_byte : (c : ℕ) → 256 ≤ c → digit_of c ≡ 16
no_byte c h = rw (lt-leb c 57 (omega arith), lt-leb c 102 (omega arith), and-false (leb 48 c), and-false (leb 97 c))

value_of : {values : List ℕ} → ValuesOfBytes values → (c : ℕ) → value_by values c ≡ digit_of c
value_of table c =
    by_bool (ltb c 256) (λ t. rw t (table.each c (ltb-true c 256 t))) (λ t. rw t (sym (no_byte c (ltb-false c 256 t))))

-- two digits write less than 256
small : (high low : ℕ) → high < 16 → low < 16 → high * 16 + low < 256
small high low h l = omega arith

pub pair_of_lem : {values : List ℕ} → ValuesOfBytes values → (high low : ℕ) → Writes (pair_by values high low) (pair_of high low)
pair_of_lem table high low =
    rw (value_of table high, value_of table low)
    (by_bool (leb 16 (digit_of high)) (λ t. rw (t, le-ltb (digit_of high) 16 (leb-true 16 (digit_of high) t)) refl)
    (λ t. rw (t, lt-ltb (digit_of high) 16 (leb-false 16 (digit_of high) t))
    (by_bool (leb 16 (digit_of low)) (λ u. rw (u, le-ltb (digit_of low) 16 (leb-true 16 (digit_of low) u)) refl)
    (λ u. rw (u, lt-ltb (digit_of low) 16 (leb-false 16 (digit_of low) u))
    (refl, small (digit_of high) (digit_of low) (leb-false 16 (digit_of high) t) (leb-false 16 (digit_of low) u))))))
