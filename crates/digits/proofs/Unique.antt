-- A table of the values of all bytes is one list: `values` has one result. Assumes nothing.
use mathlib.Core.Path.{◌≡◌, sym, ◌∙◌}
use mathlib.Core.List.{List}
use Prim.Native.Nat.{ℕ}
use native.Mathlib.Omega.{arith}
use lib.Seq.{ext_get_or}
use Rattle.digits.specs.Digits.{ValuesOfBytes}

pub values_unique : (x y : List ℕ) → ValuesOfBytes x → ValuesOfBytes y → x ≡ y
values_unique x y ex ey =
    ext_get_or 0 x y (ex.long ∙ sym ey.long) (λ c h. let long = ex.long in ex.each c (omega arith) ∙ sym (ey.each c (omega arith)))
