-- The number that a parent's byte names, of any byte: one of the n numbers or nobody. Assumes nothing.
use mathlib.Core.Path.{◌≡◌}
use mathlib.Core.Bool.{true, false, ◌||◌}
use mathlib.Core.List.{List}
use mathlib.Core.Option.{none, some, none-ne-some}
use Prim.Native.Nat.{ℕ, suc, ◌-◌, ◌<◌, ◌≤◌}
use native.Mathlib.Omega.{arith}
use borrow.Author.Tests.{eqb-true, eqb-false, leb-true, ltb-true, ltb-false}
use lib.Dec.{eqb, leb, ltb}
use lib.ListN.{get_or}
use Rattle.rules.proofs.Tests.{by_bool, by_or, or_fails_left, or_fails_right}
use Rattle.tables.specs.Tree.{known_up}
use Rattle.tables.proofs.Bytes.{parent_byte}
use Rattle.tables.proofs.Lines.{no_parent, unknown_parent, known_parent}

module _ (n : ℕ) (parents : List ℕ) (k : ℕ) where
  -- the byte of a known parent, which is one of the n numbers
  pub up_byte : (p : ℕ) → known_up n parents k ≡ some p → (get_or parents k 0 ≡ suc p) × (p < n)
  up_byte p e =
      by_bool (leb (get_or parents k 0) n)
      (λ t. let byte = parent_byte (get_or parents k 0) p (rw t at e) in let fits = leb-true (get_or parents k 0) n t in (byte, omega arith))
      (λ t. absurd (none-ne-some p (rw t at e)))

  -- 0 and bytes above n name nobody
  pub names_nobody : (eqb (get_or parents k 0) 0 || ltb n (get_or parents k 0)) ≡ true → known_up n parents k ≡ none
  names_nobody t =
      by_or (eqb (get_or parents k 0) 0) (ltb n (get_or parents k 0)) t (λ e. no_parent n parents k (eqb-true (get_or parents k 0) 0 e))
      (λ l. unknown_parent n parents k (ltb-true n (get_or parents k 0) l))

  -- every other byte names the number below it
  abbrev pub NamesNumber : Type 0
  NamesNumber = (0 < get_or parents k 0) × (get_or parents k 0 ≤ n) × (known_up n parents k ≡ some (get_or parents k 0 - 1))

  pub names_number : (eqb (get_or parents k 0) 0 || ltb n (get_or parents k 0)) ≡ false → NamesNumber
  names_number t =
      let some_byte = eqb-false (get_or parents k 0) 0 (or_fails_left (eqb (get_or parents k 0) 0) (ltb n (get_or parents k 0)) t) in
      let fits = ltb-false n (get_or parents k 0) (or_fails_right (eqb (get_or parents k 0) 0) (ltb n (get_or parents k 0)) t) in
      (omega arith, fits, known_parent n parents k some_byte fits)
