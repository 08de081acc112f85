-- What the bytes of the arrays say, and the tables that parents' bytes are looked up in.
use mathlib.Core.Path.{◌≡◌, refl, sym, ◌∙◌}
use mathlib.Core.Bool.{Bool, true, false, not, ◌&&◌}
use mathlib.Core.List.{List}
use mathlib.Core.Option.{none, some, none-ne-some}
use Prim.Native.Nat.{ℕ, zero, suc, ◌+◌, ◌-◌, ◌<◌, ◌≤◌}
use native.Mathlib.Numerals.{add-one}
use native.Mathlib.Omega.{arith}
use borrow.Author.Tests.{eqb-true, eqb-false, eq-eqb, ltb-true, ltb-false, not-false}
use lib.Bits.{bit_or, or_add_and, and_le_l, and_le_r}
use lib.Dec.{eqb, ltb}
use lib.ListN.{length, get_or, set, replicate, length-set, length-replicate}
use lib.Seq.{get_or-set_same, get_or-set_other}
use Rattle.rules.specs.Tests.{all, from}
use Rattle.rules.proofs.Tests.{by_bool, clash, same, and_left, and_right, and_both, all_at, all_by, any_none}
use Rattle.tables.specs.Table.{parent_of}
use Rattle.tables.specs.Tree.{up_of}
use Rattle.tables.specs.Families.{upper_child, NoParentsFrom}
use Rattle.tables.specs.Soundness.{forbids_of, shifted, permitted}

-- no parent is byte 0
pub none_byte : (x : ℕ) → parent_of x ≡ none → x ≡ 0
none_byte zero e = refl
none_byte (suc x) e = absurd (none-ne-some x (sym e))

-- the byte of parent p
pub parent_byte : (x p : ℕ) → parent_of x ≡ some p → x ≡ suc p
parent_byte zero p e = absurd (none-ne-some p e)
parent_byte (suc x) p e = cc

-- where no byte is above n, parents are of the n numbers
pub parents_known : (n : ℕ) (parents : List ℕ) → ((k : ℕ) → k < n → get_or parents k 0 ≤ n) → (k p : ℕ) → k < n → up_of parents k ≡ some p → p < n
parents_known n parents fits k p l e = let byte = parent_byte (get_or parents k 0) p e in let low = fits k l in omega arith

-- a byte that names one of some numbers: the number below it
pub names_one : (numbers : ℕ → Bool) (x : ℕ) → from (parent_of x) false numbers ≡ true → (0 < x) × (numbers (x - 1) ≡ true) × (parent_of x ≡ some (x - 1))
names_one numbers zero t = clash false t refl
names_one numbers (suc p) t = let below : suc p - 1 ≡ p = omega arith in rw below (omega arith, t, refl)

-- a number that is neither running nor committed forbids both
pub forbids_both : (s : ℕ) → (s ≡ 1 → ⊥) → (s ≡ 2 → ⊥) → 3 ≡ forbids_of s
forbids_both zero h g = refl
forbids_both (suc zero) h g = absurd (h refl)
forbids_both (suc (suc zero)) h g = absurd (g refl)
forbids_both (suc (suc (suc x))) h g = refl

-- two bytes joined are 0 where both are
pub or_ended : (a b : ℕ) → eqb (bit_or a b) 0 ≡ (eqb a 0 && eqb b 0)
or_ended a b =
    same (eqb (bit_or a b) 0) (eqb a 0 && eqb b 0)
    (λ h.
    let z = eqb-true (bit_or a b) 0 h in
    and_both (eqb a 0) (eqb b 0) (eq-eqb a 0 (omega (arith, or_add_and a b, and_le_l a b, and_le_r a b)))
    (eq-eqb b 0 (omega (arith, or_add_and a b, and_le_l a b, and_le_r a b))))
    (λ h.
    let za = eqb-true a 0 (and_left (eqb a 0) (eqb b 0) h) in
    let zb = eqb-true b 0 (and_right (eqb a 0) (eqb b 0) h) in
    eq-eqb (bit_or a b) 0 (omega (arith, or_add_and a b)))

-- where none of the upper numbers has a parent, no number from the first of them on has one
pub no_upper_child : (n first : ℕ) (parents : List ℕ) → upper_child n first parents ≡ false → NoParentsFrom n parents first
no_upper_child n first parents h k from l =
    let place : first + (k - first) ≡ k = omega arith in
    eqb-true (get_or parents k 0) 0
    (not-false (eqb (get_or parents k 0) 0)
    (rw place at (any_none (n - first) (λ j. not (eqb (get_or parents (first + j) 0) 0)) h (k - first) (omega arith))))

-- no parent forbids nothing, so that numbers without one need no test
pub permitted_all : (n : ℕ) (parents states : List ℕ) (first : ℕ) → first ≤ n → NoParentsFrom n parents first →
    all first (permitted parents states) ≡ all n (permitted parents states)
permitted_all n parents states first fits tops =
    same (all first (permitted parents states)) (all n (permitted parents states))
    (λ h.
    all_by n (permitted parents states)
    (λ k l.
    by_bool (ltb k first) (λ t. all_at first (permitted parents states) h k (ltb-true k first t)) (λ t. rw (tops k (ltb-false k first t) l))))
    (λ h. all_by first (permitted parents states) (λ k l. all_at n (permitted parents states) h k (omega arith)))

-- The first k elements of a list stand in a table of n + 1, moved up by one place.
pub record Shifted (n : ℕ) (f : ℕ → ℕ) (l table : List ℕ) (k : ℕ) : Type 0 where
  pub long : length table ≡ suc n
  pub at : (x : ℕ) → x < suc k → get_or table x 0 ≡ shifted f l x

pub shifted_none : (n : ℕ) (f : ℕ → ℕ) (l : List ℕ) → Shifted n f l (replicate (suc n) 0) 0
shifted_none n f l = record { long = length-replicate (suc n) 0; at = only }
  where
    only : (x : ℕ) → x < 1 → get_or (replicate (suc n) 0) x 0 ≡ shifted f l x
    only zero h = refl
    only (suc x) h = absurd (omega arith)

pub shifted_more : (n : ℕ) (f : ℕ → ℕ) (l table : List ℕ) (k : ℕ) → k < n → Shifted n f l table k → Shifted n f l (set table (k + 1) (f (get_or l k 0))) (k + 1)
shifted_more n f l table k h s = record { long = length-set table (k + 1) (f (get_or l k 0)) ∙ s.long; at = more }
  where
    more : (x : ℕ) → x < suc (k + 1) → get_or (set table (k + 1) (f (get_or l k 0))) x 0 ≡ shifted f l x
    more x g =
        by_bool (eqb x (k + 1))
        (λ e.
        rw (eqb-true x (k + 1) e)
        (get_or-set_same table (k + 1) (f (get_or l k 0)) 0 (rw s.long (omega arith)) ∙ rw add-one))
        (λ e.
        get_or-set_other table (k + 1) x (f (get_or l k 0)) 0 (eqb-false x (k + 1) e)
        ∙ s.at x (let ne = eqb-false x (k + 1) e in omega arith))
