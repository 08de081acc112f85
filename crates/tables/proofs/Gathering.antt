-- Sets gathered by a loop over the numbers: the numbers that pass a test, the children of each number, and the line of each. Assumes nothing.
use mathlib.Core.Path.{◌≡◌, refl, sym, ◌∙◌}
use mathlib.Core.Bool.{Bool, true, false, not, ◌&&◌, or-false}
use mathlib.Core.List.{List}
use Prim.Native.Nat.{ℕ, suc, ◌+◌, ◌-◌, ◌≤◌, ◌<◌}
use native.Mathlib.Omega.{arith}
use borrow.Author.Tests.{eqb-true, eqb-false, eq-eqb, ne_eqb, leb-true, le-leb, not-true}
use lib.Dec.{eqb, leb, eqb-suc-zero}
use lib.ListN.{length, get_or, set, replicate, length-set, length-replicate}
use lib.Seq.{get_or-set_same, get_or-set_other}
use Rattle.sets.specs.Sets.{member, with}
use Rattle.sets.proofs.Laws.{member_empty, member_with}
use Rattle.rules.proofs.Tests.{by_bool, clash, and_left, and_right, or_right, by_last}
use mathlib.Core.Option.{none, some, none-ne-some}
use Rattle.tables.specs.Tree.{in_line, known_up}
use Rattle.tables.proofs.Lines.{known_parent}
use Rattle.tables.proofs.Named.{up_byte}
use Rattle.tables.proofs.Stores.{zeros}

-- ---- numbers taken in one by one

-- A set of those numbers below k that pass a test.
pub record TakenTo (test : ℕ → Bool) (s k : ℕ) : Type 0 where
  pub done : (j : ℕ) → j < k → member s j ≡ test j
  pub left : (j : ℕ) → k ≤ j → member s j ≡ false

module _ (test : ℕ → Bool) where
  pub taken_none : TakenTo test 0 0
  taken_none = record { done = λ j l. absurd (omega arith); left = λ j l. member_empty j }

  -- k doesn't
  pub taken_out : (s k : ℕ) → test k ≡ false → TakenTo test s k → TakenTo test s (k + 1)
  taken_out s k e h =
      record {
        done = λ j l. by_last k j (omega arith) (λ q. rw (q, e) (h.left k (omega arith))) (λ below. h.done j below);
        left = λ j l. h.left j (omega arith);
      }

-- k passes
pub taken_in : (n : ℕ) (test : ℕ → Bool) (s k : ℕ) → k < n → test k ≡ true → TakenTo test s k → TakenTo test (with n s k) (k + 1)
taken_in n test s k lk e h =
    record {
      done = λ j l. by_last k j (omega arith) (λ q. rw (q, e, member_with n s k k lk) (or_right (member s k) (eqb k k) (eq-eqb k k refl)))
          (λ below. other j (λ q. absurd (omega arith)) ∙ h.done j below);
      left = λ j l. other j (λ q. absurd (omega arith)) ∙ h.left j (omega arith);
    }
  where
    other : (j : ℕ) → (j ≡ k → ⊥) → member (with n s k) j ≡ member s j
    other j ne = rw (member_with n s k j lk, ne_eqb j k ne) (or-false (member s j))

-- ---- the children of each number

-- number j has the parent p
abbrev pub child_byte : List ℕ → ℕ → ℕ → Bool
child_byte parents p j = eqb (get_or parents j 0) (suc p)

-- At the place of each number, its children below k.
pub record ChildrenTo (n : ℕ) (parents children : List ℕ) (k : ℕ) : Type 0 where
  pub long : length children ≡ n
  pub each : (p : ℕ) → p < n → TakenTo (child_byte parents p) (get_or children p 0) k

pub children_none : (n : ℕ) (parents : List ℕ) → ChildrenTo n parents (replicate n 0) 0
children_none n parents = record { long = length-replicate n 0; each = λ p l. rw (zeros n p) (taken_none (child_byte parents p)) }

-- a byte names a parent
abbrev pub names : ℕ → ℕ → Bool
names n up = not (eqb up 0) && leb up n

pub names_known : (n up : ℕ) → names n up ≡ true → (0 < up) × (up ≤ n)
names_known n up t =
    let some = eqb-false up 0 (not-true (eqb up 0) (and_left (not (eqb up 0)) (leb up n) t)) in
    (omega arith, leb-true up n (and_right (not (eqb up 0)) (leb up n) t))

module _ (n : ℕ) (parents children : List ℕ) (k : ℕ) (h : ChildrenTo n parents children k) where
  pub children_in : k < n → names n (get_or parents k 0) ≡ true →
      ChildrenTo n parents (set children (get_or parents k 0 - 1) (with n (get_or children (get_or parents k 0 - 1) 0) k)) (k + 1)
  children_in lk t = record { long = length-set children up grown ∙ h.long; each = each }
    where
      up : ℕ
      up = get_or parents k 0 - 1

      grown : ℕ
      grown = with n (get_or children up 0) k

      known : (0 < get_or parents k 0) × (get_or parents k 0 ≤ n)
      known = names_known n (get_or parents k 0) t

      itself : TakenTo (child_byte parents up) (get_or (set children up grown) up 0) (k + 1)
      itself =
          let named = known in
          let l : up < n = omega arith in
          rw (get_or-set_same children up grown 0 (rw h.long l))
          (taken_in n (child_byte parents up) (get_or children up 0) k lk
          (eq-eqb (get_or parents k 0) (suc up) (omega arith))
          (h.each up l))

      each : (p : ℕ) → p < n → TakenTo (child_byte parents p) (get_or (set children up grown) p 0) (k + 1)
      each p lp =
          by_bool (eqb p up) (λ e. rw (eqb-true p up e) itself)
          (λ e. let ne = eqb-false p up e in
          rw (get_or-set_other children up p grown 0 ne)
          (taken_out (child_byte parents p) (get_or children p 0) k (ne_eqb (get_or parents k 0) (suc p) (λ q. ne (omega arith))) (h.each p lp)))

  pub children_out : names n (get_or parents k 0) ≡ false → ChildrenTo n parents children (k + 1)
  children_out t =
      record {
        long = h.long;
        each = λ p lp.
            taken_out (child_byte parents p) (get_or children p 0) k
            (ne_eqb (get_or parents k 0) (suc p)
            (λ e. clash (names n (suc p)) (rw (eqb-suc-zero p) (le-leb (suc p) n lp)) (rw e at t)))
            (h.each p lp);
      }

-- ---- the line of each number

-- At each place below k, the line of that number.
pub record LinesTo (n : ℕ) (parents lines : List ℕ) (k : ℕ) : Type 0 where
  pub long : length lines ≡ n
  pub each : (a : ℕ) → a < k → (x : ℕ) → member (get_or lines a 0) x ≡ in_line n parents a x

pub lines_none : (n : ℕ) (parents : List ℕ) → LinesTo n parents (replicate n 0) 0
lines_none n parents = record { long = length-replicate n 0; each = λ a l. absurd (omega arith) }

pub lines_more : (n : ℕ) (parents lines : List ℕ) (k line : ℕ) → k < n → LinesTo n parents lines k → ((x : ℕ) → member line x ≡ in_line n parents k x) →
    LinesTo n parents (set lines k line) (k + 1)
lines_more n parents lines k line lk h e =
    record {
      long = length-set lines k line ∙ h.long;
      each = λ a l x. by_last k a (omega arith) (λ q. rw (q, get_or-set_same lines k line 0 (rw h.long lk)) (e x))
          (λ below. rw (get_or-set_other lines k a line 0 (λ q. absurd (omega arith))) (h.each a below x));
    }

-- the same by what the byte names: one of the n numbers, or nobody
module _ (n : ℕ) (parents children : List ℕ) (k : ℕ) (h : ChildrenTo n parents children k) where
  pub child_named : (p : ℕ) → k < n → known_up n parents k ≡ some p → ChildrenTo n parents (set children p (with n (get_or children p 0) k)) (k + 1)
  child_named p lk e =
      let byte = up_byte n parents k p e in
      let same : get_or parents k 0 - 1 ≡ p = omega (arith, byte.0) in
      rw same at (children_in n parents children k h lk (rw (byte.0, eqb-suc-zero p) (le-leb (suc p) n byte.1)))

  pub nobody_named : known_up n parents k ≡ none → ChildrenTo n parents children (k + 1)
  nobody_named e = children_out n parents children k h (by_bool (names n (get_or parents k 0)) one (λ t. t))
    where
      one : names n (get_or parents k 0) ≡ true → names n (get_or parents k 0) ≡ false
      one t =
          let known = names_known n (get_or parents k 0) t in
          absurd (none-ne-some (get_or parents k 0 - 1) (sym e ∙ known_parent n parents k (λ z. absurd (omega arith)) known.1))
