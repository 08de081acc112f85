-- Tables of bytes that tell by 0 of which places a test holds: whether one of the numbers that stand in sets has a state's byte, and whether a number may have it.
-- Assumes nothing.
use mathlib.Core.Path.{◌≡◌, refl, sym, ◌∙◌, ap}
use mathlib.Core.Bool.{Bool, not, ◌&&◌, ◌||◌, or-true, or-false}
use mathlib.Core.List.{List}
use Prim.Native.Nat.{ℕ, ◌+◌, ◌-◌, ◌<◌}
use mir.Val.{bool_byte}
use native.Mathlib.Omega.{arith}
use borrow.Author.Tests.{eqb-true, eqb-false, eq-eqb, ne_eqb, leb-true, leb-false, le-leb, lt-leb}
use lib.Bits.{bit_or}
use lib.Dec.{eqb, leb}
use lib.ListN.{length, get_or, set, replicate, length-set, length-replicate, get_or-replicate}
use lib.Seq.{get_or-set_same, get_or-set_other}
use Rattle.sets.specs.Sets.{member}
use Rattle.rules.specs.Tests.{◌⇒◌, all, any}
use Rattle.rules.proofs.Tests.{by_bool, same, refuted, clash, and_left, and_right, and_both, implies, implied, all_at, all_by, all_cong, any_at, any_by}
use Rattle.tables.proofs.Bytes.{or_ended}
use Rattle.tables.proofs.Taken.{Taken}
use Rattle.tables.proofs.Members.{some_of_nobody, some_joined}
use Rattle.tables.specs.Owners.{of_members}
use Rattle.tables.specs.Soundness.{stands_with, drain_fits}
use Rattle.tables.specs.Tree.{in_use}

-- The table has n bytes, of which those are 0 of whose places the test holds.
pub record Told (n : ℕ) (test : ℕ → Bool) (table : List ℕ) : Type 0 where
  pub long : length table ≡ n
  pub at : (s : ℕ) → s < n → eqb (get_or table s 0) 0 ≡ test s

pub told_alike : (n byte : ℕ) (test : ℕ → Bool) → ((s : ℕ) → test s ≡ eqb byte 0) → Told n test (replicate n byte)
told_alike n byte test alike = record { long = length-replicate n byte; at = λ s l. rw (get_or-replicate n s byte 0 l) (sym (alike s)) }

pub told_put : (n p byte : ℕ) (test next : ℕ → Bool) (table : List ℕ) → Told n test table → p < n → eqb byte 0 ≡ next p → ((s : ℕ) → (s ≡ p → ⊥) → test s ≡ next s) →
    Told n next (set table p byte)
told_put n p byte test next table told l here others = record { long = length-set table p byte ∙ told.long; at = at }
  where
    at : (s : ℕ) → s < n → eqb (get_or (set table p byte) s 0) 0 ≡ next s
    at s ls =
        by_bool (eqb s p) (λ e. rw (eqb-true s p e, get_or-set_same table p byte 0 (rw told.long l)) here)
        (λ e. rw (get_or-set_other table p s byte 0 (eqb-false s p e)) (told.at s ls ∙ others s (eqb-false s p e)))

-- ---- whether one of the numbers has a state's byte

-- a place of which 0 is told, and what was told of the others
zero_put : (table : List ℕ) (p s : ℕ) → p < length table → eqb (get_or (set table p 0) s 0) 0 ≡ (eqb (get_or table s 0) 0 || eqb p s)
zero_put table p s l =
    by_bool (eqb s p)
    (λ e. let same_place = eqb-true s p e in rw (same_place, get_or-set_same table p 0 0 l, eq-eqb p p refl) (sym (or-true (eqb (get_or table p 0) 0))))
    (λ e. let other = eqb-false s p e in
    rw (get_or-set_other table p s 0 0 other, ne_eqb p s (λ same_place. other (sym same_place))) (sym (or-false (eqb (get_or table s 0) 0))))

module _ (n m : ℕ) (states : List ℕ) (numbers : ℕ) where
  -- The table tells of the bytes of those taken; with those of `rest`, who are left, it tells of all.
  pub record Marking (rest : ℕ) (table : List ℕ) : Type 0 where
    pub long : length table ≡ m
    pub at : (s : ℕ) → s < m → (eqb (get_or table s 0) 0 || stands_with n states (member rest) s) ≡ stands_with n states (member numbers) s

  pub marking_none : Marking numbers (replicate m 1)
  marking_none =
      record {
        long = length-replicate m 1;
        at = λ s l. rw (get_or-replicate {A = ℕ} m s 1 0 l);
      }

  pub marking_more : (rest k left : ℕ) (table : List ℕ) → Taken n rest k left → get_or states k 0 < m → Marking rest table → Marking left (set table (get_or states k 0) 0)
  marking_more rest k left table taken l marking =
      record {
        long = length-set table (get_or states k 0) 0 ∙ marking.long;
        at =
            λ s ls.
            ap (λ u. u || stands_with n states (member left) s) (zero_put table (get_or states k 0) s (rw marking.long l))
            ∙ some_joined n rest k left (λ j. eqb (get_or states j 0) s) taken (eqb (get_or table s 0) 0)
            ∙ marking.at s ls;
      }

  pub marking_all : (table : List ℕ) → Marking 0 table → (s : ℕ) → s < m → eqb (get_or table s 0) 0 ≡ stands_with n states (member numbers) s
  marking_all table marking s l =
      sym (or-false (eqb (get_or table s 0) 0))
      ∙ sym (ap (λ u. eqb (get_or table s 0) 0 || u) (some_of_nobody n (λ j. eqb (get_or states j 0) s)))
      ∙ marking.at s l

-- None of the numbers is free where none has a free number's byte.
pub none_with_free : (n : ℕ) (states : List ℕ) (numbers : ℕ) → of_members n numbers (in_use states) ≡ not (stands_with n states (member numbers) 0)
none_with_free n states numbers =
    by_bool (any n free)
    (λ t. let found = any_at n free t in
    rw t
    (refuted (of_members n numbers (in_use states))
    (λ h. clash (in_use states found.0)
    (implies (member numbers found.0) (in_use states found.0) (all_at n used h found.0 found.1) (and_left (member numbers found.0) _ found.2))
    (ap not (and_right (member numbers found.0) _ found.2)))))
    (λ t. rw t
    (all_by n used
    (λ k l. implied (member numbers k) (in_use states k)
    (λ has. by_bool (eqb (get_or states k 0) 0) (λ e. clash (any n free) (any_by n free k l (and_both (member numbers k) _ has e)) t) (λ e. ap not e)))))
  where
    free : ℕ → Bool
    free k = member numbers k && eqb (get_or states k 0) 0

    used : ℕ → Bool
    used k = member numbers k ⇒ in_use states k

-- ---- whether a number may have a state's byte

module _ (n : ℕ) (states missing : List ℕ) where
  -- the head that the byte names is in that state too, and the byte isn't missing among those that stand in sets
  abbrev pub headed : ℕ → Bool
  headed s = eqb (get_or states (s - 3) 0) s && eqb (get_or missing s 0) 0

  -- told of the bytes that name one of the first h numbers; of the others nothing is said
  abbrev pub Heading : ℕ → List ℕ → Type 0
  Heading h table = Told (3 + n) (λ s. leb s 2 || (leb (3 + h) s || headed s)) table

  pub heading_none : Heading 0 (replicate (3 + n) 0)
  heading_none =
      told_alike (3 + n) 0 (λ s. leb s 2 || (leb 3 s || headed s))
      (λ s. by_bool (leb s 2) (λ low. rw low) (λ high. let l = leb-false s 2 high in rw (high, le-leb 3 s (omega arith))))

  pub heading_more : (h : ℕ) (table : List ℕ) → h < n → Heading h table →
      Heading (h + 1) (set table (h + 3) (bit_or (bool_byte (not (eqb (get_or states h 0) (h + 3)))) (get_or missing (h + 3) 0)))
  heading_more h table l heading =
      told_put (3 + n) (h + 3) (bit_or (bool_byte (not (eqb (get_or states h 0) (h + 3)))) (get_or missing (h + 3) 0)) (λ s. leb s 2 || (leb (3 + h) s || headed s))
      (λ s. leb s 2 || (leb (3 + (h + 1)) s || headed s)) table heading (omega arith) here others
    where
      of_not : (t : Bool) → eqb (bool_byte (not t)) 0 ≡ t
      of_not t = by_bool t (λ e. rw e) (λ e. rw e)

      here : eqb (bit_or (bool_byte (not (eqb (get_or states h 0) (h + 3)))) (get_or missing (h + 3) 0)) 0 ≡ (leb (h + 3) 2 || (leb (3 + (h + 1)) (h + 3) || headed (h + 3)))
      here =
          let place : h + 3 - 3 ≡ h = omega arith in
          rw (lt-leb (h + 3) 2 (omega arith), lt-leb (3 + (h + 1)) (h + 3) (omega arith), place, or_ended, of_not (eqb (get_or states h 0) (h + 3)))

      others : (s : ℕ) → (s ≡ h + 3 → ⊥) → (leb s 2 || (leb (3 + h) s || headed s)) ≡ (leb s 2 || (leb (3 + (h + 1)) s || headed s))
      others s other =
          ap (λ u. leb s 2 || (u || headed s))
          (same (leb (3 + h) s) (leb (3 + (h + 1)) s)
          (λ t. let l = leb-true (3 + h) s t in le-leb (3 + (h + 1)) s (omega arith))
          (λ t. let l = leb-true (3 + (h + 1)) s t in le-leb (3 + h) s (omega arith)))

  pub heading_all : (table : List ℕ) → Heading n table → (s : ℕ) → s < 3 + n → eqb (get_or table s 0) 0 ≡ (leb s 2 || headed s)
  heading_all table heading s l = heading.at s l ∙ rw (lt-leb (3 + n) s l)

-- Where no number has a byte that the table tells against, the groups drain as they should.
pub bytes_decide : (n : ℕ) (states missing table : List ℕ) (numbers : ℕ) → ((k : ℕ) → k < n → get_or states k 0 < 3 + n) →
    ((s : ℕ) → s < 3 + n → eqb (get_or missing s 0) 0 ≡ stands_with n states (member numbers) s) → ((s : ℕ) → s < 3 + n → eqb (get_or table s 0) 0 ≡ (leb s 2 || headed n states missing s)) →
    all n (λ k. eqb (get_or table (get_or states k 0) 0) 0) ≡ all n (drain_fits n states (member numbers))
bytes_decide n states missing table numbers mean stood told =
    all_cong n (λ k. eqb (get_or table (get_or states k 0) 0) 0) (drain_fits n states (member numbers)) (λ k l. told (get_or states k 0) (mean k l) ∙ rw (stood (get_or states k 0) (mean k l)))
