-- An action and its descendants, of any bytes of parents: where nobody has it for a parent, in one pass where every parent lies below its child, and
-- by climbs. On a sound bench they are its family. Assumes nothing.
use mathlib.Core.Path.{◌≡◌, refl, sym, ◌∙◌, ap}
use mathlib.Core.Bool.{true, false, ◌||◌, ◌&&◌}
use mathlib.Core.List.{List}
use mathlib.Core.Option.{some, none-ne-some}
use Prim.Native.Nat.{ℕ, zero, suc, ◌+◌, ◌-◌, ◌/◌, ◌%◌, ◌<◌, ◌≤◌, ◌^◌}
use native.Mathlib.Nat.{mod-eq_of_lt, div-one, pow-suc}
use native.Mathlib.Omega.{arith}
use borrow.Author.Tests.{eqb-true, eq-eqb, ne_eqb, le-leb, ltb-true, ltb-false}
use lib.Dec.{eqb, ltb}
use lib.ListN.{length, get_or, get_or-eq_default}
use Rattle.sets.specs.Sets.{member, with}
use Rattle.sets.proofs.Laws.{member_empty, member_with, member_outside, member_digit, member_suc}
use Rattle.rules.specs.Tests.{any}
use Rattle.rules.specs.Owners.{above}
use Rattle.rules.proofs.Tests.{by_bool, by_or, by_last, clash, same, or_left, or_right, any_none}
use Rattle.rules.proofs.SetForm.{eqb_comm}
use Rattle.tables.specs.Tree.{known_up, SoundParents, descends}
use Rattle.tables.specs.Families.{adopted, NoParentsFrom}
use Rattle.tables.specs.Reach.{reaches, Reaches, descends_known, GatheredTo}
use Rattle.tables.proofs.Lines.{met_in_line, no_parent}
use Rattle.tables.proofs.Families.{descends_top}
use Rattle.tables.proofs.Named.{up_byte}
use Rattle.tables.proofs.Reaching.{by_reached, met_here, met_up, reaches_more, reaches_soon, reaches_above}
use Rattle.tables.proofs.Sorting.{Sorting}

module _ (n : ℕ) (parents : List ℕ) (a : ℕ) where
  -- j leads to a
  abbrev Leads : ℕ → Type 0
  Leads j = Reaches (λ i. eqb i a) (known_up n parents) j

  -- it is a, or its parent leads to a
  by_lead : {P : Type 0} (reach j : ℕ) → reaches reach (λ i. eqb i a) (known_up n parents) j ≡ true → (j ≡ a → P) → ((p : ℕ) → known_up n parents j ≡ some p → Leads p → P) → P
  unfolding reaches
  by_lead zero j h here above = here (eqb-true j a h)
  by_lead (suc reach) j h here above = by_reached (λ i. eqb i a) (known_up n parents) reach j h (λ e. here (eqb-true j a e)) (λ p e q. above p e (reach, q))

  -- ---- a set that has all of them

  pub gathered_descends : (set : ℕ) → set < 2 ^ n → GatheredTo n parents a set n → (k : ℕ) → member set k ≡ (ltb k n && descends_known n parents a k)
  gathered_descends set fits g k =
      by_bool (ltb k n)
      (λ t. rw t
      (same (member set k) (descends_known n parents a k)
      (λ m.
      let l = ltb-true k n t in
      let counted : suc (n - 1) ≡ n = omega arith in
      rw counted at (reaches_more (λ i. eqb i a) (known_up n parents) (n - 1) k
      (reaches_soon (λ i. eqb i a) (known_up n parents) n (λ j p e. (up_byte n parents j p e).1) k l (g.only k m))))
      (λ r. g.whole k (ltb-true k n t) (n, r))))
      (λ t. rw t (member_outside n set k fits (ltb-false k n t)))

  -- ---- a alone

  module _ (la : a < n) where
    alone : (j : ℕ) → member (with n 0 a) j ≡ eqb j a
    alone j = rw (member_with n 0 a j la, member_empty j)

    pub gathered_start : GatheredTo n parents a (with n 0 a) 0
    gathered_start =
        record {
          has = alone a ∙ eq-eqb a a refl;
          only = λ j m. met_here (λ i. eqb i a) (known_up n parents) j (sym (alone j) ∙ m);
          whole = λ j l. absurd (omega arith);
        }

    -- where nobody has a's byte, no other number leads to a
    pub gathered_alone : (byte : ℕ) → byte ≡ suc a → any n (λ k. eqb (get_or parents k 0) byte) ≡ false → GatheredTo n parents a (with n 0 a) n
    unfolding reaches
    gathered_alone byte named childless =
        record {
          has = gathered_start.has;
          only = gathered_start.only;
          whole = λ j l r. alone j ∙ eq-eqb j a (itself r.0 j l r.1);
        }
      where
        itself : (reach j : ℕ) → j < n → reaches reach (λ i. eqb i a) (known_up n parents) j ≡ true → j ≡ a
        itself zero j l h = eqb-true j a h
        itself (suc reach) j l h =
            by_reached (λ i. eqb i a) (known_up n parents) reach j h (λ e. eqb-true j a e)
            (λ p e q.
            let up = up_byte n parents j p e in
            clash (eqb (get_or parents j 0) byte) (eq-eqb (get_or parents j 0) byte (up.0 ∙ ap suc (itself reach p up.1 q) ∙ sym named))
            (any_none n (λ k. eqb (get_or parents k 0) byte) childless j l))

  -- ---- one pass, where every parent lies below its child

  pub gathered_more : (set k : ℕ) → k < n → get_or parents k 0 ≤ k → GatheredTo n parents a set k → GatheredTo n parents a (adopted n set k (get_or parents k 0)) (k + 1)
  gathered_more set k l low g = by_byte (get_or parents k 0) refl
    where
      by_byte : (up : ℕ) → get_or parents k 0 ≡ up → GatheredTo n parents a (adopted n set k up) (k + 1)
      by_byte zero e =
          record {
            has = g.has;
            only = g.only;
            whole = λ j lj r.
                by_last k j (omega arith)
                (λ q. by_lead r.0 j r.1 (λ here. rw here g.has) (λ p u s. absurd (none-ne-some p (sym (no_parent n parents j (rw q e)) ∙ u))))
                (λ below. g.whole j below r);
          }
      by_byte (suc p) e =
          by_bool (member set p)
          (λ t. rw t
          (record {
            has = joined a ∙ or_left (member set a) (eqb a k) g.has;
            only = λ j m.
                by_or (member set j) (eqb j k) (sym (joined j) ∙ m) (g.only j)
                (λ q. rw (eqb-true j k q) (met_up (λ i. eqb i a) (known_up n parents) k p (named p e) (g.only p t)));
            whole = λ j lj r.
                joined j
                ∙ by_last k j (omega arith) (λ q. or_right (member set j) (eqb j k) (eq-eqb j k q))
                (λ below. or_left (member set j) (eqb j k) (g.whole j below r));
          }))
          (λ t. rw t
          (record {
            has = g.has;
            only = g.only;
            whole = λ j lj r.
                by_last k j (omega arith)
                (λ q. by_lead r.0 j r.1 (λ here. rw here g.has)
                (λ p' u s.
                let byte = (up_byte n parents j p' u).0 in
                let same : p' ≡ p = (let two : suc p' ≡ suc p = sym byte ∙ rw q e in omega arith) in
                clash (member set p) (rw same at (g.whole p' (let lower = low in omega arith) s)) t))
                (λ below. g.whole j below r);
          }))
        where
          joined : (j : ℕ) → member (with n set k) j ≡ (member set j || eqb j k)
          joined j = member_with n set k j l

          named : (p : ℕ) → get_or parents k 0 ≡ suc p → known_up n parents k ≡ some p
          named p e = let lower = low in rw (e, le-leb (suc p) n (omega arith))

  -- numbers without a parent lead to a where they are a
  pub gathered_tops : (set k : ℕ) → NoParentsFrom n parents k → GatheredTo n parents a set k → GatheredTo n parents a set n
  gathered_tops set k tops g =
      record {
        has = g.has;
        only = g.only;
        whole = λ j l r.
            by_bool (ltb j k) (λ t. g.whole j (ltb-true j k t) r)
            (λ t. by_lead r.0 j r.1 (λ here. rw here g.has)
            (λ p u s. absurd (none-ne-some p (sym (no_parent n parents j (tops j (ltb-false j k t) l)) ∙ u))));
      }

  -- ---- by climbs

  pub gathered_sorted : (asked inside outside rest : ℕ) → Sorting n (λ i. eqb i a) (known_up n parents) asked inside outside rest →
      ((j : ℕ) → j < n → member asked j ≡ true) → rest ≡ 0 → GatheredTo n parents a inside n
  gathered_sorted asked inside outside rest h every e =
      record {
        has = h.sorted.has a (eq-eqb a a refl);
        only = h.sorted.leads;
        whole = λ j l r.
            by_or (member inside j) (member outside j) (h.tried j (every j l) (rw (e, member_empty j))) (λ m. m) (λ m. absurd (h.sorted.lost j m r));
      }

-- all numbers below w are members of the word of w ones
pub member_ones : (w k : ℕ) → k < w → member (2 ^ w - 1) k ≡ true
member_ones zero k l = absurd (omega arith)
member_ones (suc w) zero l = member_digit (2 ^ suc w - 1) 0 true (rw (div-one, pow-suc) (omega (arith, positive w)))
  where
    positive : (w : ℕ) → 0 < 2 ^ w
    positive zero = omega arith
    positive (suc w) = rw pow-suc (omega (arith, positive w))
member_ones (suc w) (suc k) l = member_suc (2 ^ suc w - 1) k ∙ rw half (member_ones w k (omega arith))
  where
    half : (2 ^ suc w - 1) / 2 ≡ 2 ^ w - 1
    half = rw pow-suc (omega arith)

-- ---- on a sound bench

module _ (n : ℕ) (parents : List ℕ) (ok : SoundParents n parents) where
  -- who leads to a by parents that are known is a or a descendant of it
  pub known_descends : (a k : ℕ) → k < n → descends_known n parents a k ≡ descends n parents a k
  known_descends a k l = reaches_above (known_up n parents) a n k ∙ rw (eqb_comm k a) (met_in_line n parents ok k l a)

  -- so the numbers that are gathered are the family
  pub known_family : length parents ≡ n → (a : ℕ) → a < n → (k : ℕ) → (ltb k n && descends_known n parents (a % n) k) ≡ descends n parents a k
  known_family long a la k =
      rw (mod-eq_of_lt la)
      (by_bool (ltb k n) (λ t. rw t (known_descends a k (ltb-true k n t)))
      (λ t. let l = ltb-false k n t in
      rw t (sym (descends_top n parents ok a k (get_or-eq_default parents 0 (rw long l)) ∙ ne_eqb k a (λ q. absurd (omega arith))))))
