-- Families gathered by passes over the parents: a set grown by children, up to a number and by a whole pass, and what holds when a pass adds nothing.
use mathlib.Core.Path.{◌≡◌, refl, sym, ◌∙◌, ap}
use mathlib.Core.Bool.{true, false, ◌||◌}
use mathlib.Core.List.{List}
use Prim.Native.Nat.{ℕ, zero, suc, ◌+◌, ◌≤◌, ◌<◌, ◌^◌}
use native.Mathlib.Omega.{arith}
use borrow.Author.Tests.{eqb-true, eq-eqb, ltb-true, ltb-false}
use lib.Dec.{eqb, ltb}
use lib.Pow.{pow_pos}
use lib.ListN.{length, get_or, get_or-eq_default}
use Rattle.sets.specs.Sets.{member, with, single}
use Rattle.sets.proofs.Laws.{member_empty, member_with, with_inside, with_fits, union_grows}
use Rattle.rules.specs.Tests.{any}
use Rattle.rules.specs.Owners.{above, is_ancestor, in_family}
use Rattle.rules.proofs.Tests.{by_bool, clash, same, by_or, or_left, or_right, by_last, any_none}
use Rattle.rules.proofs.Walks.{climb}
use Rattle.rules.proofs.Family.{family_top, family_child}
use Rattle.tables.proofs.Bytes.{none_byte, parent_byte}
use Rattle.tables.specs.Tree.{up_of, tree, SoundParents, descends, tree_shape}
use Rattle.tables.specs.Families.{parent_in, adopted, NoParentsFrom, GrownTo, Grown}

-- ---- a set grown by children

pub grown_none : (n : ℕ) (parents : List ℕ) (set : ℕ) → GrownTo n parents set set 0
grown_none n parents set =
    record { larger = omega arith; keeps = λ j h. h; descend = λ a h. h; closed = λ e j l h. absurd (omega arith); low_closed = λ low j l h. absurd (omega arith) }

-- numbers that have no parent are nobody's children
pub grown_childless : (n : ℕ) (parents : List ℕ) (set grown k : ℕ) → NoParentsFrom n parents k → GrownTo n parents set grown k → Grown n parents set grown
grown_childless n parents set grown k tops g =
    record {
      larger = g.larger;
      keeps = g.keeps;
      descend = g.descend;
      closed = λ e j l h. below set j l h (λ lj. g.closed e j lj h);
      low_closed = λ low j l h. below grown j l h (λ lj. g.low_closed low j lj h);
    }
  where
    below : {P : Type 0} (s j : ℕ) → j < n → parent_in s (get_or parents j 0) ≡ true → (j < k → P) → P
    below s j l h lower = by_bool (ltb j k) (λ t. lower (ltb-true j k t)) (λ t. clash false (rw (tops j (ltb-false j k t) l) at h) refl)

-- ---- one number is adopted

adopted_larger : (n set k up : ℕ) → k < n → set ≤ adopted n set k up
adopted_larger n set k up l = by_bool (parent_in set up)
    (λ t. rw (t, with_inside n set k l) (union_grows set (single k)))
    (λ t. rw t (omega arith))

adopted_keeps : (n set k up j : ℕ) → k < n → member set j ≡ true → member (adopted n set k up) j ≡ true
adopted_keeps n set k up j l h = by_bool (parent_in set up)
    (λ t. rw (t, member_with n set k j l, h))
    (λ t. rw (t, h))

-- a number of the set with k adopted was in it, or is k with its parent in it
adopted_new : {P : Type 0} (n set k up j : ℕ) → k < n → member (adopted n set k up) j ≡ true → (member set j ≡ true → P) → (j ≡ k → parent_in set up ≡ true → P) → P
adopted_new n set k up j l h old new = by_bool (parent_in set up)
    (λ t. by_or (member set j) (eqb j k) (sym (member_with n set k j l) ∙ rw t at h) old (λ e. new (eqb-true j k e) t))
    (λ t. old (rw t at h))

-- where the parent is in the set, the number is
adopted_in : (n set k up : ℕ) → k < n → parent_in set up ≡ true → member (adopted n set k up) k ≡ true
adopted_in n set k up l t =
    rw (t, member_with n set k k l) (or_right (member set k) (eqb k k) (eq-eqb k k refl))

-- adopting k changes nothing for those whose parents have lower numbers than k
adopted_below : (n set k up x : ℕ) → k < n → x ≤ k → parent_in (adopted n set k up) x ≡ true → parent_in set x ≡ true
adopted_below n set k up zero l low h = h
adopted_below n set k up (suc p) l low h = adopted_new n set k up p l h (λ old. old) (λ e t. absurd (omega arith))

module _ (n : ℕ) (parents : List ℕ) (ok : SoundParents n parents) where
  pub descends_top : (a k : ℕ) → get_or parents k 0 ≡ 0 → descends n parents a k ≡ eqb k a
  unfolding is_ancestor in_family
  descends_top a k e = family_top (tree_shape n) (tree parents ok.0) ok.1 a k (rw e)

  pub descends_child : (a k p : ℕ) → k < n → get_or parents k 0 ≡ suc p → descends n parents a k ≡ (eqb k a || descends n parents a p)
  unfolding is_ancestor in_family
  descends_child a k p l e = family_child (tree_shape n) (tree parents ok.0) ok.1 a k p l (rw e)

  -- a descendant of a number of the table is one too
  pub descends_known : length parents ≡ n → (a k : ℕ) → a < n → descends n parents a k ≡ true → k < n
  descends_known long a k la d =
      by_bool (ltb k n) (ltb-true k n)
      (λ t. let past = get_or-eq_default parents 0 (rw long (ltb-false k n t)) in
      let e = eqb-true k a (sym (descends_top a k past) ∙ d) in
      omega arith)

  -- a number whose parent is in a set of descendants is a descendant
  descends_adopted : (a set k : ℕ) → k < n → ((j : ℕ) → member set j ≡ true → descends n parents a j ≡ true) → parent_in set (get_or parents k 0) ≡ true →
      descends n parents a k ≡ true
  descends_adopted a set k l only = by_byte (get_or parents k 0) refl
    where
      by_byte : (up : ℕ) → get_or parents k 0 ≡ up → parent_in set up ≡ true → descends n parents a k ≡ true
      by_byte zero e h = clash false h refl
      by_byte (suc p) e h = descends_child a k p l e ∙ or_right (eqb k a) (descends n parents a p) (only p h)

  pub grown_more : (set grown k : ℕ) → k < n → GrownTo n parents set grown k → GrownTo n parents set (adopted n grown k (get_or parents k 0)) (k + 1)
  grown_more set grown k l g =
      record {
        larger = let more = adopted_larger n grown k up l in let before = g.larger in omega arith;
        keeps = λ j h. adopted_keeps n grown k up j l (g.keeps j h);
        descend = λ a only j h.
            adopted_new n grown k up j l h (g.descend a only j)
            (λ e t. rw e (descends_adopted a grown k l (g.descend a only) t));
        closed = λ e j lj h.
            let same = unchanged e in
            by_last k j (omega arith)
            (λ q. rw q (ap (λ s. member s k) (sym e) ∙ adopted_in n grown k up l (rw (same, ← q) h)))
            (λ below. g.closed same j below h);
        low_closed = λ low j lj h.
            by_last k j (omega arith)
            (λ q. rw q (adopted_in n grown k up l (adopted_below n grown k up up l (low k l) (rw q at h))))
            (λ below.
            let jl = low j (omega arith) in
            adopted_keeps n grown k up j l (g.low_closed low j below (adopted_below n grown k up (get_or parents j 0) l (omega arith) h)));
      }
    where
      up : ℕ
      up = get_or parents k 0

      unchanged : adopted n grown k up ≡ set → grown ≡ set
      unchanged e = let more = adopted_larger n grown k up l in let before = g.larger in omega arith

-- ---- the family of a

-- The set has the children of all its numbers.
abbrev pub Closed : ℕ → List ℕ → ℕ → Type 0
Closed n parents set = (k : ℕ) → k < n → parent_in set (get_or parents k 0) ≡ true → member set k ≡ true

-- A set of descendants of a, with a.
pub record Gathered (n : ℕ) (parents : List ℕ) (a set : ℕ) : Type 0 where
  pub fits : set < 2 ^ n
  pub has : member set a ≡ true
  pub only : (k : ℕ) → member set k ≡ true → descends n parents a k ≡ true

pub gathered_start : (n : ℕ) (parents : List ℕ) (a : ℕ) → a < n → Gathered n parents a (with n 0 a)
gathered_start n parents a l =
    record {
      fits = with_fits n 0 a (pow_pos n);
      has = alone a ∙ eq-eqb a a refl;
      only = λ k h. or_left (eqb k a) (above n (up_of parents) a k) (sym (alone k) ∙ h);
    }
  where
    alone : (k : ℕ) → member (with n 0 a) k ≡ eqb k a
    alone k = rw (member_with n 0 a k l, member_empty k)

pub gathered_turn : (n : ℕ) (parents : List ℕ) (a set grown : ℕ) → grown < 2 ^ n → Gathered n parents a set → Grown n parents set grown → Gathered n parents a grown
gathered_turn n parents a set grown fits h g = record { fits = fits; has = g.keeps a h.has; only = g.descend a h.only }

-- a set that has a isn't empty
pub gathered_some : (n : ℕ) (parents : List ℕ) (a set : ℕ) → Gathered n parents a set → set ≡ 0 → ⊥
gathered_some n parents a set h e = clash (member set a) h.has (rw (e, member_empty))

-- where no number has a's byte for its parent, a alone has the children of all its numbers
pub childless_closed : (n : ℕ) (parents : List ℕ) (a byte : ℕ) → a < n → byte ≡ suc a → any n (λ k. eqb (get_or parents k 0) byte) ≡ false → Closed n parents (with n 0 a)
childless_closed n parents a byte la named alone k l = by_byte (get_or parents k 0) refl
  where
    by_byte : (up : ℕ) → get_or parents k 0 ≡ up → parent_in (with n 0 a) up ≡ true → member (with n 0 a) k ≡ true
    by_byte zero e h = clash false h refl
    by_byte (suc p) e h =
        let q = eqb-true p a (rw (member_with n 0 a p la, member_empty p) at h) in
        clash (eqb (get_or parents k 0) byte) (eq-eqb (get_or parents k 0) byte (e ∙ ap suc q ∙ sym named))
        (any_none n (λ k. eqb (get_or parents k 0) byte) alone k l)

-- a set of descendants that has a and the children of all its numbers is the family of a
pub gathered_all : (n : ℕ) (parents : List ℕ) → SoundParents n parents → length parents ≡ n → (a set : ℕ) → Gathered n parents a set → Closed n parents set → (k : ℕ) →
    member set k ≡ descends n parents a k
gathered_all n parents ok long a set h closed k =
    same (member set k) (descends n parents a k) (h.only k)
    (λ d. by_bool (ltb k n) (λ t. inside k (ltb-true k n t) d)
    (λ t. itself k (sym (descends_top n parents ok a k (get_or-eq_default parents 0 (rw long (ltb-false k n t)))) ∙ d)))
  where
    itself : (k : ℕ) → eqb k a ≡ true → member set k ≡ true
    itself k e = rw (eqb-true k a e) h.has

    inside : (k : ℕ) → k < n → descends n parents a k ≡ true → member set k ≡ true
    inside =
        climb (tree_shape n) (tree parents ok.0) ok.1 (λ k. descends n parents a k ≡ true → member set k ≡ true)
        (λ k l e d. itself k (sym (descends_top n parents ok a k (none_byte (get_or parents k 0) e)) ∙ d))
        (λ k p l lp e below d. let up = parent_byte (get_or parents k 0) p e in
        by_or (eqb k a) (descends n parents a p) (sym (descends_child n parents ok a k p l up) ∙ d) (itself k)
        (λ dp. closed k l (rw up (below dp))))
