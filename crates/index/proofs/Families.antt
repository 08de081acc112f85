-- A family, gathered from the sets that stand in an index: numbers taken in, and numbers that are still to be. With the index of a sound bench it is the family of
-- the rules. Assumes nothing.
use mathlib.Core.Path.{◌≡◌, refl, sym, ◌∙◌, ap}
use mathlib.Core.Bool.{Bool, true, false, not, ◌&&◌, ◌||◌, or-false, or_comm, and-true, and-false}
use mathlib.Core.List.{List}
use Prim.Native.Nat.{ℕ, zero, suc, ◌-◌, ◌%◌, ◌<◌, ◌^◌}
use native.Mathlib.Nat.{mod-eq_of_lt}
use native.Mathlib.Numerals.{add-one}
use native.Mathlib.Omega.{arith}
use borrow.Author.Tests.{eqb-true, eq-eqb, not-true}
use lib.Dec.{eqb}
use lib.ListN.{length, get_or}
use Rattle.sets.specs.Sets.{member, with, union, difference, without, least}
use Rattle.sets.proofs.Laws.{member_empty, member_with, member_union, member_difference, member_inside, with_fits, same_members, same_tests}
use Rattle.rules.specs.Bench.{is_free}
use Rattle.rules.proofs.Tests.{by_bool, clash, refuted, and_right, by_or, or_left, or_right}
use Rattle.rules.proofs.Facts.{sound_facts}
use Rattle.tables.specs.Tree.{tree, tree_shape, tree_state_of}
use Rattle.tables.specs.Families.{parent_in}
use Rattle.tables.proofs.Bytes.{none_byte}
use Rattle.tables.proofs.ViewLaws.{child_byte}
use Rattle.tables.proofs.Taken.{Taken, least_taken}
use Rattle.tables.proofs.Sorting.{with_grows}
use Rattle.tables.proofs.Families.{descends_top, descends_child, gathered_all}
use Rattle.views.specs.Tree.{SoundTree, descends}
use Rattle.views.specs.Arrays.{FreedIn}
use Rattle.index.specs.Tables.{IndexOf}
use Rattle.index.specs.Families.{HandedDown, FamilyBy, FreedBy}
use Rattle.index.proofs.IndexParts.{own_parts, child_read}

-- a number that was taken in, or is to be
abbrev reached : ℕ → ℕ → ℕ → Bool
reached gone rest k = member gone k || member rest k

-- Numbers that were taken in, `gone`, and numbers that are to be, `rest`: no number is of both, and a is one of them. All are of the family, and what stands at the
-- places of those that were taken in is among them.
pub record Gathering (index : List ℕ) (a gone rest : ℕ) : Type 0 where
  pub fits : gone < 2 ^ 64
  pub rest_fits : rest < 2 ^ 64
  pub apart : (k : ℕ) → member rest k ≡ true → member gone k ≡ false
  pub has : reached gone rest a ≡ true
  pub only : (test : ℕ → Bool) → HandedDown index a test → (k : ℕ) → reached gone rest k ≡ true → test k ≡ true
  pub passes : (p k : ℕ) → p < 64 → k < 64 → member gone p ≡ true → member (get_or index p 0) k ≡ true → reached gone rest k ≡ true

module _ (index : List ℕ) (a : ℕ) where
  module _ (gone rest : ℕ) (h : Gathering index a gone rest) where
    module _ (k : ℕ) (lk : k < 64) (was : member rest k ≡ true) (next : ℕ)
        (members : (j : ℕ) → member next j ≡ ((member rest j || member (get_or index k 0) j) && not (member (with 64 gone k) j))) where
      -- with k taken in, what stands at its place is to be taken in too
      reached_more : (j : ℕ) → reached (with 64 gone k) next j ≡ (reached gone rest j || member (get_or index k 0) j)
      reached_more j =
          rw (members j, member_with 64 gone k j lk)
          (by_bool (eqb j k)
          (λ t. rw (t, eqb-true j k t, was, or_comm (member gone k) true))
          (λ t. rw (t, or-false (member gone j)) (either (member gone j) (member rest j) (member (get_or index k 0) j))))
        where
          either : (g r c : Bool) → (g || ((r || c) && not g)) ≡ ((g || r) || c)
          either true r c = refl
          either false r c = and-true (r || c)

      gathering_more : next < 2 ^ 64 → Gathering index a (with 64 gone k) next
      gathering_more fits =
          record {
            fits = grown_fits;
            rest_fits = fits;
            apart = λ j m. not-true (member (with 64 gone k) j)
                (and_right (member rest j || member (get_or index k 0) j) (not (member (with 64 gone k) j)) (sym (members j) ∙ m));
            has = reached_more a ∙ or_left (reached gone rest a) (member (get_or index k 0) a) h.has;
            only = λ test handed j m.
                by_or (reached gone rest j) (member (get_or index k 0) j) (sym (reached_more j) ∙ m) (h.only test handed j)
                (λ child. handed.passes k j lk (inside j m) (h.only test handed k (or_right (member gone k) (member rest k) was)) child);
            passes = λ p j lp lj m child.
                reached_more j
                ∙ by_or (member gone p) (eqb p k) (sym (member_with 64 gone k p lk) ∙ m)
                (λ old. or_left (reached gone rest j) (member (get_or index k 0) j) (h.passes p j lp lj old child))
                (λ new. or_right (reached gone rest j) (member (get_or index k 0) j) (rw (eqb-true p k new) at child));
          }
        where
          grown_fits : with 64 gone k < 2 ^ 64
          grown_fits = with_fits 64 gone k h.fits

          inside : (j : ℕ) → reached (with 64 gone k) next j ≡ true → j < 64
          inside j m = by_or (member (with 64 gone k) j) (member next j) m (member_inside 64 (with 64 gone k) j grown_fits) (member_inside 64 next j fits)

    -- the least number of the rest, k, is taken in
    module _ (more : rest ≡ 0 → ⊥) (k grown : ℕ) (least_k : k ≡ least 64 rest) (grown_k : grown ≡ with 64 gone k) where
      take : Taken 64 rest k (without 64 rest (least 64 rest))
      take = rw least_k (least_taken 64 rest h.rest_fits more)

      pub gathering_turn : (next : ℕ) → next ≡ difference (union rest (get_or index k 0)) grown → next < 2 ^ 64 → Gathering index a grown next
      gathering_turn next e fits =
          rw grown_k
          (gathering_more k take.known take.was next
          (λ j. rw (e, grown_k, member_difference, member_union))
          fits)

      -- it wasn't taken in before
      pub gathering_falls : 2 ^ 64 - grown < 2 ^ 64 - gone
      gathering_falls =
          let grows = with_grows 64 gone k take.known (h.apart k take.was) in
          let fits = with_fits 64 gone k h.fits in
          omega arith

    -- where nothing is left, the numbers taken in are the family
    pub gathering_end : rest ≡ 0 → FamilyBy index a gone
    gathering_end e =
        record {
          fits = h.fits;
          closed = record { has = sym (all_gone a) ∙ h.has; passes = λ p k lp lk m child. sym (all_gone k) ∙ h.passes p k lp lk m child };
          least = λ test handed k m. h.only test handed k (all_gone k ∙ m);
        }
      where
        all_gone : (k : ℕ) → reached gone rest k ≡ member gone k
        all_gone k = rw (e, member_empty k) (or-false (member gone k))

  -- at the start a is taken in, and what stands at its place is to be: as if a alone was to be taken in before
  pub gathering_start : (grown next : ℕ) → a < 64 → grown ≡ with 64 0 a → next ≡ difference (get_or index a 0) grown → next < 2 ^ 64 → Gathering index a grown next
  gathering_start grown next la eg en fits =
      rw eg (gathering_more 0 (with 64 0 a) alone a la (itself a (eq-eqb a a refl)) next (λ j. rw (en, eg) (members j)) fits)
    where
      only_a : (k : ℕ) → member (with 64 0 a) k ≡ eqb k a
      only_a k = member_with 64 0 a k la ∙ rw (member_empty k)

      itself : (k : ℕ) → eqb k a ≡ true → member (with 64 0 a) k ≡ true
      itself k e = only_a k ∙ e

      alone : Gathering index a 0 (with 64 0 a)
      alone =
          record {
            fits = omega arith;
            rest_fits = with_fits 64 0 a (omega arith);
            apart = λ k m. member_empty k;
            has = or_right (member 0 a) (member (with 64 0 a) a) (itself a (eq-eqb a a refl));
            only = λ test handed k m.
                by_or (member 0 k) (member (with 64 0 a) k) m (λ z. clash (member 0 k) z (member_empty k))
                (λ t. rw (eqb-true k a (sym (only_a k) ∙ t)) handed.has);
            passes = λ p k lp lk m child. clash (member 0 p) m (member_empty p);
          }

      members : (j : ℕ) → member (difference (get_or index a 0) (with 64 0 a)) j ≡ ((member (with 64 0 a) j || member (get_or index a 0) j) && not (member (with 64 0 a) j))
      members j =
          member_difference (get_or index a 0) (with 64 0 a) j
          ∙ by_bool (member (with 64 0 a) j) (λ t. rw (t, and-false (member (get_or index a 0) j))) (λ t. rw t)

  -- There is one such set.
  pub one_family : (one other : ℕ) → FamilyBy index a one → FamilyBy index a other → one ≡ other
  one_family one other f g =
      same_members 64 one other f.fits g.fits
      (λ k l. same_tests (member one k) (member other k) (f.least (member other) g.closed k) (g.least (member one) f.closed k))

-- ---- the index of a sound bench

module _ (parents states : List ℕ) (ok : SoundTree parents states) (long : length parents ≡ 64) (index : List ℕ) (h : IndexOf (tree parents states) index) where
  -- what stands at the place of a number that isn't free: its children, whose bytes say so
  child_of : (p k : ℕ) → p < 64 → k < 64 → is_free (tree_state_of (get_or states p 0)) ≡ false → member (get_or index p 0) k ≡ eqb (get_or parents k 0) (suc p)
  child_of p k lp lk u =
      ap (λ word. member word k) (child_read (own_parts index h.long) p lp)
      ∙ h.sets.of_children.each p k lp lk u
      ∙ rw (← add-one p) (child_byte (get_or parents k 0) p)

  module _ (a : ℕ) (in_use : is_free (tree_state_of (get_or states a 0)) ≡ false) where
    -- a descendant of a number that isn't free isn't free: it has a parent
    pub descends_in_use : (k : ℕ) → k < 64 → descends parents a k ≡ true → is_free (tree_state_of (get_or states k 0)) ≡ false
    descends_in_use k lk d =
        refuted (is_free (tree_state_of (get_or states k 0)))
        (λ free. let top = none_byte (get_or parents k 0) ((sound_facts (tree_shape 64) (tree parents states) ok k lk).free_has_no_parent free) in
        let e = eqb-true k a (sym (descends_top 64 parents (states, ok) a k top) ∙ d) in
        clash (is_free (tree_state_of (get_or states k 0))) free (rw e in_use))

    descends_handed : HandedDown index a (descends parents a)
    descends_handed =
        record {
          has = or_left (eqb a a) _ (eq-eqb a a refl);
          passes = λ p k lp lk d child.
              let e = eqb-true (get_or parents k 0) (suc p) (sym (child_of p k lp lk (descends_in_use p lp d)) ∙ child) in
              descends_child 64 parents (states, ok) a k p lk e ∙ or_right (eqb k a) (descends parents a p) d;
        }

    pub family_known : (gone : ℕ) → FamilyBy index a gone → (k : ℕ) → member gone k ≡ descends parents a k
    family_known gone f =
        gathered_all 64 parents (states, ok) long a gone (record { fits = f.fits; has = f.closed.has; only = only }) (λ k lk. by_byte k lk (get_or parents k 0) refl)
      where
        only : (k : ℕ) → member gone k ≡ true → descends parents a k ≡ true
        only = f.least (descends parents a) descends_handed

        by_byte : (k : ℕ) → k < 64 → (up : ℕ) → get_or parents k 0 ≡ up → parent_in gone up ≡ true → member gone k ≡ true
        by_byte k lk zero e m = clash false m refl
        by_byte k lk (suc p) e m =
            let lp = member_inside 64 gone p f.fits m in
            f.closed.passes p k lp lk m (child_of p k lp lk (descends_in_use p lp (only p m)) ∙ eq-eqb (get_or parents k 0) (suc p) e)

  -- What a commit or an abort frees is what it frees by the rules.
  pub freed_known : (code x gone : ℕ) → FreedBy code x parents index gone → FreedIn parents states code x gone
  freed_known code x gone f =
      record {
        family = λ t l r. rw (mod-eq_of_lt l) at (family_known (x % 64) (rw (mod-eq_of_lt l, r)) gone (f.family t));
        nobody = f.nobody;
      }
