-- On the table of a sound bench, what a quiet, a commit or an abort does by the index is what it does by the arrays alone, and the groups and places that it stores are those of
-- the arrays after it. Assumes nothing.
use mathlib.Core.Path.{◌≡◌, refl, sym, ◌∙◌, ap, subst}
use mathlib.Core.Bool.{Bool, true, false}
use mathlib.Core.List.{List}
use Prim.Native.Nat.{ℕ, zero, suc, ◌+◌, ◌-◌, ◌%◌, ◌≤◌, ◌<◌, ◌^◌}
use native.Mathlib.Nat.{mod-eq_of_lt}
use native.Mathlib.Omega.{arith}
use borrow.Author.Tests.{eqb-true, eqb-false, eq-eqb, leb-false}
use lib.Dec.{eqb, leb}
use lib.ListN.{length, get_or, length-set}
use Rattle.sets.specs.Sets.{member, with, difference}
use Rattle.sets.proofs.Laws.{member_inside}
use Rattle.rules.specs.Bench.{is_free}
use Rattle.rules.specs.Answers.{row_by}
use Rattle.rules.proofs.Tests.{by_bool, clash, refuted, or_left}
use Rattle.tables.specs.Tree.{tree_state_of}
use Rattle.tables.proofs.States.{running_byte}
use Rattle.views.specs.Tree.{SoundTree, descends}
use Rattle.views.specs.Arrays.{frees_by}
use Rattle.steps.specs.Arrays.{lent, stand_at}
use Rattle.rows.specs.Rows.{quiet_row, commit_row, abort_row, end_answer}
use Rattle.steps.specs.Changes as changes
use Rattle.steps.specs.Steps.{quiet_answer}
use Rattle.index.specs.Places.{unknown, group_at, places_at, Placed, group_by, places_of, still_in, left_in}
use Rattle.index.specs.Tables.{Table, running_set, arrays_in, IndexIn}
use Rattle.index.specs.Families.{FamilyBy, FreedBy}
use Rattle.index.specs.Kept.{stopped, names_parent, left_parent, grouped, somewhere, family_still, aborted_by, aborted_index, committed_by, ended_by, ended_index, quiet_answer_by, quieted_by, quieted_index}
use Rattle.index.proofs.SoundBytes.{SoundBytes}
use Rattle.index.proofs.StandLaws.{somewhere_stands}
use Rattle.index.proofs.Leaving.{left_all}
use Rattle.index.proofs.PlacedLaws.{SameBeyond, beyond_set, beyond_twice, beyond_placed, committed_placed}
use Rattle.index.proofs.PlacedEnds.{instrument_long, family_covered, group_covered, freed_placed, aborted_placed, quieted_placed}
use Rattle.index.proofs.Families.{descends_in_use, family_known}

-- ---- rows that accept

pub quiet_accepts : (states : List ℕ) (stands : Bool) (a i : ℕ) → quiet_row states stands a i ≡ 0 → (a < 64) × (get_or states a 0 ≡ 3 + a)
quiet_accepts states stands a i e =
    by_bool (leb 64 a) (λ t. absurd (let one : ◌≡◌ {A = ℕ} 1 0 = rw t at e in omega arith))
    (λ t. by_bool (leb 128 i) (λ u. absurd (let two : ◌≡◌ {A = ℕ} 2 0 = rw (t, u) at e in omega arith))
    (λ u. by_bool (eqb (get_or states a 0) (3 + a)) (λ v. (leb-false 64 a t, eqb-true (get_or states a 0) (3 + a) v))
    (λ v. absurd (let ten : ◌≡◌ {A = ℕ} 10 0 = rw (t, u, v) at e in omega arith))))

commit_accepts : (states : List ℕ) (busy : Bool) (a : ℕ) → commit_row states busy a ≡ 0 → (a < 64) × (get_or states a 0 ≡ 1)
commit_accepts states busy a e =
    by_bool (leb 64 a) (λ t. absurd (let one : ◌≡◌ {A = ℕ} 1 0 = rw t at e in omega arith))
    (λ t. by_bool (eqb (get_or states a 0) 1) (λ v. (leb-false 64 a t, eqb-true (get_or states a 0) 1 v))
    (λ v. absurd (let four : ◌≡◌ {A = ℕ} 4 0 = rw (t, v) at e in omega arith)))

abort_accepts : (states : List ℕ) (a : ℕ) → abort_row states a ≡ 0 → (a < 64) × (get_or states a 0 ≡ 1)
unfolding row_by
abort_accepts states a e =
    by_bool (leb 64 a) (λ t. absurd (let one : ◌≡◌ {A = ℕ} 1 0 = rw t at e in omega arith))
    (λ t. by_bool (eqb (get_or states a 0) 1) (λ v. (leb-false 64 a t, eqb-true (get_or states a 0) 1 v))
    (λ v. absurd (let four : ◌≡◌ {A = ℕ} 4 0 = rw (t, running_byte 64 (get_or states a 0), v) at e in omega arith)))

pub end_accepts : (code : ℕ) (busy : Bool) (x : ℕ) (states : List ℕ) → end_answer code busy x states ≡ 0 → (x < 64) × (get_or states x 0 ≡ 1)
end_accepts code busy x states e =
    by_bool (eqb code 5) (λ t. commit_accepts states busy x (rw t at e))
    (λ t. by_bool (eqb code 6) (λ u. abort_accepts states x (rw (t, u) at e))
    (λ u. absurd (let eight : ◌≡◌ {A = ℕ} 8 0 = rw (t, u) at e in omega arith)))

-- a number that isn't free in the tree doesn't drain
tree_low : (byte : ℕ) → is_free (tree_state_of byte) ≡ false → byte < 3
tree_low zero in_use = omega arith
tree_low (suc zero) in_use = omega arith
tree_low (suc (suc zero)) in_use = omega arith
tree_low (suc (suc (suc h))) in_use = clash true refl in_use

module _ {t : Table} (ok : SoundBytes t.states t.owners) (sound : SoundTree t.parents t.states) (parents_long : length t.parents ≡ 64) (h : IndexIn t) where
  -- ---- quiet

  module _ (a i : ℕ) (known : a < 64) (drains : get_or t.states a 0 ≡ 3 + a) where
    group_known : group_by t.states t.index a ≡ changes.group_in t.states a
    group_known =
        rw (mod-eq_of_lt known)
        (by_bool (eqb (group_at t.index a) unknown) (λ u. rw u)
        (λ u. rw u (rw (mod-eq_of_lt known) at (h.placed.groups a known drains (eqb-false (group_at t.index a) unknown u)))))

    abbrev group : ℕ
    group = changes.group_in t.states a

    -- the places that are left, by any word for the group and any number for a
    abbrev left : ℕ → List ℕ
    left g = changes.left_instrument t.owners i g

    abbrev still : ℕ → ℕ → ℕ
    still g n = still_in (left g) g (places_at t.index n)

    group_stands : somewhere (still group (a % 64)) ≡ changes.stand_in (left group) group
    group_stands =
        ap (λ (n : ℕ). somewhere (still group n)) (mod-eq_of_lt known)
        ∙ somewhere_stands (left group) group (instrument_long t.owners i group ∙ ok.owners_long) (places_at t.index a) (group_covered ok h.of_tree.long h.placed a i known drains)

    pub quieted_plain : quieted_by a i t ≡ changes.quieted a i (arrays_in t)
    quieted_plain =
        ap (λ (g : ℕ). lent t.parents (changes.freed_unless (somewhere (still g (a % 64))) g t.states) (left g)) group_known
        ∙ ap (λ stands. lent t.parents (changes.freed_unless stands group t.states) (left group)) group_stands

    pub quiet_placed : Placed (quieted_by a i t).states (quieted_by a i t).owners (quieted_index a i t)
    quiet_placed =
        subst (λ (g : ℕ). Placed (changes.freed_unless (somewhere (still g (a % 64))) g t.states) (left g) (grouped (a % 64) g (still g (a % 64)) t.index)) (sym group_known)
        (subst (λ (n : ℕ). Placed (changes.freed_unless (somewhere (still group n)) group t.states) (left group) (grouped n group (still group n) t.index)) (sym (mod-eq_of_lt known))
        (quieted_placed ok h.of_tree.long h.placed a i known drains))

  pub quiet_answer_plain : (a i : ℕ) → quiet_answer_by a i t ≡ quiet_answer a i (arrays_in t)
  quiet_answer_plain a i =
      by_bool (leb 64 a) (λ u. rw u)
      (λ u. by_bool (eqb (get_or t.states a 0) (3 + a))
      (λ v. ap (λ (g : ℕ). quiet_row t.states (stand_at t.owners g i) a i) (group_known a i (leb-false 64 a u) (eqb-true (get_or t.states a 0) (3 + a) v)))
      (λ v. rw (u, v)))

  -- ---- commit and abort of x, which runs

  module _ (code x gone : ℕ) (known : x < 64) (runs : get_or t.states x 0 ≡ 1) (freed : FreedBy code x t.parents t.index gone) where
    -- the family is of the tree
    record Rooted : Type 0 where
      pub fits : gone < 2 ^ 64
      pub inside : (k : ℕ) → member gone k ≡ true → k < 64
      pub low : (k : ℕ) → member gone k ≡ true → get_or t.states k 0 < 3
      pub has : member gone x ≡ true

    rooted : frees_by code (get_or t.parents (x % 64) 0) ≡ true → Rooted
    rooted frees =
        record {
          fits = family.fits;
          inside = λ k m. member_inside 64 gone k family.fits m;
          low = λ k m. tree_low (get_or t.states k 0)
              (descends_in_use t.parents t.states sound parents_long t.index h.of_tree x in_use k (member_inside 64 gone k family.fits m) (sym (members k) ∙ m));
          has = members x ∙ or_left (eqb x x) _ (eq-eqb x x refl);
        }
      where
        family : FamilyBy t.index x gone
        family = rw (mod-eq_of_lt known) at (freed.family frees)

        in_use : is_free (tree_state_of (get_or t.states x 0)) ≡ false
        in_use = rw runs

        members : (k : ℕ) → member gone k ≡ descends t.parents x k
        members = family_known t.parents t.states sound parents_long t.index h.of_tree x in_use gone family

    module _ (r : Rooted) where
      aborted_plain : somewhere (family_still gone t) ≡ changes.stand_in t.owners gone
      aborted_plain =
          somewhere_stands t.owners gone ok.owners_long (places_of t.index gone) (family_covered ok h.of_tree.long h.placed gone r.inside r.low)

      freed_plain : left_in (places_of t.index gone) gone t.owners ≡ changes.sets_left gone t.owners
      freed_plain =
          left_all (places_of t.index gone) gone t.owners ok.owners_long
          (λ word l out k stands. refuted (member gone k)
          (λ m. clash (member (places_of t.index gone) (word % 64)) (family_covered ok h.of_tree.long h.placed gone r.inside r.low word k l stands m) out))

    pub ended_plain : ended_by code gone x t ≡ changes.ended code gone x (arrays_in t)
    ended_plain =
        by_bool (eqb code 6)
        (λ u. rw u (ap (λ stands. lent (changes.bytes_left gone t.parents) (changes.bytes_put gone (changes.aborted_byte stands x) t.states) t.owners) (aborted_plain (rooted (rw u)))))
        (λ u. by_bool (eqb (get_or t.parents (x % 64) 0) 0)
        (λ v. rw (u, v) (ap (λ (owners : List ℕ). lent (changes.bytes_left gone t.parents) (changes.bytes_left gone t.states) owners) (freed_plain (rooted (rw (u, v))))))
        (λ v. rw (u, v)))

    -- ---- the groups and places that are stored

    module _ (low : get_or t.parents (x % 64) 0 ≤ 64) where
      abbrev up : ℕ
      up = get_or t.parents (x % 64) 0

      -- what is stored for those who leave the tree lies before them
      parent_beyond : SameBeyond t.index (left_parent gone x up t.index)
      parent_beyond =
          let stops = beyond_set t.index 128 (difference (running_set t.index) (with 64 gone (x % 64))) (omega arith) in
          by_bool (names_parent up) (λ u. rw u (beyond_twice stops (beyond_set (stopped gone (x % 64) t.index) (up - 1) _ (omega arith)))) (λ u. rw u stops)

      parent_long : length (left_parent gone x up t.index) ≡ 257
      parent_long =
          by_bool (names_parent up) (λ u. rw u (length-set (stopped gone (x % 64) t.index) (up - 1) _ ∙ length-set t.index 128 _ ∙ h.of_tree.long))
          (λ u. rw u (length-set t.index 128 _ ∙ h.of_tree.long))

      still_runs : get_or t.states (x % 64) 0 ≡ 1
      still_runs = rw (mod-eq_of_lt known) runs

      abort_placed : Rooted → Placed (aborted_by gone x t).states t.owners (aborted_index gone x t)
      abort_placed r =
          aborted_placed ok h.of_tree.long h.placed gone r.inside r.low (x % 64) (changes.aborted_byte (somewhere (family_still gone t)) x) (rw (mod-eq_of_lt known) known)
          (rw (mod-eq_of_lt known) r.has) still_runs r.fits (λ e. rw e) (λ e. rw e) (left_parent gone x up t.index) parent_long parent_beyond

      commit_placed : eqb code 6 ≡ false → Placed (committed_by gone x t).states (committed_by gone x t).owners (stopped gone (x % 64) t.index)
      commit_placed u =
          beyond_placed (beyond_set t.index 128 _ (omega arith))
          (by_bool (eqb up 0)
          (λ v. let r = rooted (rw (u, v)) in rw (v, freed_plain r) (freed_placed ok h.of_tree.long h.placed gone r.inside r.low))
          (λ v. rw v (committed_placed ok h.of_tree.long h.placed (x % 64) (rw (mod-eq_of_lt known) known) still_runs)))

      pub end_placed : Placed (ended_by code gone x t).states (ended_by code gone x t).owners (ended_index code gone x t)
      end_placed = by_bool (eqb code 6) (λ u. rw u (abort_placed (rooted (rw u)))) (λ u. rw u (commit_placed u))
