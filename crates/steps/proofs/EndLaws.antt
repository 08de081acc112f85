-- On the arrays of a sound bench a commit or an abort in place is the step of the rules. Assumes nothing.
use mathlib.Core.Path.{◌≡◌, refl, sym, ◌∙◌}
use mathlib.Core.Bool.{Bool, true}
use mathlib.Core.Option.{some}
use Prim.Native.Nat.{ℕ, ◌%◌, ◌<◌}
use native.Mathlib.Omega.{arith}
use native.Mathlib.Nat.{mod-eq_of_lt}
use borrow.Author.Tests.{eqb-true, eqb-false}
use lib.Dec.{eqb}
use lib.ListN.{get_or, length-map}
use Rattle.sets.specs.Sets.{member, difference}
use Rattle.rules.specs.Requests.{commit, abort}
use Rattle.rules.specs.Answers.{answer_of}
use Rattle.rules.specs.ReadWrite.{read_write}
use Rattle.rules.specs.Frames.{framed}
use Rattle.rules.proofs.Frames.{unframed}
use Rattle.rules.proofs.Tests.{by_bool}
use Rattle.tables.specs.Changes.{Changed}
use Rattle.views.specs.Tree.{descends}
use Rattle.views.specs.View.{layout, arrays}
use Rattle.views.specs.Index.{KnowsChild, KnowsFamily}
use Rattle.views.specs.Arrays.{Freed, Aborted, frees_by}
use Rattle.tables.proofs.States.{runs_byte}
use Rattle.tables.proofs.ViewLaws.{parents_sound}
use Rattle.tables.proofs.Families.{descends_known}
use Rattle.tables.proofs.InPlace.{commit_found, commit_acts, commit_top_in_place, commit_sub_in_place, abort_found, abort_acts, abort_in_place}
use Rattle.views.proofs.Words.{arrays_long, reads_long_lem, writes_long_lem, family_left, family_aborted}
use Rattle.steps.specs.Arrays.{Arrays, view_of, read_sets, write_sets, SoundLists, SteppedTo}
use Rattle.rows.specs.Rows.{commit_row, abort_row, end_answer}
use Rattle.steps.specs.Changes.{standing_in, stand_in, aborted_byte, freed, aborted, ended}
use Rattle.steps.specs.Steps.{Ended}
use Rattle.steps.proofs.Clears.{bytes_put_lem, sets_left_lem}
use Rattle.steps.proofs.Gathered.{members_fit}
use Rattle.steps.proofs.Standing.{standing_halves}
use Rattle.steps.proofs.Halves.{reads_changed, writes_changed}
use Rattle.rows.proofs.RowLaws.{commit_row_is}
use Rattle.steps.proofs.Laws.{took_steps, malformed_steps}

module _ {before : Arrays} (ok : SoundLists before) where
  -- a family that is freed has left the bench
  family_freed : (a gone : ℕ) → ((k : ℕ) → member gone k ≡ descends before.parents a k) →
      let after = freed gone before in
      Freed a before.parents before.states (read_sets before.owners) (write_sets before.owners)
      after.parents after.states (read_sets after.owners) (write_sets after.owners)
  family_freed a gone family =
      let after = freed gone before in
      let p = bytes_put_lem gone 0 before.parents in
      let s = bytes_put_lem gone 0 before.states in
      record {
        left = family_left before.parents before.states (read_sets before.owners) (write_sets before.owners)
            after.parents after.states (read_sets after.owners) (write_sets after.owners) a gone family
            p s r w;
        long = arrays_long (p.long ∙ ok.table.long.parents_long) (s.long ∙ ok.table.long.states_long) (r.long ∙ reads_long_lem ok.table.long)
            (w.long ∙ writes_long_lem ok.table.long);
      }
    where
      r : Changed (λ i word. difference word gone) (read_sets before.owners) (read_sets (freed gone before).owners)
      r = rw (reads_changed (λ word. difference word gone) before.owners) (sets_left_lem gone (read_sets before.owners))

      w : Changed (λ i word. difference word gone) (write_sets before.owners) (write_sets (freed gone before).owners)
      w = rw (writes_changed (λ word. difference word gone) before.owners) (sets_left_lem gone (write_sets before.owners))

  -- a family that is aborted drains, or has left the bench
  family_drained : (x gone : ℕ) → ((k : ℕ) → member gone k ≡ descends before.parents (x % 64) k) →
      Aborted (x % 64) before.parents before.states (read_sets before.owners) (write_sets before.owners)
      (aborted gone x before).parents (aborted gone x before).states
  family_drained x gone family =
      family_aborted ok.table (x % 64) gone (standing_in before.owners) (aborted gone x before).parents (aborted gone x before).states (omega arith)
      (members_fit gone (λ k m. known k (sym (family k) ∙ m))) family (standing_halves before.owners ok.owners_long)
      (bytes_put_lem gone 0 before.parents) (bytes_put_lem gone (aborted_byte (stand_in before.owners gone) x) before.states)
    where
      known : (k : ℕ) → descends before.parents (x % 64) k ≡ true → k < 64
      known k d =
          descends_known 64 before.parents
          (parents_sound layout (arrays before.parents before.states (read_sets before.owners) (write_sets before.owners)) ok.table.is_sound)
          ok.table.long.parents_long (x % 64) k (omega arith) d

  -- Code 7 is none of the two.
  pub end_steps : {answer : ℕ} {after : Arrays} (code : ℕ) (busy : Bool) (gone x y : ℕ) → 4 < code → (code ≡ 7 → ⊥) →
      KnowsChild before.parents before.states x busy →
      (frees_by code (get_or before.parents (x % 64) 0) ≡ true → KnowsFamily before.parents before.states x gone) → Ended code busy gone x before answer after →
      SteppedTo (framed code x y) before answer after
  end_steps {answer} {after} code busy gone x y above loud child family d =
      by_bool (eqb code 5)
      (λ t. let e = eqb-true code 5 t in rw e (commits (rw e at family) (rw e at d)))
      (λ t. by_bool (eqb code 6)
      (λ u. let e = eqb-true code 6 u in rw e (aborts (rw e at family) (rw e at d)))
      (λ u. rw (unframed code x y (beyond (eqb-false code 5 t) (eqb-false code 6 u) loud))
      (malformed_steps ok (end_answer code busy x before.states) (ended code gone x before) (rw (t, u)) d)))
    where
      beyond : (code ≡ 5 → ⊥) → (code ≡ 6 → ⊥) → (code ≡ 7 → ⊥) → 7 < code
      beyond not5 not6 not7 = omega arith

      -- the family of a number that runs
      known : (code : ℕ) → (frees_by code (get_or before.parents (x % 64) 0) ≡ true → KnowsFamily before.parents before.states x gone) →
          frees_by code (get_or before.parents (x % 64) 0) ≡ true → x < 64 → get_or before.states x 0 ≡ 1 → (k : ℕ) → member gone k ≡ descends before.parents (x % 64) k
      known code knows leaves l runs k = rw (mod-eq_of_lt l) (knows leaves l runs k)

      commits : (frees_by 5 (get_or before.parents (x % 64) 0) ≡ true → KnowsFamily before.parents before.states x gone) → Ended 5 busy gone x before answer after →
          SteppedTo (some (commit x)) before answer after
      commits knows d = took_steps ok (commit x) first (ended 5 gone x before) found granted d
        where
          first : ℕ
          first = commit_row before.states busy x

          found : first ≡ answer_of read_write (view_of before) (commit x)
          found = commit_found ok.table x first (commit_row_is before.parents before.states x busy child)

          granted : first ≡ 0 → SteppedTo (some (commit x)) before first (ended 5 gone x before)
          granted z =
              let up = get_or before.parents (x % 64) 0 in
              by_bool (eqb up 0)
              (λ t. let f = commit_acts ok.table x first found z in
              rw t
              (record {
                stepped = commit_top_in_place ok.table x first
                    (family_freed (x % 64) gone (known 5 knows t f.known (runs_byte 64 (get_or before.states x 0) f.runs)))
                    (eqb-true up 0 t) found z;
                owners_long = length-map before.owners (λ (word : ℕ). difference word gone) ∙ ok.owners_long;
              }))
              (λ t. rw t (record { stepped = commit_sub_in_place ok.table x first (eqb-false up 0 t) found z; owners_long = ok.owners_long }))

      aborts : (frees_by 6 (get_or before.parents (x % 64) 0) ≡ true → KnowsFamily before.parents before.states x gone) → Ended 6 busy gone x before answer after →
          SteppedTo (some (abort x)) before answer after
      aborts knows d = took_steps ok (abort x) first (ended 6 gone x before) found granted d
        where
          first : ℕ
          first = abort_row before.states x

          found : first ≡ answer_of read_write (view_of before) (abort x)
          found = abort_found ok.table x first refl

          granted : first ≡ 0 → SteppedTo (some (abort x)) before first (ended 6 gone x before)
          granted z =
              let f = abort_acts ok.table x first found z in
              record {
                stepped = abort_in_place ok.table x first
                    (family_drained x gone (known 6 knows refl f.known (runs_byte 64 (get_or before.states x 0) f.runs)))
                    found z;
                owners_long = ok.owners_long;
              }
