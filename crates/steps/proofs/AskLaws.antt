-- On the arrays of a sound bench a read or a write in place is the step of the rules. Assumes nothing.
use mathlib.Core.Path.{◌≡◌, ◌∙◌}
use mathlib.Core.Bool.{Bool, true, false}
use mathlib.Core.Option.{some}
use Prim.Native.Nat.{ℕ, ◌+◌, ◌%◌}
use native.Mathlib.Omega.{arith}
use lib.ListN.{get_or, length-set}
use Rattle.sets.specs.Sets.{with}
use Rattle.rules.specs.Requests.{ask}
use Rattle.rules.specs.Answers.{answer_of}
use Rattle.rules.specs.ReadWrite.{read_write, mode_of}
use Rattle.views.specs.View.{layout, arrays}
use Rattle.views.specs.Index.{KnowsChild, KnowsLine}
use Rattle.tables.proofs.ViewLaws.{tree_sound}
use Rattle.views.proofs.Asks.{ask_found, granted_in_place}
use Rattle.rows.proofs.RowLaws.{ask_row_is}
use Rattle.steps.specs.Arrays.{Arrays, conflicting_at, view_of, read_sets, write_sets, SoundLists, SteppedTo}
use Rattle.views.specs.Owners.{conflicting}
use Rattle.steps.specs.Changes.{asked}
use Rattle.steps.specs.Steps.{Asked, ask_answer}
use Rattle.steps.proofs.Halves.{read_set_at, write_set_at, read_stored, read_stored_other, write_stored, write_stored_other}
use Rattle.steps.proofs.Laws.{took_steps}

module _ {before : Arrays} (ok : SoundLists before) where
  -- the conflicting owners, in the words and in the two halves
  met : (is_write : Bool) (i : ℕ) →
      conflicting_at is_write before.owners i ≡ conflicting is_write (get_or (read_sets before.owners) (i % 128) 0) (get_or (write_sets before.owners) (i % 128) 0)
  met is_write i = rw (read_set_at before.owners (i % 128) (omega arith), write_set_at before.owners (i % 128) (omega arith))

  entered : (is_write : Bool) (a i first : ℕ) → first ≡ answer_of read_write (view_of before) (ask (mode_of is_write) a i) → first ≡ 0 →
      SteppedTo (some (ask (mode_of is_write) a i)) before first (asked is_write a i before)
  entered true a i first found z =
      let owners = before.owners in
      let at = i % 128 in
      let s = with 64 (get_or owners (128 + at) 0) (a % 64) in
      record {
        stepped = rw (write_stored_other owners at s, write_stored owners at s (omega arith))
            (granted_in_place ok.table true a i s first (rw (write_set_at owners at (omega arith))) found z);
        owners_long = length-set owners (128 + at) s ∙ ok.owners_long;
      }
  entered false a i first found z =
      let owners = before.owners in
      let at = i % 128 in
      let s = with 64 (get_or owners at 0) (a % 64) in
      record {
        stepped = rw (read_stored_other owners at s (omega arith), read_stored owners at s (omega arith))
            (granted_in_place ok.table false a i s first (rw (read_set_at owners at (omega arith))) found z);
        owners_long = length-set owners at s ∙ ok.owners_long;
      }

  pub ask_steps : {answer : ℕ} {after : Arrays} (is_write busy : Bool) (line a i : ℕ) → KnowsChild before.parents before.states a busy →
      KnowsLine before.parents before.states a line → Asked is_write busy line a i before answer after → SteppedTo (some (ask (mode_of is_write) a i)) before answer after
  ask_steps is_write busy line a i child knows d =
      let owners = conflicting_at is_write before.owners i in
      let sound = tree_sound layout (arrays before.parents before.states (read_sets before.owners) (write_sets before.owners)) ok.table.is_sound in
      let found =
      ask_found ok.table is_write a i owners (ask_answer is_write busy line a i before) (met is_write i)
      (ask_row_is before.parents before.states sound a busy line owners i child knows) in
      took_steps ok (ask (mode_of is_write) a i) (ask_answer is_write busy line a i before) (asked is_write a i before) found
      (entered is_write a i (ask_answer is_write busy line a i before) found) d
