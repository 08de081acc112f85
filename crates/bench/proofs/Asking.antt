-- Reads and writes by value: the rows that were found are the answer of a sound bench, whichever of the two it is. Assumes nothing.
use mathlib.Core.Path.{◌≡◌, ◌∙◌, ap, refl}
use mathlib.Core.Bool.{Bool, true, false, not}
use mathlib.Core.List.{List}
use Prim.Native.Nat.{ℕ, ◌%◌}
use lib.ListN.{get_or}
use Rattle.rules.specs.Requests.{ask}
use Rattle.rules.specs.Answers.{answer_of}
use Rattle.rules.specs.Sound.{sound}
use Rattle.rules.specs.ReadWrite.{read_write, mode_of}
use Rattle.views.specs.View.{view}
use Rattle.views.proofs.Asks.{asked_tree, asked_answered}
use Rattle.views.specs.Owners.{conflicting}
use Rattle.rows.specs.Rows.{ask_row, busy_in, held_for}
use Rattle.rows.proofs.RowLaws.{looked_up_row_is}

pub ask_answered : (parents states reads writes : List ℕ) (ok : Bool) → ok ≡ sound read_write (view parents states reads writes) → not ok ≡ false → (is_write : Bool) (a i owners answer : ℕ) → owners ≡ conflicting is_write (get_or reads (i % 128) 0) (get_or writes (i % 128) 0) → answer ≡ ask_row states (busy_in parents states a) (held_for parents states 0 owners a) a i → answer ≡ answer_of read_write (view parents states reads writes) (ask (mode_of is_write) a i)
ask_answered parents states reads writes ok tested is_sound true a i owners answer met found =
    let tree = asked_tree parents states reads writes ok tested is_sound in
    asked_answered parents states reads writes ok tested is_sound true i owners met a answer (found ∙ looked_up_row_is parents states tree a owners i)
ask_answered parents states reads writes ok tested is_sound false a i owners answer met found =
    let tree = asked_tree parents states reads writes ok tested is_sound in
    let asked = ap (λ (s : ℕ). ask_row states (busy_in parents states a) (held_for parents states 0 s a) a i) met in
    asked_answered parents states reads writes ok tested is_sound false i _ refl a answer (found ∙ asked ∙ looked_up_row_is parents states tree a (get_or writes (i % 128) 0) i)
