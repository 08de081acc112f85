-- `play_record` meets its contract: a sound bench takes the request's step, or answers 8 where there is none, and one that isn't sound answers 7 or 8.
-- Assumes nothing.
use mathlib.Core.Path.{refl, sym, ◌∙◌}
use Rattle.lines.proofs.LineEnds.{sound_arrays, step_ends}
use Rattle.steps.specs.Arrays.{lent, view_of}
use Rattle.steps.proofs.RequestLaws.{asked_steps}
use Rattle.image.proofs.Images.{unsound_answered}
use Rattle.desk.proofs.play_record.Goals as goal

pub returns-then-is_sound : goal.returns-then-is_sound
returns-then-is_sound c =
    let known = c.requires in
    let done = asked_steps (record { table = sound_arrays known.table c.if-is_sound.true; owners_long = known.owners_long }) c.args.asked c.request.ensures in
    record { ended = step_ends known.table c.if-is_sound.true refl done.stepped; owners_long = done.owners_long }

pub returns : goal.returns
returns c =
    let a = c.args in
    let known = c.requires in
    let bench = view_of (lent a.parents.now a.states.now a.owners.now) in
    record {
      ended = record { outcome = rw c.unsound_refusal.ensures (unsound_answered bench a.asked (sym known.table.known ∙ c.if-is_sound.false)); table = known.table };
      owners_long = known.owners_long;
    }
