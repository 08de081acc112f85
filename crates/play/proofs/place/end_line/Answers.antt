-- `end_line` meets its contract: a sound bench takes the request's step, and one that isn't sound answers 7 to a request and 8 to a line that has none.
-- Assumes nothing.
use mathlib.Core.Path.{refl}
use mathlib.Core.Bool.{true, false}
use mathlib.Core.List.{[]}
use native.Mathlib.Omega.{arith}
use Rattle.rules.specs.ReadWrite.{read_write}
use Rattle.tables.proofs.Steps.{answer_unsound, step_refused}
use Rattle.views.specs.View.{view}
use Rattle.marks.specs.Requests.{meant, code_of, first_of, second_of}
use Rattle.steps.specs.Arrays.{read_sets, write_sets}
use Rattle.steps.proofs.RequestLaws.{framed_meant}
use Rattle.index.specs.Tables.{table}
use Rattle.index.proofs.KeptSteps.{kept_steps}
use Rattle.lines.proofs.LineEnds.{sound_arrays, step_ends}
use Rattle.play.specs.Known.{KnownTable}
use Rattle.play.proofs.place.end_line.Goals as goal

pub returns-in-Some : goal.returns-in-Some
returns-in-Some c =
    let a = c.args in
    let before = table a.parents.now a.states.now a.owners.now c.in-Some.index in
    let after = table c.request.new.parents c.request.new.states c.request.new.owners c.request.new.index in
    let known : KnownTable true before = rw c.in-Some.is at c.requires in
    let done = kept_steps {before = before} {after = after}
    (record { lists = record { table = sound_arrays known.table refl; owners_long = known.owners_long }; indexed = known.indexed refl })
    (code_of a.asked) (first_of a.asked) (second_of a.asked) c.request.ensures in
    rw c.in-Some.is (
      record {
        ended = step_ends known.table refl (framed_meant a.asked) done.step.stepped;
        owners_long = done.step.owners_long;
        indexed = λ e. done.indexed;
      },
      refl,
    )

pub returns-in-Some-asked : goal.returns-in-Some-asked
returns-in-Some-asked c =
    let a = c.args in
    let known : KnownTable false (table a.parents.now a.states.now a.owners.now []) = rw c.in-None.is at c.requires in
    let b = view a.parents.now a.states.now (read_sets a.owners.now) (write_sets a.owners.now) in
    let r = meant c.in-Some-asked.field-0 in
    let seven = answer_unsound read_write b r false known.table.known refl in
    rw (c.in-None.is, c.in-Some-asked.is) (
      record {
        ended = record { outcome = step_refused read_write b r 7 seven (λ z. omega arith); table = known.table };
        owners_long = known.owners_long;
        indexed = known.indexed;
      },
      refl,
    )
