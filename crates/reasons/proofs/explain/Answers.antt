-- `explain` meets its contract: whom the answer names in the record's arrays is whom the rules say. Assumes nothing.
use mathlib.Core.Path.{◌∙◌, ap, sym}
use Rattle.rules.specs.ReadWrite.{read_write}
use Rattle.rules.specs.Reasons.{reason_of}
use Rattle.marks.specs.Answers.{answer_number}
use Rattle.marks.specs.Requests.{code_of, first_of, second_of}
use Rattle.bench.specs.Record.{viewed}
use Rattle.naming.specs.Told.{told}
use Rattle.naming.proofs.Telling.{named_told}
use Rattle.reasons.proofs.Frames.{framed_again}
use Rattle.reasons.proofs.explain.Goals as goal

pub returns : goal.returns
returns c =
    let a = c.args in
    let b = a.bench in
    let q = c.framed-asked.result in
    let again = framed_again q in
    let same = again ∙ c.framed-asked.ensures in
    rw c.instrument_of-at.ensures at c.named_of_request.ensures
    ∙ named_told b.parents b.states b.reads b.writes (code_of q) (first_of q) (second_of q) (answer_number c.answer_of-answer.result)
    (c.answer_of-answer.ensures ∙ ap (λ r. (reason_of read_write (viewed b) r).answer) (sym again))
    ∙ ap (λ r. told (reason_of read_write (viewed b) r)) same
