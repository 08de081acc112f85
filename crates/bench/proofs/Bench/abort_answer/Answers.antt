-- `Bench::abort_answer` meets its contract: 7 where the soundness test fails, and else the row. Assumes nothing.
use borrow.Author.Rules.{rules}
use mathlib.Core.Path.{◌∙◌}
use Rattle.rules.specs.Requests.{abort}
use Rattle.rules.specs.Answers.{row_by}
use Rattle.bench.specs.Record.{viewed}
use Rattle.bench.proofs.Answering.{refused_answer, row_answer}
use Rattle.bench.proofs.Bench.abort_answer.Goals as goal

pub returns-in_err-only_if_sound : goal.returns-in_err-only_if_sound
returns-in_err-only_if_sound c =
    let answer = refused_answer (viewed c.args.self.now) (abort c.args.a) c.in_err-only_if_sound.ensures in search rules

pub returns : goal.returns
unfolding row_by
returns c =
    c.abort_row.ensures ∙ row_answer (viewed c.args.self.now) (abort c.args.a) c.in_ok-only_if_sound.ensures
