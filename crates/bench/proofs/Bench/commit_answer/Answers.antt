-- `Bench::commit_answer` meets its contract: 7 where the soundness test fails, and else the row of parents and states. Assumes nothing.
use borrow.Author.Rules.{rules}
use mathlib.Core.Path.{◌∙◌}
use Rattle.rules.specs.Requests.{commit}
use Rattle.views.specs.View.{layout, arrays}
use Rattle.tables.proofs.Rows.{looked_for_child, commit_row_shown}
use Rattle.rows.proofs.RowLaws.{commit_row_is}
use Rattle.bench.specs.Record.{viewed}
use Rattle.bench.proofs.Answering.{refused_answer, row_answer}
use Rattle.bench.proofs.Bench.commit_answer.Goals as goal

pub returns-in_err-only_if_sound : goal.returns-in_err-only_if_sound
returns-in_err-only_if_sound c =
    let answer = refused_answer (viewed c.args.self.now) (commit c.args.a) c.in_err-only_if_sound.ensures in search rules

pub returns : goal.returns
returns c =
    let record_now = c.args.self.now in
    let busy = c.running_child-busy in
    let child = looked_for_child 64 record_now.parents record_now.states c.args.a busy.result busy.ensures in
    c.commit_row.ensures
    ∙ commit_row_is record_now.parents record_now.states c.args.a busy.result child
    ∙ commit_row_shown layout (arrays record_now.parents record_now.states record_now.reads record_now.writes) c.args.a
    ∙ row_answer (viewed record_now) (commit c.args.a) c.in_ok-only_if_sound.ensures
