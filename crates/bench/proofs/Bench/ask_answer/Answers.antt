-- `Bench::ask_answer` meets its contract: 7 where the soundness test fails, and else the row of the owners in the conflicting sets. Assumes nothing.
use borrow.Author.Rules.{rules}
use mathlib.Core.Path.{refl}
use mathlib.Core.Bool.{true}
use Rattle.rules.specs.Requests.{ask}
use Rattle.rules.specs.ReadWrite.{mode_of}
use Rattle.marks.specs.Answers.{answer_number}
use Rattle.bench.specs.Record.{viewed}
use Rattle.bench.proofs.Answering.{tested_sound, refused_answer}
use Rattle.bench.proofs.Asking.{ask_answered}
use Rattle.bench.proofs.Bench.ask_answer.Goals as goal

pub returns-in_err-only_if_sound : goal.returns-in_err-only_if_sound
returns-in_err-only_if_sound c =
    let answer = refused_answer (viewed c.args.self.now) (ask (mode_of c.args.is_write) c.args.a c.args.i) c.in_err-only_if_sound.ensures in search rules

pub returns : goal.returns
returns c =
    let record_now = c.args.self.now in
    let owners = c.conflicting-owners in
    ask_answered record_now.parents record_now.states record_now.reads record_now.writes true
    (tested_sound (viewed record_now) c.in_ok-only_if_sound.ensures) refl c.args.is_write c.args.a c.args.i owners.result (answer_number c.looked_up_ask_row.result) owners.ensures c.looked_up_ask_row.ensures
