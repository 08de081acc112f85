-- `Bench::join_set` meets its contract: where the request is accepted, the store shows as its effect; where it is refused, the record is as it came. Assumes nothing.
use borrow.Author.Rules.{rules}
use mathlib.Core.Path.{◌≡◌, refl}
use mathlib.Core.Bool.{true, false}
use lib.ListN.{length}
use Rattle.rules.specs.Requests.{ask}
use Rattle.rules.specs.ReadWrite.{mode_of, read_write}
use Rattle.tables.proofs.Steps.{step_refused}
use Rattle.views.proofs.Asks.{asked_accepted}
use Rattle.bench.specs.Record.{viewed}
use Rattle.bench.proofs.Bench.join_set.Goals as goal

pub returns-in_err-ask_answer : goal.returns-in_err-ask_answer
returns-in_err-ask_answer c =
    let refused = step_refused read_write (viewed c.args.self.now) (ask (mode_of c.args.is_write) c.args.a c.args.i) _ c.in_err-ask_answer.ensures in search rules

pub returns-then-is_write : goal.returns-then-is_write
returns-then-is_write c =
    let record_now = c.args.self.now in
    let long : length record_now.writes ≡ 128 = search rules in
    rw c.if-is_write.true
    (asked_accepted record_now.parents record_now.states record_now.reads record_now.writes true 0 c.args.a c.args.i
    c.with.result long c.with.ensures (rw c.if-is_write.true at c.in_ok-ask_answer.ensures) refl)

pub returns-else-is_write : goal.returns-else-is_write
returns-else-is_write c =
    let record_now = c.args.self.now in
    let long : length record_now.reads ≡ 128 = search rules in
    rw c.if-is_write.false
    (asked_accepted record_now.parents record_now.states record_now.reads record_now.writes false 0 c.args.a c.args.i
    c.with-else-is_write.result long c.with-else-is_write.ensures (rw c.if-is_write.false at c.in_ok-ask_answer.ensures) refl)
