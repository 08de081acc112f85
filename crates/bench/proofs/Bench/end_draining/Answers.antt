-- `Bench::end_draining` meets its contract: where the request is accepted, those that drain under a have left the sets of the instrument, and drain or are free by their byte; where
-- it is refused, the record is as it came. Assumes nothing.
use borrow.Author.Rules.{rules}
use mathlib.Core.Path.{refl}
use Rattle.rules.specs.Requests.{quiet}
use Rattle.rules.specs.ReadWrite.{read_write}
use Rattle.tables.specs.Steps.{Long}
use Rattle.tables.proofs.Steps.{granted_by, step_refused}
use Rattle.views.specs.View.{layout, arrays}
use Rattle.views.proofs.Words.{arrays_long}
use Rattle.bench.specs.Record.{viewed}
use Rattle.bench.proofs.Quieting.{quiet_answered, quiet_accepted}
use Rattle.bench.proofs.Bench.end_draining.Goals as goal

pub returns-in_err-quiet_answer : goal.returns-in_err-quiet_answer
returns-in_err-quiet_answer c =
    let record_now = c.args.self.now in
    -- what was found is the answer of the rules
    let answer = quiet_answered record_now.parents record_now.states record_now.reads record_now.writes c.args.a c.args.i
    c.group_of-group.result _ c.group_of-group.ensures c.in_err-quiet_answer.ensures in
    let refused = step_refused read_write (viewed record_now) (quiet c.args.a c.args.i) _ answer in search rules

pub returns : goal.returns
returns c =
    let record_now = c.args.self.now in
    -- what was found is the answer of the rules
    let answer = quiet_answered record_now.parents record_now.states record_now.reads record_now.writes c.args.a c.args.i
    c.group_of-group.result 0 c.group_of-group.ensures c.in_ok-quiet_answer.ensures in
    -- the arrays of a record
    let long : Long layout (arrays c.args.self.now.parents c.args.self.now.states c.args.self.now.reads c.args.self.now.writes) = arrays_long (search rules) (search rules) (search rules) (search rules) in
    quiet_accepted (record { long = long; is_sound = (granted_by read_write (viewed record_now) (quiet c.args.a c.args.i) 0 answer refl).is_sound })
    c.args.a c.args.i c.group_of-group.result 0 c.group_of-group.ensures c.drain_byte-byte.result
    c.leave.ensures c.leave-2.ensures c.drain_byte-byte.ensures c.put_bytes.ensures answer refl
