-- `Bench::end_with_abort` meets its contract: where the request is accepted, the family that `family_of` gathers has left the tree, and drains or is free by its byte; where it is
-- refused, the record is as it came. Assumes nothing.
use Prim.Native.Nat.{◌<◌, ◌^◌}
use mathlib.Core.Path.{refl}
use borrow.Author.Rules.{rules}
use Rattle.rules.specs.Requests.{abort}
use Rattle.rules.specs.ReadWrite.{read_write}
use Rattle.tables.specs.Steps.{Long}
use Rattle.tables.proofs.Steps.{granted_by, step_refused}
use Rattle.views.specs.View.{layout, arrays}
use Rattle.views.proofs.Words.{arrays_long}
use Rattle.bench.specs.Record.{viewed}
use Rattle.bench.proofs.Leaving.{family_aborts}
use Rattle.bench.proofs.Bench.end_with_abort.Goals as goal

pub returns-in_err-abort_answer : goal.returns-in_err-abort_answer
returns-in_err-abort_answer c =
    let refused = step_refused read_write (viewed c.args.self.now) (abort c.args.a) _ c.in_err-abort_answer.ensures in search rules

pub returns : goal.returns
returns c =
    -- the arrays of a record
    let long : Long layout (arrays c.args.self.now.parents c.args.self.now.states c.args.self.now.reads c.args.self.now.writes) = arrays_long (search rules) (search rules) (search rules) (search rules) in
    let fits : c.family_of-gone.result < 2 ^ 64 = search rules in
    let answer = c.in_ok-abort_answer.ensures in
    family_aborts (record { long = long; is_sound = (granted_by read_write (viewed c.args.self.now) (abort c.args.a) 0 answer refl).is_sound })
    c.args.a c.family_of-gone.result c.drain_byte-byte.result 0 fits c.family_of-gone.ensures
    c.drain_byte-byte.ensures c.put_bytes.ensures c.put_bytes-2.ensures answer refl
