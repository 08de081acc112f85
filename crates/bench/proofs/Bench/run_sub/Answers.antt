-- `Bench::run_sub` meets its contract: where the request is accepted, the stores show as its effect; where it is refused, the record is as it came. Assumes nothing.
use borrow.Author.Rules.{rules}
use mathlib.Core.Path.{◌≡◌, refl}
use lib.ListN.{length}
use Rattle.rules.specs.Requests.{open_sub}
use Rattle.rules.specs.ReadWrite.{read_write}
use Rattle.tables.proofs.Steps.{step_refused}
use Rattle.tables.proofs.Accepts.{open_sub_accepted}
use Rattle.views.specs.View.{layout, arrays}
use Rattle.bench.specs.Record.{viewed}
use Rattle.bench.proofs.Bench.run_sub.Goals as goal

pub returns-in_err-open_sub_answer : goal.returns-in_err-open_sub_answer
returns-in_err-open_sub_answer c =
    let refused = step_refused read_write (viewed c.args.self.now) (open_sub c.args.n c.args.p) _ c.in_err-open_sub_answer.ensures in search rules

pub returns : goal.returns
returns c =
    let parents_long : length c.args.self.now.parents ≡ 64 = search rules in
    let states_long : length c.args.self.now.states ≡ 64 = search rules in
    open_sub_accepted layout (arrays c.args.self.now.parents c.args.self.now.states c.args.self.now.reads c.args.self.now.writes) 0 c.args.n
    c.args.p parents_long states_long c.in_ok-open_sub_answer.ensures refl
