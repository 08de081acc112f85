-- `Bench::run_top` meets its contract: where the request is accepted, the store shows as its effect; where it is refused, the record is as it came. Assumes nothing.
use borrow.Author.Rules.{rules}
use mathlib.Core.Path.{◌≡◌, refl}
use lib.ListN.{length}
use Rattle.rules.specs.Requests.{open_top}
use Rattle.rules.specs.ReadWrite.{read_write}
use Rattle.tables.proofs.Steps.{step_refused}
use Rattle.tables.proofs.Accepts.{open_top_accepted}
use Rattle.views.specs.View.{layout, arrays}
use Rattle.bench.specs.Record.{viewed}
use Rattle.bench.proofs.Bench.run_top.Goals as goal

pub returns-in_err-open_top_answer : goal.returns-in_err-open_top_answer
returns-in_err-open_top_answer c =
    let refused = step_refused read_write (viewed c.args.self.now) (open_top c.args.n) _ c.in_err-open_top_answer.ensures in search rules

pub returns : goal.returns
returns c =
    let long : length c.args.self.now.states ≡ 64 = search rules in
    open_top_accepted layout (arrays c.args.self.now.parents c.args.self.now.states c.args.self.now.reads c.args.self.now.writes) 0 c.args.n long c.in_ok-open_top_answer.ensures refl
