-- `Bench::end_with_commit` meets its contract: where the request is accepted, a top's family has left, or the state of a sub shows as committed; where it is
-- refused, the record is as it came. Assumes nothing.
use mathlib.Core.Path.{◌≡◌, refl}
use native.Mathlib.Omega.{arith}
use borrow.Author.Rules.{rules}
use lib.ListN.{length}
use Rattle.rules.specs.Requests.{commit}
use Rattle.rules.specs.ReadWrite.{read_write}
use Rattle.tables.proofs.Steps.{granted_by, step_refused}
use Rattle.tables.proofs.Accepts.{commit_top_accepted, commit_sub_accepted}
use Rattle.views.specs.View.{layout, arrays}
use Rattle.bench.specs.Record.{viewed}
use Rattle.bench.proofs.Bench.end_with_commit.Goals as goal

pub returns-in_err-commit_answer : goal.returns-in_err-commit_answer
returns-in_err-commit_answer c =
    let refused = step_refused read_write (viewed c.args.self.now) (commit c.args.a) _ c.in_err-commit_answer.ensures in search rules

pub free_family-requires : goal.free_family-requires
free_family-requires c =
    ((granted_by read_write (viewed c.args.self.now) (commit c.args.a) 0 c.in_ok-commit_answer.ensures refl).is_sound, omega arith)

pub returns-then-self-at-eq0 : goal.returns-then-self-at-eq0
returns-then-self-at-eq0 c =
    let left = c.free_family.new.self in
    commit_top_accepted layout (arrays c.args.self.now.parents c.args.self.now.states c.args.self.now.reads c.args.self.now.writes) 0 c.args.a
    (arrays left.parents left.states left.reads left.writes) c.if-self-at-eq0.true c.free_family.ensures c.in_ok-commit_answer.ensures refl

pub returns-else-self-at-eq0 : goal.returns-else-self-at-eq0
returns-else-self-at-eq0 c =
    let long : length c.args.self.now.states ≡ 64 = search rules in
    commit_sub_accepted layout (arrays c.args.self.now.parents c.args.self.now.states c.args.self.now.reads c.args.self.now.writes) 0 c.args.a long
    c.if-self-at-eq0.false c.in_ok-commit_answer.ensures refl
