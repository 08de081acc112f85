-- `request` meets its contract: an abort and a quiet by lemmas, and the rest as the check finds it. Assumes nothing.
use mathlib.Core.Path.{refl, ◌∙◌, ap}
use Prim.Native.Nat.{◌^◌, ◌<◌}
use Rattle.std.specs.Prelude.{Some}
use Rattle.index.specs.Tables.{running_set}
use Rattle.index.proofs.Kept.{kept_abort, kept_quiet}
use borrow.Author.Rules.{rules}
use Rattle.index.proofs.requests.request.Goals as goal

pub returns-in-Some-Abort : goal.returns-in-Some-Abort
returns-in-Some-Abort c =
    -- the running numbers are a word
    let fits : running_set c.args.index.now < 2 ^ 64 = search rules in
    let way = c.in-Some-Abort in
    kept_abort c.args.asked way.a (way.is ∙ ap Some (rw way.is at way.field-0-is)) fits c.abort_indexed.ensures

pub returns-in-Some-Quiet : goal.returns-in-Some-Quiet
returns-in-Some-Quiet c =
    let fits : running_set c.args.index.now < 2 ^ 64 = search rules in
    let way = c.in-Some-Quiet in
    kept_quiet c.args.asked way.a way.i (way.is ∙ ap Some (rw way.is at way.field-0-is)) fits c.quiet_indexed.ensures refl
