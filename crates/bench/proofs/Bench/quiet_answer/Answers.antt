-- `Bench::quiet_answer` meets its contract: 7 where the soundness test fails, and else the row of those that drain under a and of the sets of the instrument. Assumes nothing.
use mathlib.Core.Path.{sym}
use Rattle.bench.specs.Record.{viewed}
use Rattle.bench.proofs.Answering.{tested_sound}
use Rattle.bench.proofs.Bench.quiet_answer.Goals as goal

pub returns : goal.returns
returns c =
    rw (sym (tested_sound (viewed c.args.self.now) c.in_ok-only_if_sound.ensures), sym c.union-here.ensures, sym c.meet.ensures) c.quiet_row.ensures
