-- `sets::with` meets its contract: below 64 the shifted 1 is the set of k alone. Assumes nothing.
use Rattle.std.proofs.Common.{◌<◌, sym, arith}
use Rattle.sets.specs.Sets.{union}
use Rattle.sets.proofs.Laws.{single_shifted, with_inside, with_outside}
use Rattle.sets.proofs.with.Goals as goal

pub returns-then-k-lt64 : goal.returns-then-k-lt64
unfolding union
returns-then-k-lt64 c =
    let a = c.args in
    let below : a.k < 64 = omega arith in
    rw (single_shifted 64 a.k below, with_inside 64 a.s a.k below)

pub returns-else-k-lt64 : goal.returns-else-k-lt64
returns-else-k-lt64 c = sym (with_outside 64 c.args.s c.args.k (omega arith))
