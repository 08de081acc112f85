use Rattle.saving.proofs.WrittenCells.{none_counted, one_counted, all_counted}
use Rattle.saving.proofs.cells.cells_length.Goals as goal

pub loop-k-init : goal.loop-k-init
loop-k-init g c = none_counted

pub loop-k-preserved : goal.loop-k-preserved
loop-k-preserved g c =
    let more = c.cell_length-total.ensures in
    one_counted c.loop-k.invariant (rw c.COUNT-k-end.ensures at c.loop-k-test.true) more.short more.whole

pub returns : goal.returns
returns g c =
    let all = all_counted c.loop-k.invariant (rw c.COUNT-k-end.ensures at c.loop-k-test.false) in record { short = all.0; whole = all.1 }
