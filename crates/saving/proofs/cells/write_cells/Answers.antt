use Rattle.saving.proofs.WrittenCells.{all_left, room_left, one_less, none_left}
use Rattle.saving.proofs.cells.write_cells.Goals as goal

pub loop-k-init : goal.loop-k-init
loop-k-init g c = all_left

pub write_cell-at-requires : goal.write_cell-at-requires
write_cell-at-requires g c = room_left c.loop-k.invariant (rw c.COUNT-k-end.ensures at c.loop-k-test.true) c.requires

pub loop-k-preserved : goal.loop-k-preserved
loop-k-preserved g c = one_less c.loop-k.invariant (rw c.COUNT-k-end.ensures at c.loop-k-test.true) c.write_cell-at.ensures

pub shape_of-out : goal.shape_of-out
shape_of-out g c = c.loop-k.invariant.long

pub returns : goal.returns
returns g c = none_left c.loop-k.invariant (rw c.COUNT-k-end.ensures at c.loop-k-test.false)
