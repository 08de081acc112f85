-- `cells_length` meets its contract. The loop's invariant: what the cells passed add is counted, at most a frame for each. Assumes nothing.
use Rattle.forms.specs.Text.{cell_of}
use Rattle.saving.proofs.WrittenCells.{Counted}
use Rattle.saving.proofs.cells.cells_length.Given as goal

abbrev pub invariant-loop-k : goal.invariant-loop-k
invariant-loop-k g l =
    let C = g.C.Cells in
    let K = g.C.Kind.FrameKind in
    Counted (cell_of K.kind (C.first l.cells) (C.second l.cells)) K.SIZE K.COUNT l.k l.total
