-- `write_cells` meets its contract. The loop's invariant: what the cells that are left add, written from `at` on, makes the whole text. Assumes nothing.
use Rattle.forms.specs.Text.{cell_of}
use Rattle.saving.proofs.WrittenCells.{CellsLeft}
use Rattle.saving.proofs.cells.write_cells.Given as goal

abbrev pub invariant-loop-k : goal.invariant-loop-k
invariant-loop-k g l =
    let C = g.C.Cells in let K = g.C.Kind.FrameKind in CellsLeft (cell_of K.kind (C.first l.cells) (C.second l.cells)) K.COUNT l.initial.out l.from l.k l.out l.at
