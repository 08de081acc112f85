-- `cell_length` meets its contract: nothing where there are no values, else a frame's bytes. Assumes nothing.
use mathlib.Core.Path.{sym, ◌∙◌}
use native.Mathlib.Omega.{arith}
use Rattle.saving.proofs.WrittenCells.{cell_sized, none_bare, values_used}
use Rattle.saving.proofs.cells.cell_length.Goals as goal

pub returns-in-Some : goal.returns-in-Some
returns-in-Some g c =
    let C = g.C.Cells in
    let K = g.C.Kind.FrameKind in
    let a = c.args in
    let xs = C.first a.cells.now in
    let ys = C.second a.cells.now in
    let used = values_used K.kind xs ys a.k (sym c.values.ensures ∙ c.in-Some.is) in
    record { short = omega (arith, c.SIZE.ensures); whole = rw (cell_sized K.kind xs ys a.k, used) (c.SIZE.ensures ∙ K.sized) }

pub returns-in-None : goal.returns-in-None
returns-in-None g c =
    let C = g.C.Cells in
    let K = g.C.Kind.FrameKind in
    let a = c.args in
    let xs = C.first a.cells.now in
    let ys = C.second a.cells.now in
    let empty = none_bare K.kind xs ys a.k (sym c.values.ensures ∙ c.in-None.is) in
    record { short = omega arith; whole = rw (cell_sized K.kind xs ys a.k, empty) }
