-- `write_cell` meets its contract: nothing where there are no values, else their frame. Assumes nothing.
use mathlib.Core.Path.{◌≡◌, sym, ◌∙◌, ap₂}
use lib.ListN.{length}
use Rattle.forms.specs.Kinds.{even_shape}
use Rattle.saving.proofs.WrittenCells.{none_bare, bare_written, values_room, values_written}
use Rattle.saving.proofs.cells.write_cell.Goals as goal

pub returns-in-None : goal.returns-in-None
returns-in-None g c =
    let C = g.C.Cells in
    let K = g.C.Kind.FrameKind in
    let a = c.args in
    let xs = C.first a.cells.now in
    let ys = C.second a.cells.now in
    bare_written K.kind xs ys a.k (none_bare K.kind xs ys a.k (sym c.values.ensures ∙ c.in-None.is))

pub put_frame-requires : goal.put_frame-requires
put_frame-requires g c =
    let C = g.C.Cells in
    let K = g.C.Kind.FrameKind in
    let a = c.args in
    let said = sym c.values.ensures ∙ c.in-Some.is in
    let shaped : even_shape c.DIGITS.result c.CODE.result ≡ K.kind.shape = ap₂ even_shape c.DIGITS.ensures c.CODE.ensures ∙ sym K.shaped in (
      rw c.DIGITS.ensures K.narrow,
      values_room K.kind (C.first a.cells.now) (C.second a.cells.now) a.k said (even_shape c.DIGITS.result c.CODE.result) shaped a.at (length a.out.now) c.requires,
    )

pub returns-in-Some : goal.returns-in-Some
returns-in-Some g c =
    let C = g.C.Cells in
    let K = g.C.Kind.FrameKind in
    let a = c.args in
    let said = sym c.values.ensures ∙ c.in-Some.is in
    let shaped : even_shape c.DIGITS.result c.CODE.result ≡ K.kind.shape = ap₂ even_shape c.DIGITS.ensures c.CODE.ensures ∙ sym K.shaped in
    values_written K.kind (C.first a.cells.now) (C.second a.cells.now) a.k said (even_shape c.DIGITS.result c.CODE.result) shaped c.put_frame.ensures
