-- `put_frame` meets its contract: each number stands behind the one before it, and 0a behind the last. Assumes nothing.
use native.Mathlib.Omega.{arith}
use lib.ListN.{length-set}
use Rattle.forms.specs.Kinds.{even_shape}
use Rattle.saving.proofs.WrittenFrames.{frame_stored}
use Rattle.saving.proofs.cells.put_frame.Goals as goal

pub shape_of-out : goal.shape_of-out
shape_of-out c = simp length-set (omega arith)

pub returns : goal.returns
returns c =
    let a = c.args in
    frame_stored (even_shape a.w a.kind) a.out.now a.at a.number a.first a.second c.put_number.ensures c.put_number-2.ensures
    c.put_number-3.ensures
    c.put_number-4.ensures
