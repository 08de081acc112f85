-- `text_length` meets its contract: what numbers add and what instruments add to the text are its length, whatever the parents. Assumes nothing.
use mathlib.Core.Path.{◌∙◌}
use mathlib.Core.List.{[]}
use native.Mathlib.Omega.{arith}
use Rattle.saving.proofs.WrittenText.{text_length, parents_silent}
use Rattle.saving.proofs.text_length.Goals as goal

pub returns : goal.returns
returns c =
    λ parents.
    let a = c.args in
    let first = c.cells_length.ensures.whole ∙ parents_silent [] parents a.states.now in
    let second = c.cells_length-2.ensures.whole in
    omega (arith, text_length (record { parents = parents; states = a.states.now; reads = a.reads.now; writes = a.writes.now }))
