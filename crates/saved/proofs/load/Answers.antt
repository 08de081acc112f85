-- `load` meets its contract: the record of the image that the text was loaded into. Assumes nothing.
use Rattle.marks.specs.Answers.{answer_number}
use Rattle.saved.proofs.InPlaceLaws.{loaded_record}
use Rattle.saved.proofs.load.Goals as goal

pub returns : goal.returns
returns c =
    let a = c.args in
    rw c.number.ensures (loaded_record a.text.now c.load_image-answer.new.actions c.load_image-answer.new.owners (answer_number c.load_image-answer.result) c.bench_of-bench.result c.load_image-answer.ensures c.bench_of-bench.ensures)
