-- `put_words` meets its contract. Assumes nothing.
use native.Mathlib.Omega.{arith}
use Rattle.copies.proofs.CopyLaws.{near, put_part}
use Rattle.copies.proofs.put_words.Goals as goal

pub returns : goal.returns
returns g c =
    let a = c.args in
    rw (near a.at _ _ c.if-words-from.false c.if-words-from-2.false)
    (put_part a.words.now a.from.now c.copy_from_slice.new.self a.at (omega arith) c.copy_from_slice.ensures.after)
