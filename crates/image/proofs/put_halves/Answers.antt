-- `put_halves` meets its contract: two halves put one after the other are the whole. Assumes nothing.
use native.Mathlib.Omega.{arith}
use Rattle.copies.proofs.CopyLaws.{put_twice, both_halves}
use Rattle.image.proofs.put_halves.Goals as goal

pub returns : goal.returns
returns g c =
    let a = c.args in
    let long = c.requires.0 in
    rw (c.put_words-2.ensures, c.put_words.ensures, put_twice _ a.list.now a.first.now a.second.now (omega arith) c.requires.1 c.requires.2)
    (both_halves _ a.list.now a.first.now a.second.now (omega arith) c.requires.1 c.requires.2 long)
