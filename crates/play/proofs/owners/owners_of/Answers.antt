-- `owners_of` meets its contract: the read sets are put first, and the write sets behind them. Assumes nothing.
use mathlib.Core.Path.{◌∙◌}
use Prim.Native.Nat.{ℕ}
use native.Mathlib.Omega.{arith}
use lib.ListN.{replicate, length-replicate}
use lib.Seq.{sets, length-sets}
use Rattle.copies.proofs.CopyLaws.{put_twice, first_half, second_half}
use Rattle.play.proofs.owners.owners_of.Goals as goal

pub returns : goal.returns
returns c =
    let reads = c.args.reads.now in
    let writes = c.args.writes.now in
    let long = length-replicate {A = ℕ} 256 0 in
    rw (c.put_words-2.ensures, c.put_words.ensures, put_twice 128 (replicate 256 0) reads writes (omega arith) c.requires.0 c.requires.1)
    (record {
      long = length-sets (sets (replicate 256 0) 0 reads) 128 writes ∙ length-sets (replicate 256 0) 0 reads ∙ long;
      of_reads = first_half 128 (replicate 256 0) reads writes (omega arith) c.requires.0 c.requires.1;
      of_writes = second_half 128 (replicate 256 0) reads writes (omega arith) c.requires.0 c.requires.1;
    })
