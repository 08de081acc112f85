-- `join` meets its contract: past the end a store changes nothing. Assumes nothing.
use mathlib.Core.Path.{sym}
use lib.ListN.{get_or}
use lib.Seq.{set_out}
use Rattle.sets.specs.Sets.{with}
use Rattle.steps.proofs.words.join.Goals as goal

pub returns-then-at-words : goal.returns-then-at-words
returns-then-at-words c = rw c.with.ensures

pub returns-else-at-words : goal.returns-else-at-words
returns-else-at-words c =
    let args = c.args in
    sym (set_out args.words.now args.at (with 64 (get_or args.words.now args.at 0) args.k) c.if-at-words.false)
