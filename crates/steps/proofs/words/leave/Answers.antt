-- `leave` meets its contract: past the end a store changes nothing. Assumes nothing.
use mathlib.Core.Path.{sym}
use lib.ListN.{get_or}
use lib.Seq.{set_out}
use Rattle.sets.specs.Sets.{difference}
use Rattle.steps.proofs.words.leave.Goals as goal

pub returns-then-at-words : goal.returns-then-at-words
returns-then-at-words c = rw c.difference.ensures

pub returns-else-at-words : goal.returns-else-at-words
returns-else-at-words c =
    let args = c.args in
    sym (set_out args.words.now args.at (difference (get_or args.words.now args.at 0) args.gone) c.if-at-words.false)
