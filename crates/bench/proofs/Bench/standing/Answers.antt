-- `standing` meets its contract: the numbers of the read sets with those of the write sets. Assumes nothing.
use borrow.Author.Rules.{rules}
use lib.ListN.{length}
use mathlib.Core.Path.{◌≡◌}
use Rattle.views.proofs.Words.{standing_both}
use Rattle.bench.proofs.Bench.standing.Goals as goal

pub returns : goal.returns
returns c =
    let args = c.args in
    let reads_long : length args.self.now.reads ≡ 128 = search rules in
    let writes_long : length args.self.now.writes ≡ 128 = search rules in
    standing_both args.self.now.reads args.self.now.writes c.standing.result c.standing-2.result c.union.result reads_long writes_long
    c.standing.ensures c.standing-2.ensures c.union.ensures
