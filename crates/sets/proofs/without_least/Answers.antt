-- `sets::without_least` meets its contract: a word and the word less one have all its members in common but the least. Assumes nothing.
use Rattle.std.proofs.Common.{arith}
use Rattle.sets.proofs.Laws.{less_one_common}
use Rattle.sets.proofs.without_least.Goals as goal

pub returns : goal.returns
returns c =
    less_one_common 64 c.args.s c.wrapping_sub_u64.result (omega arith) (λ some. let wraps = c.wrapping_sub_u64.ensures in omega arith)
