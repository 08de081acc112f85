-- `sets::union` meets its contract, which is its body. Assumes nothing.
use Rattle.std.proofs.Common.{refl}
use Rattle.sets.specs.Sets.{union}
use Rattle.sets.proofs.union.Goals as goal

pub returns : goal.returns
unfolding union
returns c = refl
