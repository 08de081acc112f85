-- `sets::within` meets its contract, which is its body. Assumes nothing.
use Rattle.std.proofs.Common.{refl}
use Rattle.sets.specs.Sets.{within, union}
use Rattle.sets.proofs.within.Goals as goal

pub returns : goal.returns
unfolding within union
returns c = refl
