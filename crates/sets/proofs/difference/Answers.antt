-- `sets::difference` meets its contract, which is its body. Assumes nothing.
use Rattle.std.proofs.Common.{refl}
use Rattle.sets.specs.Sets.{difference}
use Rattle.sets.proofs.difference.Goals as goal

pub returns : goal.returns
unfolding difference
returns c = refl
