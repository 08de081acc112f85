-- `sets::least` meets its contract: the zeros below the lowest digit that is set are counted, which is the least member. Assumes nothing.
use Rattle.std.proofs.Common.{refl}
use Rattle.sets.specs.Sets.{least}
use Rattle.sets.proofs.least.Goals as goal

pub returns : goal.returns
unfolding least
returns c = refl
