-- `sets::meet` meets its contract, which is its body. Assumes nothing.
use Rattle.std.proofs.Common.{refl}
use Rattle.sets.specs.Sets.{meet}
use Rattle.sets.proofs.meet.Goals as goal

pub returns : goal.returns
unfolding meet
returns c = refl
