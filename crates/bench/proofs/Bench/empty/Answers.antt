-- `Bench::empty` meets its contract: arrays of zeros are read as the empty bench. Assumes nothing.
use Rattle.views.proofs.Words.{empty_shown}
use Rattle.bench.proofs.Bench.empty.Goals as goal

pub returns : goal.returns
returns c = empty_shown
