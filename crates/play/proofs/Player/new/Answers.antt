-- `Player::new` meets its contract: its bench is read as the empty one, and no line has begun. Assumes nothing.
use mathlib.Core.Path.{ap}
use Rattle.lines.specs.Feeding.{between}
use Rattle.play.proofs.Player.new.Goals as goal

pub returns : goal.returns
returns c = ap between c.empty.ensures
