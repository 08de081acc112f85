-- `adopting` meets its contract. Assumes nothing.
use Rattle.tables.proofs.Adopting.{digit_adopted}
use Rattle.family.proofs.adopting.Goals as goal

pub returns : goal.returns
returns c =
    digit_adopted 64 c.args.set c.args.k c.args.up c.parent_in.result c.requires.0 c.parent_in.ensures
