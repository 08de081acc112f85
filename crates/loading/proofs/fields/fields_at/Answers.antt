-- `fields_at` meets its contract: where the frame's head stands, both values are the numbers behind it. Assumes nothing.
use Rattle.loading.specs.Fields.{fields_at}
use Rattle.loading.proofs.fields.fields_at.Goals as goal

pub returns-then-not-headed : goal.returns-then-not-headed
unfolding fields_at
returns-then-not-headed c = rw (← c.headed.ensures, c.if-not-headed.true)

pub returns : goal.returns
unfolding fields_at
returns c = rw (← c.headed.ensures, c.if-not-headed.false, c.number_at.ensures, c.number_at-2.ensures)
