-- `number_at` meets its contract. The loop's invariant: `number` is what the digits passed write.
-- Assumes nothing.
use mathlib.Core.Path.{◌≡◌}
use Rattle.forms.specs.WellShaped.{number_at}
use Rattle.loading.proofs.fields.number_at.Given as goal

abbrev pub invariant-loop-c : goal.invariant-loop-c
invariant-loop-c l = (l.number ≡ number_at l.fn.text l.fn.at l.c-index)
