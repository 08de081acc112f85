-- `folded_record` meets its contract. The loops' invariants: the sum has all numbers passed, then all numbers and the instruments passed. Assumes nothing.
use Prim.Native.Nat.{◌≤◌}
use mathlib.Core.Path.{◌≡◌}
use Rattle.trials.specs.Sums.{with_numbers, with_instruments}
use Rattle.trials.proofs.sums.folded_record.Given as goal

abbrev pub invariant-loop-n : goal.invariant-loop-n
invariant-loop-n l = (l.n ≤ 64) × (l.sum ≡ with_numbers l.n l.sparse l.b l.start)

abbrev pub invariant-loop-i : goal.invariant-loop-i
invariant-loop-i l = (l.i ≤ 128) × (l.sum ≡ with_instruments l.i l.sparse l.b (with_numbers 64 l.sparse l.b l.start))
