-- `missing` meets its contract. The loop's invariant: the table has 0 for the bytes of the numbers taken out, and with those that are left they are all. Assumes
-- nothing.
use Prim.Native.Nat.{◌<◌, ◌^◌}
use Rattle.tables.proofs.Told.{Marking}
use Rattle.soundness.proofs.draining.missing.Given as goal

abbrev pub invariant-loop-k : goal.invariant-loop-k
invariant-loop-k l = (l.k-iterator.0 < 2 ^ 64) × Marking 64 67 l.states l.numbers l.k-iterator.0 l.table
