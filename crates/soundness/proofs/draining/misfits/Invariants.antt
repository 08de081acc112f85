-- `misfits` meets its contract. The loop's invariant: the table tells of the bytes that name the numbers passed.
-- Assumes nothing.
use Prim.Native.Nat.{◌≤◌}
use Rattle.tables.proofs.Told.{Heading}
use Rattle.soundness.proofs.draining.misfits.Given as goal

abbrev pub invariant-loop-h : goal.invariant-loop-h
invariant-loop-h l = (l.h ≤ 64) × Heading 64 l.states l.missing l.h l.table
