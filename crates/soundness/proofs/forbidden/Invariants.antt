-- `forbidden` meets its contract. The loop's invariant: what the numbers passed forbid stands in the table, moved up by one place. Assumes nothing.
use Prim.Native.Nat.{◌≤◌}
use Rattle.tables.proofs.Bytes.{Shifted}
use Rattle.tables.specs.Soundness.{forbids_of}
use Rattle.soundness.proofs.forbidden.Given as goal

abbrev pub invariant-loop-k : goal.invariant-loop-k
invariant-loop-k l = (l.k ≤ 64) × Shifted 64 forbids_of l.states l.table l.k
