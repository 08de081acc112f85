-- `put_bytes` meets its contract. The loop's invariant: when the numbers that are left get the byte, the bytes are as when all get it at the start. Assumes
-- nothing.
use Rattle.tables.proofs.Cleared.{Going}
use Rattle.steps.proofs.clear.put_bytes.Given as goal

abbrev pub invariant-loop-k : goal.invariant-loop-k
invariant-loop-k l = Going 64 l.byte l.initial.bytes l.numbers l.bytes l.k-iterator.0
