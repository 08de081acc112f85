-- `put_number` meets its contract. The loop's invariant: the digits that are left, written behind those passed, make the whole number, and the buffer is as
-- long as it was. Assumes nothing.
use mathlib.Core.Path.{◌≡◌}
use Prim.Native.Nat.{◌+◌, ◌-◌, ◌≤◌}
use lib.ListN.{length}
use lib.Seq.{sets}
use Rattle.forms.specs.Text.{hex_of}
use Rattle.saving.proofs.cells.put_number.Given as goal

abbrev pub invariant-loop-k : goal.invariant-loop-k
invariant-loop-k l = (l.k ≤ l.n) × (sets l.out (l.at + l.k) (hex_of (l.n - l.k) l.x) ≡ sets l.initial.out l.at (hex_of l.n l.x)) × (length l.out ≡ length l.initial.out)
