-- `line_of` meets its contract. The loop's invariant: the set and what is left to meet from `x` on, within the turns that are left, are together the line of a.
-- Assumes nothing.
use Prim.Native.Nat.{◌-◌, ◌%◌, ◌≤◌}
use Rattle.tables.proofs.Lines.{Lined}
use Rattle.tree.proofs.line_of.Given as goal

abbrev pub invariant-loop : goal.invariant-loop
invariant-loop l = (l.counter ≤ 65) × Lined 64 l.parents (l.a % 64) l.line l.x (65 - l.counter)
