-- `group_of` meets its contract. The loop's invariant: of the last numbers, the set has those whose byte names the head.
-- Assumes nothing.
use Prim.Native.Nat.{ℕ, ◌≤◌, ◌+◌, ◌-◌, ◌*◌, ◌%◌}
use mathlib.Core.Path.{◌≡◌}
use mathlib.Core.Bool.{Bool}
use mathlib.Core.List.{List}
use lib.Dec.{eqb}
use lib.ListN.{get_or}
use Rattle.steps.proofs.Gathered.{Moved}
use Rattle.steps.proofs.draining.group_of.Given as goal

-- number k drains under a
abbrev pub drains : List ℕ → ℕ → ℕ → Bool
drains states a k = eqb (get_or states k 0) (3 + a % 64)

abbrev pub invariant-loop-k : goal.invariant-loop-k
invariant-loop-k l = (l.k ≤ 8) × (l.byte ≡ 3 + l.a % 64) × Moved (drains l.states l.a) (64 - 8 * l.k) (8 * l.k) l.group
