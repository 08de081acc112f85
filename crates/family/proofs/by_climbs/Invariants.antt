-- `by_climbs` meets its contract. The loop's invariant: the numbers that are not left are inside, and lead to a, or outside, and don't. The measure is
-- the set that is left. Assumes nothing.
use Prim.Native.Nat.{◌-◌, ◌^◌}
use lib.Dec.{eqb}
use Rattle.views.specs.Tree.{known_up}
use Rattle.tables.proofs.Sorting.{Sorting}
use Rattle.family.proofs.by_climbs.Given as goal

abbrev pub invariant-loop-rest : goal.invariant-loop-rest
invariant-loop-rest l = Sorting 64 (λ j. eqb j l.a) (known_up l.parents) (2 ^ 64 - 1) l.inside l.outside l.rest

abbrev pub decreases-loop-rest : goal.decreases-loop-rest
decreases-loop-rest l = l.rest
