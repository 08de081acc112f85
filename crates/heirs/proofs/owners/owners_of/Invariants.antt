-- `owners_of` meets its contract. The loop's invariant: the numbers passed and those still to be passed are led to by numbers of the set, and those gathered are
-- whom the passed ones hold for. The measure is what is left of the numbers that may be passed. Assumes nothing.
use Prim.Native.Nat.{◌-◌, ◌^◌}
use Rattle.tables.proofs.Owning.{Owning}
use Rattle.heirs.proofs.owners.owners_of.Given as goal

abbrev pub invariant-loop-rest : goal.invariant-loop-rest
invariant-loop-rest l = Owning 64 l.parents l.states l.set l.owners l.passed l.rest

abbrev pub decreases-loop-rest : goal.decreases-loop-rest
decreases-loop-rest l = 2 ^ 64 - l.passed
