-- `still_in` meets its contract. The loop's invariant: what is left of the places gives what all of them give. The measure is what is left. Assumes nothing.
use mathlib.Core.Path.{◌≡◌}
use Prim.Native.Nat.{◌<◌, ◌^◌}
use Rattle.index.specs.Places.{still_in}
use Rattle.index.proofs.places.still_in.Given as goal

abbrev pub invariant-loop-rest : goal.invariant-loop-rest
invariant-loop-rest l = (l.rest < 2 ^ 64) × (still_in l.owners l.numbers l.rest ≡ still_in l.owners l.numbers l.places)

abbrev pub decreases-loop-rest : goal.decreases-loop-rest
decreases-loop-rest l = l.rest
