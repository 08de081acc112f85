-- `places_of` meets its contract. The loop's invariant: the places joined so far, and those of the numbers that are left, are all. Assumes nothing.
use Rattle.index.proofs.Walks.{Joining}
use Rattle.index.proofs.places.places_of.Given as goal

abbrev pub invariant-loop-k : goal.invariant-loop-k
invariant-loop-k l = Joining l.index l.numbers l.places l.k-iterator.0
