-- `leave_places` meets its contract. The loop's invariant: when the numbers leave the places that are left, the sets are as when they leave all at the start.
-- Assumes nothing.
use mathlib.Core.Path.{◌≡◌}
use Prim.Native.Nat.{◌<◌, ◌^◌}
use Rattle.index.specs.Places.{left_places}
use Rattle.index.proofs.places.leave_places.Given as goal

abbrev pub invariant-loop-place : goal.invariant-loop-place
invariant-loop-place l = (l.place-iterator.0 < 2 ^ 64) × (left_places l.place-iterator.0 l.gone l.owners ≡ left_places l.places l.gone l.initial.owners)
