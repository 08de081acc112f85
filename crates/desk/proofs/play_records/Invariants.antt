-- `play_records` meets its contract. The loop's invariant: what is left of the list, played from here, leads where all of it leads from the start; whether the
-- bench is sound is known as it was. Assumes nothing.
use Prim.Native.Nat.{◌*◌, ◌/◌, ◌≤◌}
use lib.ListN.{length}
use Rattle.steps.specs.Arrays.{lent, view_of}
use Rattle.desk.specs.Desk.{KnownLists}
use Rattle.desk.proofs.Playing.{Left}
use Rattle.desk.proofs.play_records.Given as goal

abbrev pub invariant-loop-k : goal.invariant-loop-k
invariant-loop-k l =
    (l.k ≤ length l.initial.words / 4)
    × Left (view_of (lent l.initial.parents l.initial.states l.initial.owners)) l.initial.words (view_of (lent l.parents l.states l.owners)) l.words (4 * l.k)
    × KnownLists l.is_sound (lent l.parents l.states l.owners)
