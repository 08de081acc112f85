-- `feed_bytes` meets its contract. The loop's invariant: what is left of the input, fed from here, leads where all of it leads from the start, and there is room for
-- what is written for it; the table is known. The measure is what is left of the input. Assumes nothing.
use Prim.Native.Nat.{◌-◌}
use lib.ListN.{length}
use Rattle.std.specs.Option.{is_some}
use Rattle.lines.proofs.FeedLaws.{Left}
use Rattle.play.specs.Known.{table_with, KnownTable}
use Rattle.play.specs.Places.{feeding_at}
use Rattle.play.proofs.place.feed_bytes.Given as goal

abbrev pub invariant-loop-place : goal.invariant-loop-place
invariant-loop-place g l =
    Left g.T.Telling.say g.T.Telling.WIDTH (feeding_at (table_with l.initial.parents l.initial.states l.initial.owners l.initial.index) l.initial.place) l.input l.initial.out
    (feeding_at (table_with l.parents l.states l.owners l.index) l.place) l.out l.place.written l.place.at
    × KnownTable (is_some l.index) (table_with l.parents l.states l.owners l.index)

abbrev pub decreases-loop-place : goal.decreases-loop-place
decreases-loop-place g l = length l.input - l.place.at
