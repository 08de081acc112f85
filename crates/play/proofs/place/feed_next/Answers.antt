-- `feed_next` meets its contract: the end of a line writes what is said of it, and any other byte only the line's count and value. Assumes nothing.
use mathlib.Core.Path.{◌≡◌, refl, sym}
use Prim.Native.Nat.{◌^◌, ◌<◌}
use native.Mathlib.Nat.{add-zero}
use native.Mathlib.Omega.{arith}
use borrow.Author.Rules.{rules}
use lib.ListN.{length, get_or}
use mathlib.Core.List.{[]}
use Rattle.std.specs.Option.{is_some, unwrap_or}
use Rattle.lines.proofs.FeedLaws.{character_fed, fed_on}
use Rattle.lines.proofs.WholeLines.{take_characters}
use Rattle.index.specs.Tables.{Table}
use Rattle.frames.specs.Ends.{EndFound}
use Rattle.frames.proofs.EndsFound.{next_end_found}
use Rattle.play.specs.Known.{table_with, feeding_in}
use Rattle.play.proofs.PlayerFeeding.{line_said}
use Rattle.play.proofs.place.feed_next.Goals as goal

pub returns-in_default : goal.returns-in_default
returns-in_default g c =
    let a = c.args in
    let before : Table = table_with a.parents.now a.states.now a.owners.now a.index.now in
    let inside = c.requires.2.more in
    -- the next byte doesn't end the line
    let goes_on : get_or a.input.now a.place.at 0 ≡ 10 → ⊥ =
    rw (← c.next_end.ensures, c.in_default.is) at (next_end_found c.requires.1 a.input.now a.place.at a.place.begun.count a.place.begun.value inside) in
    let one = rw add-zero at (take_characters 1 a.input.now a.place.at 0 (omega arith)) in
    record {
      on = fed_on {size = 1} {now = feeding_in before c.after.result.count c.after.result.value} refl (λ none. absurd (omega arith)) (omega arith) (sym one)
          (character_fed goes_on c.after.ensures.0 c.after.ensures.1);
      known = c.requires.0;
      same_sound = refl;
    }

pub overflow_add-result-2 : goal.overflow_add-result-2
overflow_add-result-2 g c =
    let a = c.args in
    let found : EndFound a.place.begun.count a.place.begun.value a.input.now a.place.at c.in-Some.end =
    rw (← c.next_end.ensures, c.in-Some.is) at (next_end_found c.requires.1 a.input.now a.place.at a.place.begun.count a.place.begun.value c.requires.2.more) in
    let within = found.within in
    let known : length a.input.now < 2 ^ 64 = search rules in
    record { fits = omega arith }

pub returns : goal.returns
returns g c =
    let a = c.args in
    let found : EndFound a.place.begun.count a.place.begun.value a.input.now a.place.at c.in-Some.end =
    rw (← c.next_end.ensures, c.in-Some.is) at (next_end_found c.requires.1 a.input.now a.place.at a.place.begun.count a.place.begun.value c.requires.2.more) in
    -- the table as it was, and as the end of the line leaves it
    let before : Table = table_with a.parents.now a.states.now a.owners.now a.index.now in
    let new = c.end_line-answer.new in
    let after : Table = table_with new.parents new.states new.owners new.index in
    let done = c.end_line-answer.ensures.0 in
    let same = c.end_line-answer.ensures.1 in
    let said = g.met.T.Telling.told (is_some a.index.now) before new.parents new.states new.owners (unwrap_or new.index []) c.in-Some.end.frame.asked _ done in
    let put = rw said at c.put-written.ensures.put c.requires.2.room in
    record {
      on = fed_on refl (λ none. absurd (omega (arith, found.some))) found.within refl (line_said before after found.ends done put);
      known = rw same (record { table = done.ended.table; owners_long = done.owners_long; indexed = done.indexed });
      same_sound = same;
    }
