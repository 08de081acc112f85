-- `Player::tell` meets its contract: the bytes that it takes surely have room for what is written for them, which stands at the buffer's start; the index is that
-- of the bench where it is sound. Assumes nothing.
use mathlib.Core.Path.{◌≡◌, refl, sym, ◌∙◌}
use mathlib.Core.Bool.{false}
use native.Mathlib.Omega.{arith}
use borrow.Author.Rules.{rules}
use lib.ListN.{length}
use Rattle.rules.proofs.Tests.{clash}
use Rattle.views.proofs.Words.{arrays_long}
use Rattle.lines.proofs.FeedLaws.{taken_by_fits}
use Rattle.copies.proofs.CopyLaws.{all_taken}
use Rattle.std.specs.Option.{is_some}
use Rattle.play.specs.Known.{table_with, KnownTable}
use Rattle.index.proofs.Making.{made_table}
use Rattle.play.proofs.PlayerFeeding.{fed_as}
use Rattle.play.proofs.Player.tell.Goals as goal
use Rattle.play.proofs.Player.tell.Goals.{then-sound, else-sound}

pub feed_bytes-place-requires : goal.feed_bytes-place-requires
feed_bytes-place-requires g c =
    let b = c.args.self.bench in
    let owners = c.owners_of-owners.result in
    -- the lengths of the record's arrays
    let parents_long : length b.parents ≡ 64 = search rules in
    let states_long : length b.states ≡ 64 = search rules in
    let reads_long : length b.reads ≡ 128 = search rules in
    let writes_long : length b.writes ≡ 128 = search rules in
    let long = arrays_long parents_long states_long reads_long writes_long in
    let parts = c.owners_of-owners.ensures in
    -- the index is that of the bench where it is sound
    let known : KnownTable (is_some c.if-sound.index) (table_with b.parents b.states owners c.if-sound.index) = elim c.if-sound.branch [
      | then-sound w ↦
          let is_sound = sym w.if-sound.true ∙ c.sound.ensures in
          rw w.index-is
          (record {
            table = rw (parts.of_reads, parts.of_writes) (record { long = long; known = is_sound });
            owners_long = parts.long;
            indexed = λ t. made_table b.reads b.writes owners (sym is_sound) w.of.ensures;
          })
      | else-sound w ↦
          rw w.index-is
          (record {
            table = rw (parts.of_reads, parts.of_writes) (record { long = long; known = sym w.if-sound.false ∙ c.sound.ensures });
            owners_long = parts.long;
            indexed = λ t. clash false t refl;
          })
    ] in
    (known, refl, refl, taken_by_fits g.T.Telling.WIDTH c.args.input.now c.args.out.now c.takes-used.result c.takes-used.ensures)

pub returns : goal.returns
returns g c =
    let fed = rw (c.owners_of-owners.ensures.of_reads, c.owners_of-owners.ensures.of_writes) at c.feed_bytes-place.ensures.0 in
    let owners = c.feed_bytes-place.new.owners in
    let long = c.feed_bytes-place.ensures.1 in
    let first = c.words_from.ensures ∙ all_taken 128 0 owners 0 (rw long (omega arith)) in
    let second = c.words_from-2.ensures ∙ all_taken 128 0 owners 128 (rw long (omega arith)) in
    fed_as g.met.T.Telling.short c.takes-used.ensures (rw (first, second) fed)
