-- Playing a chunk and ending the input: the caller's player, its progress, and what a call leaves in image and progress. Assumes nothing.
use mathlib.Core.Path.{◌≡◌, refl, sym, ◌∙◌, ap}
use mathlib.Core.Bool.{true, false, false≢true}
use mathlib.Core.List.{List, [], ◌∷◌, ◌++◌}
use Prim.Native.Nat.{ℕ, ◌%◌}
use native.Mathlib.Omega.{arith}
use borrow.Author.Tests.{eqb-true}
use lib.Dec.{eqb}
use lib.ListN.{length, get_or, take, drop, length-append}
use Rattle.rules.proofs.Tests.{and_left, and_right}
use Rattle.bench.specs.declared.Bench.{Bench}
use Rattle.play.specs.declared.Player.{Player}
use Rattle.play.specs.declared.Fed.{Fed}
use Rattle.bench.specs.Record.{viewed}
use Rattle.image.specs.Image.{is_image, image_view, record_of, StoredAs}
use Rattle.lines.specs.Feeding.{Feeding, taken, fed, said}
use Rattle.play.specs.Feeding.{feeding, FedAs}
use Rattle.play.specs.Finishing.{said_last, fed_last, FinishedAs}
use Rattle.lines.proofs.FeedLaws.{taken_long}
use Rattle.image.proofs.Images.{put_view}
use Rattle.dikothelm.specs.Calls.{playable, line_count, standing, Moved, Played, Finished}

pub none_moved : (to : Feeding) (used : ℕ) (text actions owners progress out : List ℕ) → playable actions owners progress ≡ false → Moved to used text actions owners progress out 7 actions owners progress out
none_moved to used text actions owners progress out other =
    record { moved = λ t. absurd (false≢true (sym other ∙ t)); refused = λ t. (refl, refl, refl, refl, refl) }

module _ (actions owners progress : List ℕ) (ok : playable actions owners progress ≡ true) where
  pub playable_image : is_image actions owners ≡ true
  playable_image = and_left (is_image actions owners) (eqb (length progress) 4) ok

  pub playable_long : length progress ≡ 4
  playable_long = eqb-true (length progress) 4 (and_right (is_image actions owners) (eqb (length progress) 4) ok)

  -- the caller's player
  pub player_stands : (b : Bench) (count value : ℕ) → b ≡ record_of actions owners → count ≡ line_count (get_or progress 0 0) → value ≡ get_or progress 1 0 % 4294967296 → ◌≡◌ {A = Feeding} (record { bench = viewed b; count = count; value = value }) (standing actions owners progress)
  player_stands b count value eb ec ev =
      let seen : viewed b ≡ image_view actions owners = ap viewed eb ∙ rw playable_image in
      rw (seen, ec, ev)

  -- the player that a call hands back is stored
  pub player_moved : (to : Feeding) (used : ℕ) (text out : List ℕ) (r : Fed) {actions' owners' progress' out' : List ℕ} → feeding r.player ≡ to → r.used ≡ used → r.written ≡ length text → out' ≡ text ++ drop r.written out → StoredAs r.player.bench actions owners actions' owners' → length r.player.bench.parents ≡ 64 → length r.player.bench.states ≡ 64 → length r.player.bench.reads ≡ 128 → length r.player.bench.writes ≡ 128 → progress' ≡ r.player.count ∷ r.player.value ∷ r.used ∷ r.written ∷ [] → Moved to used text actions owners progress out 0 actions' owners' progress' out'
  player_moved to used text out r {actions'} {owners'} {progress'} {out'} stands took wrote buffer m lp ls lr lw e =
      record {
        moved = λ t. (
          refl,
          record {
            bytes_long = rw (bytes, length-append r.player.bench.parents r.player.bench.states) (omega arith);
            words_long = rw (words, length-append r.player.bench.reads r.player.bench.writes) (omega arith);
            bench = rw (bytes, words, put_view r.player.bench.parents r.player.bench.states r.player.bench.reads r.player.bench.writes lp lr) (ap (λ (x : Feeding). x.bench) stands);
            line = e ∙ rw (ap (λ (x : Feeding). x.count) stands, ap (λ (x : Feeding). x.value) stands, took, wrote);
            output = buffer ∙ rw wrote;
          },
        );
        refused = λ t. absurd (false≢true (sym t ∙ ok));
      }
    where
      bytes : actions' ≡ r.player.bench.parents ++ r.player.bench.states
      bytes = m.bytes ∙ rw playable_image

      words : owners' ≡ r.player.bench.reads ++ r.player.bench.writes
      words = m.words ∙ rw playable_image

  -- a chunk
  pub chunk_played : (p : Player) (input out : List ℕ) (r : Fed) {actions' owners' progress' out' : List ℕ} → feeding p ≡ standing actions owners progress → FedAs p input out r out' → StoredAs r.player.bench actions owners actions' owners' → length r.player.bench.parents ≡ 64 → length r.player.bench.states ≡ 64 → length r.player.bench.reads ≡ 128 → length r.player.bench.writes ≡ 128 → progress' ≡ r.player.count ∷ r.player.value ∷ r.used ∷ r.written ∷ [] → Played actions owners progress input out 0 actions' owners' progress' out'
  chunk_played p input out r stands f m lp ls lr lw e =
      let bytes = take (taken input out) input in
      player_moved (fed (standing actions owners progress) bytes) (length bytes) (said (standing actions owners progress) bytes) out r
      (f.player ∙ ap (λ (x : Feeding). fed x bytes) stands)
      (f.used ∙ taken_long input out (taken input out) refl)
      (f.written ∙ ap (λ (x : Feeding). length (said x bytes)) stands)
      (f.output ∙ ap (λ (x : Feeding). said x bytes ++ drop r.written out) stands)
      m lp ls lr lw e

  -- the end of the input
  pub input_finished : (p : Player) (out : List ℕ) (r : Fed) {actions' owners' progress' out' : List ℕ} → feeding p ≡ standing actions owners progress → FinishedAs p out r out' → StoredAs r.player.bench actions owners actions' owners' → length r.player.bench.parents ≡ 64 → length r.player.bench.states ≡ 64 → length r.player.bench.reads ≡ 128 → length r.player.bench.writes ≡ 128 → progress' ≡ r.player.count ∷ r.player.value ∷ r.used ∷ r.written ∷ [] → Finished actions owners progress out 0 actions' owners' progress' out'
  input_finished p out r stands f m lp ls lr lw e =
      player_moved (fed_last (standing actions owners progress) out) 0 (said_last (standing actions owners progress) out) out r
      (f.player ∙ ap (λ (x : Feeding). fed_last x out) stands)
      f.used
      (f.written ∙ ap (λ (x : Feeding). length (said_last x out)) stands)
      (f.output ∙ ap (λ (x : Feeding). said_last x out ++ drop r.written out) stands)
      m lp ls lr lw e
