-- What each call does to an image that a C caller lends. Slices that are no image are answered 7, and nothing changes. (A request's call is
-- `Requested`, of `Image` in crate `image`.)
use Rattle.std.specs.Prelude.{Bool, true, false, ◌&&◌, List, [], ◌∷◌, ◌++◌, ◌≡◌, ℕ, ◌%◌, eqb, ltb, length, get_or, take, drop, if◌then◌else◌}
use Rattle.rules.specs.Sound.{sound}
use Rattle.rules.specs.ReadWrite.{read_write}
use Rattle.bench.specs.declared.Bench.{Bench}
use Rattle.image.specs.Image.{is_image, image_view, record_of}
use Rattle.lines.specs.Feeding.{Feeding, taken, fed, said}
use Rattle.play.specs.Finishing.{said_last, fed_last}
use Rattle.saved.specs.Saved.{saved_as, sized_as, buffer_after}

-- The image is replaced by that of a record, and `given` is answered.
pub record Replaced (given : ℕ) (b : Bench) (actions owners : List ℕ) (answer : ℕ) (actions' owners' : List ℕ) : Type 0 where
  pub image : is_image actions owners ≡ true → (answer ≡ given) × (actions' ≡ b.parents ++ b.states) × (owners' ≡ b.reads ++ b.writes)
  pub no_image : is_image actions owners ≡ false → (answer ≡ 7) × (actions' ≡ actions) × (owners' ≡ owners)

-- 0 for the image of a sound bench, and else 7.
abbrev pub sound_answer : List ℕ → List ℕ → ℕ
sound_answer actions owners = if is_image actions owners && sound read_write (image_view actions owners) then 0 else 7

-- The image is saved: answer, count and buffer are those of its record.
pub record SavedAs (actions owners out : List ℕ) (answer : ℕ) (out' : List ℕ) (count' : ℕ) : Type 0 where
  pub image : is_image actions owners ≡ true → (answer ≡ (saved_as (record_of actions owners) (length out)).answer) × (count' ≡ (saved_as (record_of actions owners) (length out)).count) × (out' ≡ buffer_after (record_of actions owners) out)
  pub no_image : is_image actions owners ≡ false → (answer ≡ 7) × (count' ≡ 0) × (out' ≡ out)

-- The size of the image's text is told.
pub record SizeTold (actions owners : List ℕ) (answer count' : ℕ) : Type 0 where
  pub image : is_image actions owners ≡ true → (answer ≡ (sized_as (record_of actions owners)).answer) × (count' ≡ (sized_as (record_of actions owners)).count)
  pub no_image : is_image actions owners ≡ false → (answer ≡ 7) × (count' ≡ 0)

-- ---- play

-- Progress is four words: count and value of the line that has begun, and how many bytes the last call took and wrote.
abbrev pub playable : List ℕ → List ℕ → List ℕ → Bool
playable actions owners progress = is_image actions owners && eqb (length progress) 4

-- A count that no byte holds says that no request can come of the line any more.
abbrev pub line_count : ℕ → ℕ
line_count word = if ltb word 256 then word else 7

-- where the caller's player stands
abbrev pub standing : List ℕ → List ℕ → List ℕ → Feeding
standing actions owners progress =
    record {
      bench = image_view actions owners;
      count = line_count (get_or progress 0 0);
      value = get_or progress 1 0 % 4294967296;
    }

-- A player stands there now, took so many bytes and wrote this text: image and progress say so, and the text stands at the buffer's start.
pub record StandsAt (to : Feeding) (used : ℕ) (text out actions' owners' progress' out' : List ℕ) : Type 0 where
  pub bytes_long : length actions' ≡ 128
  pub words_long : length owners' ≡ 256
  pub bench : image_view actions' owners' ≡ to.bench
  pub line : progress' ≡ to.count ∷ to.value ∷ used ∷ length text ∷ []
  pub output : out' ≡ text ++ drop (length text) out

-- A call moves the caller's player there and is answered 0; where the slices are no image and progress it is answered 7, and nothing changes.
pub record Moved (to : Feeding) (used : ℕ) (text actions owners progress out : List ℕ) (answer : ℕ) (actions' owners' progress' out' : List ℕ) : Type 0 where
  pub moved : playable actions owners progress ≡ true → (answer ≡ 0) × StandsAt to used text out actions' owners' progress' out'
  pub refused : playable actions owners progress ≡ false → (answer ≡ 7) × (actions' ≡ actions) × (owners' ≡ owners) × (progress' ≡ progress) × (out' ≡ out)

-- A chunk of input is played: as much of it as surely has room for its answers.
abbrev pub Played : List ℕ → List ℕ → List ℕ → List ℕ → List ℕ → ℕ → List ℕ → List ℕ → List ℕ → List ℕ → Type 0
Played actions owners progress input out =
    let from = standing actions owners progress in
    let bytes = take (taken input out) input in
    Moved (fed from bytes) (length bytes) (said from bytes) actions owners progress out

-- The input has ended: the last line is answered, if one has begun and its answer has room.
abbrev pub Finished : List ℕ → List ℕ → List ℕ → List ℕ → ℕ → List ℕ → List ℕ → List ℕ → List ℕ → Type 0
Finished actions owners progress out =
    let from = standing actions owners progress in
    Moved (fed_last from out) 0 (said_last from out) actions owners progress out
