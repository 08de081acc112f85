-- A bench's image, as a C caller lends it: 128 bytes, the parents of the 64 numbers and then their states, and 256 words, the read sets of the 128
-- instruments and then the write sets. What each function of `image` does to one.
use Rattle.std.specs.Prelude.{Bool, true, false, ◌&&◌, List, ◌++◌, ◌≡◌, ℕ, eqb, ltb, length, take, drop, replicate, if◌then◌else◌}
use Rattle.std.proofs.Math.Option.{Option}
use Rattle.rules.specs.Bench as rules
use Rattle.rules.specs.Requests.{Request}
use Rattle.rules.specs.Answers.{Outcome, answered}
use Rattle.rules.specs.Sound.{sound}
use Rattle.bench.specs.declared.Bench.{Bench}
use Rattle.image.specs.declared.Actions.{Actions}
use Rattle.views.specs.View.{view}
use Rattle.rules.specs.ReadWrite.{read_write}

-- Slices of these lengths are an image; any bytes and words are one.
abbrev pub is_image : List ℕ → List ℕ → Bool
is_image actions owners = eqb (length actions) 128 && eqb (length owners) 256

-- An image, read as a bench.
abbrev pub image_view : List ℕ → List ℕ → rules.Bench
image_view actions owners = view (take 64 actions) (drop 64 actions) (take 128 owners) (drop 128 owners)

-- Whether an image is that of a sound bench; slices that are none aren't.
abbrev pub sound_image : List ℕ → List ℕ → Bool
sound_image actions owners = is_image actions owners && sound read_write (image_view actions owners)

-- an empty bench, as a record
abbrev pub empty_record : Bench
empty_record = record { parents = replicate 64 0; states = replicate 64 0; reads = replicate 128 0; writes = replicate 128 0 }

-- The record of an image; that of an empty bench where the slices are none.
abbrev pub record_of : List ℕ → List ℕ → Bench
record_of actions owners =
    if is_image actions owners
    then record { parents = take 64 actions; states = drop 64 actions; reads = take 128 owners; writes = drop 128 owners }
    else empty_record

-- A record is stored: an image becomes the record's, and slices that are none stay as they were.
pub record StoredAs (b : Bench) (actions owners actions' owners' : List ℕ) : Type 0 where
  pub bytes : actions' ≡ (if is_image actions owners then b.parents ++ b.states else actions)
  pub words : owners' ≡ (if is_image actions owners then b.reads ++ b.writes else owners)

-- The parents and states of an image's bytes; those of free numbers where the bytes are other than 128.
abbrev pub actions_in : List ℕ → Actions
actions_in actions =
    if eqb (length actions) 128
    then record { parents = take 64 actions; states = drop 64 actions }
    else record { parents = replicate 64 0; states = replicate 64 0 }

-- An image's bytes with parents and states stored; other than 128 stay as they were.
abbrev pub actions_stored : Actions → List ℕ → List ℕ
actions_stored from actions = if eqb (length actions) 128 then from.parents ++ from.states else actions

-- What a code is answered on an image that isn't sound: 7 where it is a request's, else 8.
abbrev pub unsound_answer : ℕ → ℕ
unsound_answer code = if eqb code 0 then 8 else if ltb 7 code then 8 else 7

-- A request is made, or none where the code is no request's: the answer and the image after it are those of the rules. Slices that are no image are
-- answered 7 and stay as they were. Lengths stay.
pub record Requested (q : Option Request) (actions owners : List ℕ) (answer : ℕ) (actions' owners' : List ℕ) : Type 0 where
  pub bytes_long : length actions' ≡ length actions
  pub words_long : length owners' ≡ length owners
  pub outcome : is_image actions owners ≡ true → ◌≡◌ {A = Outcome} (record { answer = answer; next = image_view actions' owners' }) (answered read_write (image_view actions owners) q)
  pub no_image : is_image actions owners ≡ false → (answer ≡ 7) × (actions' ≡ actions) × (owners' ≡ owners)
