-- What playing a list of request records does to a lent image and to the lent words that hold the list.
use Rattle.std.specs.Prelude.{Bool, true, false, List, ◌≡◌, ℕ, ltb, length, if◌then◌else◌}
use Rattle.std.proofs.Math.Option.{Option}
use Rattle.rules.specs.Requests.{Request}
use Rattle.rules.specs.ReadWrite.{read_write}
use Rattle.rules.specs.Lists.{Call, call, list_answered, after_list}
use Rattle.views.specs.Arrays.{KnownArrays, LineEnded}
use Rattle.steps.specs.Arrays.{Arrays, view_of, read_sets, write_sets}
use Rattle.image.specs.Image.{is_image, image_view}
use Rattle.desk.specs.Words.{entries_in, spare_in}

-- more records than a call takes
abbrev pub too_long : List ℕ → Bool
too_long words = ltb 32 (length (entries_in words))

-- A list is played on an image: the call's answer, the list and the image after it are those of the rules. Slices that are no image are answered 7, or 11 before
-- that, and all stays as it was. Lengths stay, and so do the words that are no record.
pub record ListPlayed (actions owners words : List ℕ) (answer : ℕ) (actions' owners' words' : List ℕ) : Type 0 where
  pub bytes_long : length actions' ≡ length actions
  pub sets_long : length owners' ≡ length owners
  pub spare : spare_in words' ≡ spare_in words
  pub called : is_image actions owners ≡ true →
      ◌≡◌ {A = Call} (record { answer = answer; list = entries_in words'; next = image_view actions' owners' }) (call read_write (image_view actions owners) (entries_in words))
  pub no_image : is_image actions owners ≡ false → (answer ≡ (if too_long words then 11 else 7)) × (actions' ≡ actions) × (owners' ≡ owners) × (words' ≡ words)

-- ---- inside a call

-- Arrays of a record's lengths, and whether they are those of a sound bench.
pub record KnownLists (is_sound : Bool) (b : Arrays) : Type 0 where
  pub table : KnownArrays is_sound b.parents b.states (read_sets b.owners) (write_sets b.owners)
  pub owners_long : length b.owners ≡ 256

-- A record's request is made: the answer and the arrays after it are those of the request, or 8 and no change where it has none; whether they are those of a sound
-- bench is known as it was.
pub record EntryDone (is_sound : Bool) (q : Option Request) (before : Arrays) (answer : ℕ) (after : Arrays) : Type 0 where
  pub ended : LineEnded is_sound q before.parents before.states (read_sets before.owners) (write_sets before.owners) answer
      after.parents after.states (read_sets after.owners) (write_sets after.owners)
  pub owners_long : length after.owners ≡ 256

-- All records of the words are played.
pub record ListDone (is_sound : Bool) (before : Arrays) (words : List ℕ) (after : Arrays) (words' : List ℕ) : Type 0 where
  pub list : entries_in words' ≡ list_answered read_write (view_of before) (entries_in words)
  pub bench : view_of after ≡ after_list read_write (view_of before) (entries_in words)
  pub spare : spare_in words' ≡ spare_in words
  pub known : KnownLists is_sound after
