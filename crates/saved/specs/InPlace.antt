-- The saved form of a bench whose image is lent: what is told, written and loaded is that of its record. Slices that are no image are answered 7, and
-- nothing changes.
use Rattle.std.specs.Prelude.{List, ◌++◌, ◌≡◌, ℕ, length, if◌then◌else◌}
use Rattle.image.specs.Image.{is_image, record_of, StoredAs}
use Rattle.saving.specs.declared.Saved.{Saved}
use Rattle.saved.specs.Saved.{saved_as, sized_as, buffer_after, load_of}

abbrev pub size_of_image : List ℕ → List ℕ → Saved
size_of_image actions owners =
    if is_image actions owners then sized_as (record_of actions owners) else record { answer = 7; count = 0 }

-- r is what saving an image returns where the buffer held `out`, and `after` is what the buffer then holds.
pub record SavesImage (actions owners out : List ℕ) (r : Saved) (after : List ℕ) : Type 0 where
  pub told : r ≡ (if is_image actions owners then saved_as (record_of actions owners) (length out) else record { answer = 7; count = 0 })
  pub buffer : after ≡ (if is_image actions owners then buffer_after (record_of actions owners) out else out)

-- A text was read into the image of an empty bench: this is what it is answered, and where that is 0 the image is that of the bench that it says.
pub record ReadFrom (text : List ℕ) (answer : ℕ) (actions' owners' : List ℕ) : Type 0 where
  pub told : answer ≡ (load_of text).answer
  pub bytes_long : length actions' ≡ 128
  pub words_long : length owners' ≡ 256
  pub bytes : answer ≡ 0 → actions' ≡ (load_of text).bench.parents ++ (load_of text).bench.states
  pub words : answer ≡ 0 → owners' ≡ (load_of text).bench.reads ++ (load_of text).bench.writes

-- A text is loaded into an image: the answer is the text's, and the image becomes that of the bench that it gives.
pub record LoadsInto (text actions owners : List ℕ) (answer : ℕ) (actions' owners' : List ℕ) : Type 0 where
  pub told : answer ≡ (if is_image actions owners then (load_of text).answer else 7)
  pub stored : StoredAs (load_of text).bench actions owners actions' owners'
