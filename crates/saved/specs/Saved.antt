-- Save and load (document 01, "Saved form" and answers 7, 8 and 9).
use Rattle.std.specs.Prelude.{List, ◌≡◌, ℕ, length, if◌then◌else◌}
use Rattle.std.proofs.Math.Option.{Option, none, some}
use Rattle.rules.specs.Sound.{sound}
use Rattle.rules.specs.ReadWrite.{read_write}
use Rattle.bench.specs.declared.Bench.{Bench}
use Rattle.bench.specs.Record.{viewed}
pub use Rattle.image.specs.Image.{empty_record}
use Rattle.saving.specs.declared.Saved.{Saved}
use Rattle.saving.specs.Stored.{stored_as, stored_in}
use Rattle.saved.specs.declared.Loaded.{Loaded}
use Rattle.forms.specs.Text.{text_of}
use Rattle.forms.specs.WellShaped.{record_in}

-- Save: 7 where the record isn't sound, then 9 where the buffer is shorter than the text; either way 0 bytes. Else 0 and the text's length.
unfoldable pub saved_as : Bench → ℕ → Saved
saved_as b room =
    if sound read_write (viewed b) then stored_as b room else record { answer = 7; count = 0 }

-- The buffer after it: untouched where it is refused, else the text at its start and the bytes behind as they were.
unfoldable pub buffer_after : Bench → List ℕ → List ℕ
buffer_after b out =
    if sound read_write (viewed b) then stored_in b out else out

-- The size of a bench's text: 7 and 0 where the record isn't sound.
abbrev pub sized_as : Bench → Saved
sized_as b =
    if sound read_write (viewed b) then record { answer = 0; count = length (text_of b) } else record { answer = 7; count = 0 }

-- a record that a text says: 7 and an empty bench where it isn't sound
abbrev pub if_sound : Bench → Loaded
if_sound b =
    if sound read_write (viewed b) then record { bench = b; answer = 0 } else record { bench = empty_record; answer = 7 }

abbrev pub loaded_from : Option Bench → Loaded
loaded_from none = record { bench = empty_record; answer = 8 }
loaded_from (some b) = if_sound b

-- Load: 8 for the whole text where it is not well-shaped, then 7; refused gives an empty bench.
unfoldable pub load_of : List ℕ → Loaded
load_of text = loaded_from (record_in text)

-- r is what `save` returns on bench b and a buffer that held `out`, and `after` is what the buffer then holds.
abbrev pub Saves : Bench → List ℕ → Saved → List ℕ → Type 0
Saves b out r after = (r ≡ saved_as b (length out)) × (after ≡ buffer_after b out)

-- r is what `load` returns on a text.
abbrev pub Loads : List ℕ → Loaded → Type 0
Loads text r = r ≡ load_of text
