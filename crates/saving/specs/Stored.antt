-- A text that is stored in a buffer (document 01, "Saved form" and answer 9).
use Rattle.std.specs.Prelude.{List, ◌++◌, ◌≡◌, ℕ, ltb, length, drop, if◌then◌else◌}
use Rattle.bench.specs.declared.Bench.{Bench}
use Rattle.forms.specs.Text.{text_of}
use Rattle.saving.specs.declared.Saved.{Saved}

-- 9 and 0 bytes where the buffer is shorter than the text, else 0 and the text's length.
abbrev pub stored_as : Bench → ℕ → Saved
stored_as b room =
    if ltb room (length (text_of b)) then record { answer = 9; count = 0 } else record { answer = 0; count = length (text_of b) }

-- The buffer after it: untouched where it is shorter than the text, else the text at its start and the bytes behind as they were.
abbrev pub stored_in : Bench → List ℕ → List ℕ
stored_in b out = if ltb (length out) (length (text_of b)) then out else text_of b ++ drop (length (text_of b)) out

-- r is what storing the text of bench b returns where the buffer held `out`, and `after` is what the buffer then holds.
abbrev pub Stores : Bench → List ℕ → Saved → List ℕ → Type 0
Stores b out r after = (r ≡ stored_as b (length out)) × (after ≡ stored_in b out)
