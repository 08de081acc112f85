-- The text of a bench (document 01, "Saved form"): bytes of characters. First `11 nn ss pp` for each number not free, then `12 ii` and both sets for
-- each instrument with a set that isn't empty, both ascending, 0a after each.
use Rattle.std.specs.Prelude.{List, [], ◌∷◌, ◌++◌, ℕ, zero, suc, ◌/◌, ◌%◌, ◌^◌, get_or, if◌then◌else◌}
use Rattle.bench.specs.declared.Bench.{Bench}
pub use Rattle.digits.specs.Digits.{hex_digit}
use Rattle.forms.specs.Kinds.{FrameShape, Kind, action, instrument}

-- x in n hexadecimal digits, the highest leftmost
unfoldable pub hex_of : ℕ → ℕ → List ℕ
hex_of zero x = []
hex_of (suc n) x = hex_digit (x / 16 ^ n % 16) ∷ hex_of n x

-- a frame of this shape: its code, number k, values x and y, and 0a
abbrev pub frame : FrameShape → ℕ → ℕ → ℕ → List ℕ
frame f k x y =
    hex_of 2 f.code ++ (hex_of 2 k ++ (hex_of f.first_digits x ++ (hex_of f.second_digits y ++ (10 ∷ []))))

-- the frame of number k for elements x and y
abbrev pub frame_of : Kind → ℕ → ℕ → ℕ → List ℕ
frame_of K k x y = frame K.shape k (K.first_value x y) (K.second_value x y)

-- what number k adds to the text, from both arrays: nothing, or its frame
unfoldable pub cell_of : Kind → List ℕ → List ℕ → ℕ → List ℕ
cell_of K xs ys k = if K.bare (get_or xs k 0) (get_or ys k 0) then [] else frame_of K k (get_or xs k 0) (get_or ys k 0)

-- n cells, from k on
unfoldable pub cells_from : (ℕ → List ℕ) → ℕ → ℕ → List ℕ
cells_from cell zero k = []
cells_from cell (suc n) k = cell k ++ cells_from cell n (suc k)

-- what all numbers add to a bench's text, and what all instruments do
abbrev pub actions_text : Bench → List ℕ
actions_text b = cells_from (cell_of action b.parents b.states) 64 0

abbrev pub instruments_text : Bench → List ℕ
instruments_text b = cells_from (cell_of instrument b.reads b.writes) 128 0

unfoldable pub text_of : Bench → List ℕ
text_of b = actions_text b ++ instruments_text b
