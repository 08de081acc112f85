-- Hexadecimal digits as characters: 0 to 9 and a to f, and no others.
use Rattle.std.specs.Prelude.{◌&&◌, cond, List, ◌≡◌, length, get_or, ℕ, ◌+◌, ◌-◌, ◌<◌, leb, ltb, if◌then◌else◌, Option, Some, None}

-- the character of a digit below 16
abbrev pub hex_digit : ℕ → ℕ
hex_digit d = cond (ltb d 10) (48 + d) (87 + d)

-- the value of a character 0-9 or a-f, and 16 for any other byte
abbrev pub digit_of : ℕ → ℕ
digit_of c = cond (leb 48 c && leb c 57) (c - 48) (cond (leb 97 c && leb c 102) (c - 87) 16)

-- the same where there may be none: a digit's value, and none for any other byte
abbrev pub digit_in : ℕ → Option ℕ
digit_in c = if ltb (digit_of c) 16 then Some (digit_of c) else None

-- A table of the values of all bytes.
pub record ValuesOfBytes (values : List ℕ) : Type 0 where
  pub long : length values ≡ 256
  pub each : (c : ℕ) → c < 256 → get_or values c 0 ≡ digit_of c
