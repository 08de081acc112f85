-- Where a line ends in the input: its frame, and how many bytes end it.
use Rattle.std.specs.Prelude.{◌&&◌, List, ◌≡◌, ℕ, ◌+◌, ◌-◌, ◌*◌, ◌≤◌, ◌<◌, Option, Some, None, MatchOption, eqb, leb, ltb, length, get_or, take, drop, if◌then◌else◌}
use Rattle.std.specs.Option.{option_or}
use Rattle.lines.specs.NextEnds.{EndsAs}
use Rattle.marks.specs.Requests.{meant_by}
use Rattle.frames.specs.declared.ends.End.{End}
use Rattle.frames.specs.Frames.{short_of, long_of, held_frame}

-- ---- what is found, with any table of values

-- the value of a byte by a table; what is no byte is no digit
abbrev pub value_by : List ℕ → ℕ → ℕ
value_by values c = if ltb c 256 then get_or values c 0 else 16

-- what two characters write by it, where both are digits
abbrev pub pair_by : List ℕ → ℕ → ℕ → Option ℕ
pair_by values high low =
    if leb 16 (value_by values high) then None
    else if leb 16 (value_by values low) then None
    else Some (value_by values high * 16 + value_by values low)

-- a whole line, where code, x and y are what its pairs of characters write: four digits whose fifth byte ends the line, or six whose seventh does
abbrev pub short_line : ℕ → ℕ → Option End
short_line code x = Some (record { frame = short_of code x; size = 5 })

abbrev pub long_line : ℕ → ℕ → Option ℕ → ℕ → Option End
long_line code x None seventh = None
long_line code x (Some y) seventh = if eqb seventh 10 then Some (record { frame = long_of code x y; size = 7 }) else None

abbrev pub line_of : Option ℕ → Option ℕ → Option ℕ → ℕ → ℕ → Option End
line_of None x y fifth seventh = None
line_of (Some code) None y fifth seventh = None
line_of (Some code) (Some x) y fifth seventh = if eqb fifth 10 then short_line code x else long_line code x y seventh

-- the one that lies at a place
abbrev pub line_at : List ℕ → List ℕ → ℕ → Option End
line_at values input at =
    line_of (pair_by values (get_or input at 0) (get_or input (at + 1) 0)) (pair_by values (get_or input (at + 2) 0) (get_or input (at + 3) 0))
    (pair_by values (get_or input (at + 4) 0) (get_or input (at + 5) 0)) (get_or input (at + 4) 0) (get_or input (at + 6) 0)

-- the same where no line has begun and seven bytes are left; no other line is looked for
abbrev pub whole_line : List ℕ → ℕ → ℕ → List ℕ → ℕ → Option End
whole_line values count value input at =
    if eqb count 0 && (eqb value 0 && leb 7 (length input - at)) then line_at values input at else None

-- the end of the line that has begun, where the next byte is it
abbrev pub begun_end : ℕ → ℕ → List ℕ → ℕ → Option End
begun_end count value input at = if eqb (get_or input at 0) 10 then Some (record { frame = held_frame count value; size = 1 }) else None

-- the one or the other; none behind the input
abbrev pub next_end : List ℕ → ℕ → ℕ → List ℕ → ℕ → Option End
next_end values count value input at =
    if leb (length input) at then None else option_or (whole_line values count value input at) (begun_end count value input at)

-- ---- what that means, with the values of all bytes

-- So many bytes from place `at` on end the line that has begun, with `count` digits that write `value`, and this is its frame.
pub record EndFound (count value : ℕ) (input : List ℕ) (at : ℕ) (end : End) : Type 0 where
  pub some : 0 < end.size
  pub within : at + end.size ≤ length input
  pub ends : EndsAs count value (take end.size (drop at input)) (meant_by end.frame.asked)

-- An end that is found is one; and where none is found the next byte doesn't end the line.
abbrev pub NextEnd : (count value : ℕ) (input : List ℕ) (at : ℕ) → Option End → Type 0
NextEnd count value input at found = MatchOption found (get_or input at 0 ≡ 10 → ⊥) (EndFound count value input at)
