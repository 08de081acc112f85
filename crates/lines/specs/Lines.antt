-- Trace lines (document 01, "Trace lines"): from any bytes to lines, from a line to a request, from a trace to its answers and the final bench.
use Rattle.std.specs.Prelude.{Bool, true, ◌&&◌, List, [], ◌∷◌, ◌++◌, ℕ, ◌+◌, ◌*◌, eqb, ltb, if◌then◌else◌}
use Rattle.std.proofs.Math.Option.{Option, none, some}
use Rattle.digits.specs.Digits.{hex_digit, digit_of}
use Rattle.rules.specs.Bench as rules
use Rattle.rules.specs.Requests.{Request, open_top, open_sub, commit, abort, quiet}
use Rattle.rules.specs.Answers.{answered}
use Rattle.rules.specs.ReadWrite.{read_write, read, write}

-- the first line with one more character in front
abbrev pub before : ℕ → List (List ℕ) → List (List ℕ)
before c [] = (c ∷ []) ∷ []
before c (line ∷ rest) = (c ∷ line) ∷ rest

-- The lines of a trace: each ended by byte 0a; the last may lack its 0a if it has at least one character.
unfoldable pub lines_of : List ℕ → List (List ℕ)
lines_of [] = []
lines_of (c ∷ rest) = if eqb c 10 then [] ∷ lines_of rest else before c (lines_of rest)

-- Digits 0-9 and a-f only.
abbrev pub are_digits : List ℕ → Bool
are_digits [] = true
are_digits (c ∷ rest) = ltb (digit_of c) 16 && are_digits rest

-- two digits a byte
abbrev pub byte_of : ℕ → ℕ → ℕ
byte_of high low = digit_of high * 16 + digit_of low

-- a frame of two bytes: 01 nn open top, 05 aa commit, 06 aa abort
abbrev pub short_frame : ℕ → ℕ → Option Request
short_frame code n =
    if eqb code 1 then some (open_top n)
    else if eqb code 5 then some (commit n)
    else if eqb code 6 then some (abort n)
    else none

-- a frame of three bytes: 02 nn pp open sub, 03 aa ii read, 04 aa ii write, 07 aa ii quiet
abbrev pub long_frame : ℕ → ℕ → ℕ → Option Request
long_frame code x y =
    if eqb code 2 then some (open_sub x y)
    else if eqb code 3 then some (read x y)
    else if eqb code 4 then some (write x y)
    else if eqb code 7 then some (quiet x y)
    else none

-- the frame of a line of four or of six characters
abbrev pub frame_of : List ℕ → Option Request
frame_of [] = none
frame_of (a ∷ []) = none
frame_of (a ∷ b ∷ []) = none
frame_of (a ∷ b ∷ c ∷ []) = none
frame_of (a ∷ b ∷ c ∷ d ∷ []) = short_frame (byte_of a b) (byte_of c d)
frame_of (a ∷ b ∷ c ∷ d ∷ e ∷ []) = none
frame_of (a ∷ b ∷ c ∷ d ∷ e ∷ f ∷ []) = long_frame (byte_of a b) (byte_of c d) (byte_of e f)
frame_of (a ∷ b ∷ c ∷ d ∷ e ∷ f ∷ g ∷ rest) = none

-- The request of a line. Any other line, an empty one or one with a carriage return too, has none.
unfoldable pub request_of : List ℕ → Option Request
request_of line = if are_digits line then frame_of line else none

-- the answer as two hexadecimal digits, and 0a
abbrev pub answer_text : ℕ → List ℕ
answer_text a = 48 ∷ hex_digit a ∷ 10 ∷ []

-- the answer's line, from the bench before it
abbrev pub answer_line : rules.Bench → Option Request → List ℕ
answer_line b q = answer_text (answered read_write b q).answer

-- what is written for lines, where `say` gives what is written for one, and the bench that they leave
unfoldable pub written_by : (rules.Bench → Option Request → List ℕ) → rules.Bench → List (List ℕ) → List ℕ
written_by say b [] = []
written_by say b (line ∷ rest) = say b (request_of line) ++ written_by say (answered read_write b (request_of line)).next rest

abbrev pub written : rules.Bench → List (List ℕ) → List ℕ
written = written_by answer_line

unfoldable pub left_by : rules.Bench → List (List ℕ) → rules.Bench
left_by b [] = b
left_by b (line ∷ rest) = left_by (answered read_write b (request_of line)).next rest

-- What is written for a trace, from an empty bench; its answers are the trace's output.
unfoldable pub output_by : (rules.Bench → Option Request → List ℕ) → List ℕ → List ℕ
output_by say trace = written_by say rules.empty (lines_of trace)

abbrev pub output_of : List ℕ → List ℕ
output_of = output_by answer_line
