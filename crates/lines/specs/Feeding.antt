-- A trace fed byte by byte: the bench, and what is known of the line that has begun. Its characters so far are `count` digits that write `value`; a
-- count of 7 says that no request can come of the line any more.
use Rattle.std.specs.Prelude.{Bool, ◌&&◌, List, [], ◌∷◌, ◌++◌, ◌≡◌, ℕ, ◌+◌, ◌*◌, ◌/◌, ◌%◌, min, eqb, ltb, length, if◌then◌else◌}
use Rattle.std.proofs.Math.Option.{Option, none}
use Rattle.digits.specs.Digits.{digit_of}
use Rattle.rules.specs.Bench as rules
use Rattle.rules.specs.Requests.{Request}
use Rattle.std.proofs.lemmas.List.Edits.{sets}
use Rattle.views.specs.View.{view}
use Rattle.rules.specs.Answers.{answered}
use Rattle.rules.specs.ReadWrite.{read_write}
use Rattle.lines.specs.Lines.{short_frame, long_frame, answer_line}

pub record Feeding : Type 0 where
  pub bench : rules.Bench
  pub count : ℕ
  pub value : ℕ

-- nothing of a line has come yet
abbrev pub between : rules.Bench → Feeding
between b = record { bench = b; count = 0; value = 0 }

-- the request of the line as it stands
unfoldable pub held_request : ℕ → ℕ → Option Request
held_request count value =
    if eqb count 4 then short_frame (value / 256) (value % 256)
    else if eqb count 6 then long_frame (value / 65536) (value / 256 % 256) (value % 256)
    else none

-- whether one more character may be a digit of a request
abbrev pub may_go_on : ℕ → ℕ → Bool
may_go_on count c = ltb count 6 && ltb (digit_of c) 16

-- the count and the value after one more character (five digits and one more always have room: the remainder is there for a player that was never fed)
abbrev pub count_after : ℕ → ℕ → ℕ
count_after count c = if may_go_on count c then count + 1 else 7

abbrev pub value_after : ℕ → ℕ → ℕ → ℕ
value_after count value c = if may_go_on count c then value % 16777216 * 16 + digit_of c else 0

-- after one byte: a line's end is answered, any other byte is a character of the line
unfoldable pub fed_byte : Feeding → ℕ → Feeding
fed_byte f c =
    if eqb c 10 then between (answered read_write f.bench (held_request f.count f.value)).next
    else record { bench = f.bench; count = count_after f.count c; value = value_after f.count f.value c }

-- what is written for it, where `say` gives what is written for a line
unfoldable pub said_byte_by : (rules.Bench → Option Request → List ℕ) → Feeding → ℕ → List ℕ
said_byte_by say f c = if eqb c 10 then say f.bench (held_request f.count f.value) else []

-- after any bytes, and what is written for them
unfoldable pub fed : Feeding → List ℕ → Feeding
fed f [] = f
fed f (c ∷ rest) = fed (fed_byte f c) rest

unfoldable pub said_by : (rules.Bench → Option Request → List ℕ) → Feeding → List ℕ → List ℕ
said_by say f [] = []
said_by say f (c ∷ rest) = said_byte_by say f c ++ said_by say (fed_byte f c) rest

-- The end of the input: a last line that lacks its 0a is answered if it has at least one character.
unfoldable pub said_at_end_by : (rules.Bench → Option Request → List ℕ) → Feeding → List ℕ
said_at_end_by say f = if eqb f.count 0 then [] else said_byte_by say f 10

-- where the answers are written
abbrev pub said_byte : Feeding → ℕ → List ℕ
said_byte = said_byte_by answer_line

abbrev pub said : Feeding → List ℕ → List ℕ
said = said_by answer_line

abbrev pub said_at_end : Feeding → List ℕ
said_at_end = said_at_end_by answer_line

-- how many bytes are taken at once: all, or as many as surely have room for what is written for them, at most `width` bytes for each; and with 3, the
-- room for answers
abbrev pub taken_by : ℕ → List ℕ → List ℕ → ℕ
taken_by width input out = min (length input) (length out / width)

abbrev pub taken : List ℕ → List ℕ → ℕ
taken = taken_by 3

-- four arrays and a line that has begun
abbrev pub feeding_of : List ℕ → List ℕ → List ℕ → List ℕ → ℕ → ℕ → Feeding
feeding_of parents states reads writes count value = record { bench = view parents states reads writes; count = count; value = value }

-- Bytes have been fed: what stands now in the arrays and of the line, what was written from place `at` on, and up to where.
pub record FedBytesBy (say : rules.Bench → Option Request → List ℕ) (from : Feeding) (bytes out : List ℕ) (at : ℕ) (now : Feeding) (out' : List ℕ) (at' : ℕ) : Type 0 where
  pub is : now ≡ fed from bytes
  pub wrote : out' ≡ sets out at (said_by say from bytes)
  pub up_to : at' ≡ at + length (said_by say from bytes)
