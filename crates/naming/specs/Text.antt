-- A reason as a line of text, and what is written for a line of a trace that is explained.
use Rattle.std.specs.Prelude.{Bool, true, false, List, [], ◌∷◌, ◌++◌, ℕ, ◌+◌, ◌-◌, ◌/◌, ◌%◌, length, replicate, if◌then◌else◌}
use Rattle.std.proofs.Math.Option.{Option}
use Rattle.std.proofs.lemmas.List.Edits.{sets}
use Rattle.std.specs.Option.{option_map_or}
use Rattle.digits.specs.Digits.{hex_digit}
use Rattle.rules.specs.Bench as rules
use Rattle.rules.specs.Requests.{Request}
use Rattle.rules.specs.ReadWrite.{read_write}
use Rattle.rules.specs.Reasons.{reason_of}
use Rattle.lines.specs.Bytes.{bytes_of}
use Rattle.naming.specs.declared.Somebody.{Somebody}
use Rattle.naming.specs.declared.Reason.{Reason}
use Rattle.naming.specs.declared.text.Text.{Text}
use Rattle.naming.specs.Told.{told}

-- the two lowest digits of a number
abbrev pub two_digits : ℕ → List ℕ
two_digits n = hex_digit (n / 16 % 16) ∷ hex_digit (n % 16) ∷ []

-- how somebody owns an instrument
abbrev pub ways_text : Bool → Bool → List ℕ
ways_text true true = bytes_of " both"
ways_text true false = bytes_of " reading"
ways_text false true = bytes_of " writing"
ways_text false false = []

-- that somebody drains
abbrev pub drains_text : Bool → List ℕ
drains_text drains = if drains then bytes_of " draining" else []

-- who is named: the number, how that one owns the instrument, and that it drains
abbrev pub named_text : Somebody → List ℕ
named_text r = bytes_of " " ++ (two_digits r.number ++ (ways_text r.reads r.writes ++ drains_text r.drains))

-- The answer; who is named, where somebody is; 0a.
abbrev pub reason_text : Reason → List ℕ
reason_text r = two_digits r.answer ++ (option_map_or named_text r.names [] ++ bytes_of "\n")

-- the longest text's length
abbrev pub longest : ℕ
longest = 23

-- a text, and 0 behind it up to the longest
abbrev pub padded : List ℕ → Text
padded text = record { bytes = text ++ replicate (longest - length text) 0; size = length text }

abbrev pub text_of : Reason → Text
text_of r = padded (reason_text r)

-- a text with a word behind it
abbrev pub joined_to : Text → List ℕ → Text
joined_to t word = record { bytes = sets t.bytes t.size word; size = t.size + length word }

-- What is written for a line that is explained, from the bench before it.
abbrev pub reason_line : rules.Bench → Option Request → List ℕ
reason_line b q = reason_text (told (reason_of read_write b q))
