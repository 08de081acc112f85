-- Sessions as text: what a text asks for, character by character, and the bench after it.
use Rattle.std.specs.Prelude.{List, [], ◌∷◌, ℕ, ◌+◌, ◌*◌, ◌%◌, eqb, leb, ltb, if◌then◌else◌, Option, Some, None}
use Rattle.rules.specs.Bench.{Bench}
use Rattle.rules.specs.Requests.{Request, open_top, open_sub, commit, abort, quiet}
use Rattle.rules.specs.Answers.{step}
use Rattle.rules.specs.ReadWrite.{read_write, read, write}
use Rattle.trials.specs.declared.session.Reading.{Reading}

-- a number with a further digit, of which the last 32 bits are kept
abbrev pub grown : ℕ → ℕ → ℕ
grown number digit = (number * 10 + digit) % 4294967296

-- a letter has been read
abbrev pub begun : ℕ → Reading
begun letter = record { letter = letter; first = 0; second = None }

-- the number after the comma, 0 before there is one
abbrev pub number : Option ℕ → ℕ
number None = 0
number (Some n) = n

-- after a comma
abbrev pub with_comma : Reading → Reading
with_comma r = record { letter = r.letter; first = r.first; second = Some (number r.second) }

-- after a further digit, which is the first number's before the comma and the second's after it
abbrev pub digit_before_or_after : ℕ → ℕ → Option ℕ → ℕ → Reading
digit_before_or_after letter first None digit = record { letter = letter; first = grown first digit; second = None }
digit_before_or_after letter first (Some n) digit = record { letter = letter; first = first; second = Some (grown n digit) }

abbrev pub with_digit : Reading → ℕ → Reading
with_digit r digit = digit_before_or_after r.letter r.first r.second digit

-- what has been read, if anything has, after a comma or a digit
abbrev pub carried : Option Reading → (Reading → Reading) → Option Reading
carried None further = None
carried (Some r) further = Some (further r)

-- What has been read after a further character: a space or the end of a line begins anew, a comma parts two numbers, what stands behind the digits is a letter.
abbrev pub read_on : Option Reading → ℕ → Option Reading
read_on reading c =
    if leb c 32 then None
    else if eqb c 44 then carried reading with_comma
    else if ltb 57 c then Some (begun c)
    else carried reading (λ r. with_digit r (c % 16))

-- The request that has been read: the letters are t, s, r, w, c, a, and any other as q.
abbrev pub request_read : Reading → Request
request_read r =
    if eqb r.letter 116 then open_top r.first
    else if eqb r.letter 115 then open_sub r.first (number r.second)
    else if eqb r.letter 114 then read r.first (number r.second)
    else if eqb r.letter 119 then write r.first (number r.second)
    else if eqb r.letter 99 then commit r.first
    else if eqb r.letter 97 then abort r.first
    else quiet r.first (number r.second)

-- the bench after it, or the same where none has been read
abbrev pub after_read : Bench → Option Reading → Bench
after_read b None = b
after_read b (Some r) = (step read_write b (request_read r)).next

-- the bench after a further character, if that ends the request
abbrev pub after_character : Bench → Option Reading → ℕ → Bench
after_character b reading c = if leb c 32 then after_read b reading else b

-- the bench after a text
unfoldable pub after_text : Bench → Option Reading → List ℕ → Bench
after_text b reading [] = after_read b reading
after_text b reading (c ∷ text) = after_text (after_character b reading c) (read_on reading c) text
