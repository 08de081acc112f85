-- What is written for a line that has ended, from the arrays that it left.
use Rattle.std.specs.Prelude.{Bool, List, ◌≡◌, ℕ, ◌+◌, ◌%◌, ◌≤◌, ◌<◌, Option, length, get_or}
use Rattle.std.proofs.Math.Option as math
use Rattle.rules.specs.Bench as bench
use Rattle.rules.specs.Requests as rules
use Rattle.marks.specs.declared.requests.Request.{Request}
use Rattle.marks.specs.Requests.{meant_by, code_of, first_of, second_of}
use Rattle.lines.specs.Lines.{answer_text}
use Rattle.naming.specs.declared.Reason.{Reason}
use Rattle.naming.specs.Blocking.{named_in}
use Rattle.naming.specs.Text.{reason_text}
use Rattle.index.specs.Tables.{Table, table}
use Rattle.play.specs.Feeding.{PutAs}
use Rattle.play.specs.Known.{feeding_in, LineDone}

-- a text of the parents, the states and the owners' words that a line left, of its request, if it made one, and of its answer
abbrev pub LineText : Type 0
LineText = List ℕ → List ℕ → List ℕ → Option Request → ℕ → List ℕ

-- its answer
abbrev pub answer_after : List ℕ → List ℕ → List ℕ → Option Request → ℕ → List ℕ
answer_after parents states owners asked answer = answer_text answer

-- whom its answer names, from the sets of the instrument that it asks for
abbrev pub reason_in : List ℕ → List ℕ → List ℕ → Option Request → ℕ → Reason
reason_in parents states owners asked answer =
    named_in parents states (get_or owners (second_of asked % 128) 0) (get_or owners (128 + second_of asked % 128) 0) (code_of asked) (first_of asked) (second_of asked) answer

-- its answer's reason
abbrev pub reason_after : List ℕ → List ℕ → List ℕ → Option Request → ℕ → List ℕ
reason_after parents states owners asked answer = reason_text (reason_in parents states owners asked answer)

-- Where a line has ended with an answer, the text of the arrays that it left is what is said of the bench before it.
abbrev pub TextSaid : LineText → (bench.Bench → math.Option rules.Request → List ℕ) → Type 0
TextSaid text say =
    (is_sound : Bool) (before : Table) (parents states owners index : List ℕ) (asked : Option Request) (answer : ℕ) → LineDone is_sound (meant_by asked) before answer (table parents states owners index) →
    text parents states owners asked answer ≡ say (feeding_in before 0 0).bench (meant_by asked)

-- Where a buffer has room for `width` bytes from a place on, a text has been put there, and ends at another place. Else nothing has been put.
pub record PutWithin (width : ℕ) (text out : List ℕ) (at : ℕ) (out' : List ℕ) (at' : ℕ) : Type 0 where
  pub put : at + width ≤ length out → PutAs text out at out' at'
  pub kept : length out < at + width → (out' ≡ out) × (at' ≡ at)
