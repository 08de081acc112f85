-- The end of a player's input: a last line that lacks its 0a is answered if it has at least one character. Where the lent buffer may lack room for what is
-- written for it nothing is done, and the line stays begun.
use Rattle.std.specs.Prelude.{Bool, not, ◌&&◌, List, [], ◌++◌, ◌≡◌, ℕ, eqb, leb, length, drop, if◌then◌else◌}
use Rattle.std.proofs.Math.Option.{Option}
use Rattle.rules.specs.Bench as rules
use Rattle.rules.specs.Requests.{Request}
use Rattle.lines.specs.Lines.{answer_line}
use Rattle.lines.specs.Feeding.{Feeding, fed_byte, said_byte_by}
use Rattle.naming.specs.Text.{longest, reason_line}
use Rattle.play.specs.declared.Player.{Player}
use Rattle.play.specs.declared.Fed.{Fed}
use Rattle.play.specs.Feeding.{feeding}

-- a line has begun, and what is written for it, at most `width` bytes, has room
abbrev pub ends_line : ℕ → Feeding → List ℕ → Bool
ends_line width f out = not (eqb f.count 0) && leb width (length out)

-- what is written for it, where `say` gives what is written for a line, and where the player stands after it
abbrev pub said_last_by : (rules.Bench → Option Request → List ℕ) → ℕ → Feeding → List ℕ → List ℕ
said_last_by say width f out = if ends_line width f out then said_byte_by say f 10 else []

abbrev pub fed_last_by : ℕ → Feeding → List ℕ → Feeding
fed_last_by width f out = if ends_line width f out then fed_byte f 10 else f

-- What ending the input gives: no bytes taken, what is written for the last line at the buffer's start and the bytes behind it as they were.
pub record FinishedAsBy (say : rules.Bench → Option Request → List ℕ) (width : ℕ) (p : Player) (out : List ℕ) (r : Fed) (out' : List ℕ) : Type 0 where
  pub used : r.used ≡ 0
  pub written : r.written ≡ length (said_last_by say width (feeding p) out)
  pub output : out' ≡ said_last_by say width (feeding p) out ++ drop r.written out
  pub player : feeding r.player ≡ fed_last_by width (feeding p) out

-- with its answer
abbrev pub said_last : Feeding → List ℕ → List ℕ
said_last = said_last_by answer_line 3

abbrev pub fed_last : Feeding → List ℕ → Feeding
fed_last = fed_last_by 3

abbrev pub FinishedAs : Player → List ℕ → Fed → List ℕ → Type 0
FinishedAs = FinishedAsBy answer_line 3

-- with its reason
abbrev pub FinishedExplainingAs : Player → List ℕ → Fed → List ℕ → Type 0
FinishedExplainingAs = FinishedAsBy reason_line longest
