-- A player's record, read as a trace fed byte by byte; and what feeding a player gives.
use Rattle.std.specs.Prelude.{List, ◌++◌, ◌≡◌, ℕ, ◌+◌, length, take, drop}
use Rattle.std.proofs.Math.Option.{Option}
use Rattle.std.proofs.lemmas.List.Edits.{sets}
use Rattle.rules.specs.Bench as rules
use Rattle.rules.specs.Requests.{Request}
use Rattle.bench.specs.Record.{viewed}
use Rattle.lines.specs.Lines.{answer_line}
use Rattle.lines.specs.Feeding.{Feeding, fed, said_by, taken_by}
use Rattle.naming.specs.Text.{longest, reason_line}
use Rattle.play.specs.declared.Player.{Player}
use Rattle.play.specs.declared.Fed.{Fed}

-- a player's record, read so
abbrev pub feeding : Player → Feeding
feeding p = record { bench = viewed p.bench; count = p.count; value = p.value }

-- What feeding a player gives, where `say` gives what is written for a line, at most `width` bytes: it took so many bytes, wrote what they say at the buffer's
-- start and left the bytes behind as they were, and stands where those bytes lead.
pub record FedAsBy (say : rules.Bench → Option Request → List ℕ) (width : ℕ) (p : Player) (input out : List ℕ) (r : Fed) (out' : List ℕ) : Type 0 where
  pub used : r.used ≡ taken_by width input out
  pub written : r.written ≡ length (said_by say (feeding p) (take (taken_by width input out) input))
  pub output : out' ≡ said_by say (feeding p) (take (taken_by width input out) input) ++ drop r.written out
  pub player : feeding r.player ≡ fed (feeding p) (take (taken_by width input out) input)

-- with answers
abbrev pub FedAs : Player → List ℕ → List ℕ → Fed → List ℕ → Type 0
FedAs = FedAsBy answer_line 3

-- with reasons
abbrev pub ExplainedAs : Player → List ℕ → List ℕ → Fed → List ℕ → Type 0
ExplainedAs = FedAsBy reason_line longest

-- A text has been put at a place of the buffer, and ends at another.
pub record PutAs (text out : List ℕ) (at : ℕ) (out' : List ℕ) (at' : ℕ) : Type 0 where
  pub wrote : out' ≡ sets out at text
  pub up_to : at' ≡ at + length text
