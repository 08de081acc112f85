-- The answer that the bench's requests give to a frame. Assumes nothing.
use mathlib.Core.Path.{◌≡◌, refl, ap}
use Rattle.std.specs.Prelude.{ℕ, Option, Some, None}
use Rattle.rules.specs.Requests as rules
use Rattle.rules.specs.Answers.{step}
use Rattle.rules.specs.Frames.{framed}
use Rattle.rules.specs.ReadWrite.{read_write}
use Rattle.rules.specs.Reasons.{reason_for, reason_of}
use mathlib.Core.Option as math
use Rattle.marks.specs.declared.requests.Request.{Request}
use Rattle.marks.specs.declared.requests.Request.TheVariants.{OpenTop, OpenSub, Read, Write, Commit, Abort, Quiet}
use Rattle.marks.specs.Requests.{meant_by, code_of, first_of, second_of}
use Rattle.bench.specs.declared.Bench.{Bench}
use Rattle.bench.specs.Record.{viewed}
use Rattle.bench.specs.Plays.{Became}

-- what a request of the bench answers is the frame's answer
pub answered_as : (b c : Bench) (r : rules.Request) (answer : ℕ) → Became b r answer c → answer ≡ (reason_of read_write (viewed b) (math.some r)).answer
unfolding step reason_of reason_for
answered_as b c r answer e = ap (λ outcome. outcome.answer) e

pub malformed_as : (b : Bench) → 8 ≡ (reason_of read_write (viewed b) math.none).answer
unfolding reason_of
malformed_as b = refl

-- a request's code and numbers make it again
pub framed_again : (asked : Option Request) → framed (code_of asked) (first_of asked) (second_of asked) ≡ meant_by asked
framed_again None = refl
framed_again (Some (OpenTop n)) = refl
framed_again (Some (OpenSub n p)) = refl
framed_again (Some (Read a i)) = refl
framed_again (Some (Write a i)) = refl
framed_again (Some (Commit a)) = refl
framed_again (Some (Abort a)) = refl
framed_again (Some (Quiet a i)) = refl
