-- The frame of a line: what its digits ask, if they ask for anything, and its two numbers.
use Rattle.std.proofs.Math.Option as math
use Rattle.std.specs.Prelude.{◌≡◌, ℕ, ◌/◌, ◌%◌, Option, Some, None, eqb, if◌then◌else◌}
use Rattle.rules.specs.Requests as rules
use Rattle.marks.specs.declared.requests.Request.{Request}
use Rattle.marks.specs.declared.requests.Request.TheVariants.{OpenTop, OpenSub, Read, Write, Commit, Abort, Quiet}
use Rattle.marks.specs.Requests.{meant_by}
use Rattle.frames.specs.declared.Frame.{Frame}

-- This is the frame of a request, or one that makes none where there is none.
pub record FrameOf (r : math.Option rules.Request) (f : Frame) : Type 0 where
  pub makes : meant_by f.asked ≡ r

-- ---- what digits ask

-- four: 01, 05 or 06 and one number
abbrev pub short_asked : ℕ → ℕ → Option Request
short_asked code x =
    if eqb code 1 then Some (OpenTop x)
    else if eqb code 5 then Some (Commit x)
    else if eqb code 6 then Some (Abort x)
    else None

-- six: 02, 03, 04 or 07 and two numbers
abbrev pub long_asked : ℕ → ℕ → ℕ → Option Request
long_asked code x y =
    if eqb code 2 then Some (OpenSub x y)
    else if eqb code 3 then Some (Read x y)
    else if eqb code 4 then Some (Write x y)
    else if eqb code 7 then Some (Quiet x y)
    else None

-- ---- the frames of digits

abbrev pub no_frame : Frame
no_frame = record { asked = None; x = 0; y = 0 }

-- of four, whatever they ask: there is no second number
abbrev pub short_of : ℕ → ℕ → Frame
short_of code x = record { asked = short_asked code x; x = x; y = 0 }

-- of six, whatever they ask
abbrev pub long_of : ℕ → ℕ → ℕ → Frame
long_of code x y = record { asked = long_asked code x y; x = x; y = y }

-- of a line that has begun, with `count` digits that write `value`
abbrev pub held_frame : ℕ → ℕ → Frame
held_frame count value =
    if eqb count 4 then short_of (value / 256) (value % 256)
    else if eqb count 6 then long_of (value / 65536) (value / 256 % 256) (value % 256)
    else no_frame
