-- The frame of a line's digits: a code that a frame of its length has makes its request, and any other makes none. Assumes nothing.
use Rattle.std.specs.Prelude.{Option, Some, None, if◌then◌else◌}
use mathlib.Core.Path.{refl}
use mathlib.Core.Option as math
use Prim.Native.Nat.{ℕ, ◌/◌, ◌%◌}
use lib.Dec.{eqb}
use Rattle.rules.specs.Requests as rules
use Rattle.rules.proofs.Tests.{by_bool}
use Rattle.marks.specs.declared.requests.Request.{Request}
use Rattle.marks.specs.declared.requests.Request.TheVariants.{OpenTop, OpenSub, Read, Write, Commit, Abort, Quiet}
use Rattle.marks.specs.Requests.{meant}
use Rattle.lines.specs.Lines.{short_frame, long_frame}
use Rattle.lines.specs.Feeding.{held_request}
use Rattle.frames.specs.Frames.{FrameOf, no_frame, short_of, long_of, held_frame}

-- one code more: its request, and that of the others where it is another; the numbers are the same
one_more : (code wanted : ℕ) (wants : Request) (x y : ℕ) {r : math.Option rules.Request} {other : Option Request} → FrameOf r (record { asked = other; x = x; y = y }) →
    FrameOf (if eqb code wanted then math.some (meant wants) else r) (record { asked = if eqb code wanted then Some wants else other; x = x; y = y })
one_more code wanted wants x y others =
    by_bool (eqb code wanted) (λ t. rw t (record { makes = refl })) (λ t. rw t others)

-- there is no request, whatever the numbers are
none_of : (x y : ℕ) → FrameOf math.none (record { asked = None; x = x; y = y })
none_of x y = record { makes = refl }

pub none_framed : FrameOf math.none no_frame
none_framed = none_of 0 0

-- Frames of four digits have the codes 1, 5 and 6.
pub short_framed : (code x : ℕ) → FrameOf (short_frame code x) (short_of code x)
short_framed code x =
    one_more code 1 (OpenTop x) x 0
    (one_more code 5 (Commit x) x 0
    (one_more code 6 (Abort x) x 0 (none_of x 0)))

-- Frames of six digits have the codes 2, 3, 4 and 7.
pub long_framed : (code x y : ℕ) → FrameOf (long_frame code x y) (long_of code x y)
long_framed code x y =
    one_more code 2 (OpenSub x y) x y
    (one_more code 3 (Read x y) x y
    (one_more code 4 (Write x y) x y
    (one_more code 7 (Quiet x y) x y (none_of x y))))

-- the frame of a line that has begun
pub held_framed : (count value : ℕ) → FrameOf (held_request count value) (held_frame count value)
unfolding held_request
held_framed count value =
    by_bool (eqb count 4) (λ t. rw t (short_framed (value / 256) (value % 256)))
    (λ t. rw t
    (by_bool (eqb count 6) (λ u. rw u (long_framed (value / 65536) (value / 256 % 256) (value % 256)))
    (λ u. rw u none_framed)))
