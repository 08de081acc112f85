-- Ends of lines that are found in the input, or not: what `next_end` gives with the values of all bytes is an end of a line, with its frame. Assumes nothing.
use mathlib.Core.Path.{◌≡◌}
use mathlib.Core.Bool.{◌&&◌}
use mathlib.Core.List.{List}
use mathlib.Core.Option as math
use Prim.Native.Nat.{ℕ, ◌+◌, ◌-◌, ◌≤◌, ◌<◌}
use native.Mathlib.Omega.{arith}
use borrow.Author.Tests.{eqb-true, eqb-false, leb-true, lt-leb}
use lib.Dec.{eqb, leb}
use lib.ListN.{length, get_or, take, drop}
use Rattle.std.specs.Prelude.{Option, Some, None, IfSome}
use Rattle.std.specs.Option.{option_or}
use Rattle.digits.specs.Digits.{ValuesOfBytes}
use Rattle.rules.specs.Requests as rules
use Rattle.rules.proofs.Tests.{by_bool, and_left, and_right}
use Rattle.lines.specs.NextEnds.{EndsAs, pair_of}
use Rattle.lines.proofs.WholeLines.{short_whole, long_whole, begun_ends}
use Rattle.frames.specs.declared.Frame.{Frame}
use Rattle.frames.specs.declared.ends.End.{End}
use Rattle.frames.specs.Frames.{FrameOf}
use Rattle.frames.specs.Ends.{pair_by, line_of, long_line, line_at, whole_line, begun_end, next_end, EndFound, NextEnd}
use Rattle.frames.proofs.Framing.{short_framed, long_framed, held_framed}
use Rattle.frames.proofs.Values.{Writes, pair_of_lem}

-- so many bytes end the line, and its frame is known
found : {count value : ℕ} {input : List ℕ} {at : ℕ} {r : math.Option rules.Request} {frame : Frame} (size : ℕ) → FrameOf r frame → 0 < size →
    at + size ≤ length input → EndsAs count value (take size (drop at input)) r → EndFound count value input at (record { frame = frame; size = size })
found size frame some within ends = record { some = some; within = within; ends = rw frame.makes ends }

module _ (input : List ℕ) (at : ℕ) (room : at + 7 ≤ length input) where
  -- what the characters at two places write
  abbrev written : ℕ → ℕ → ℕ
  written i j = pair_of (get_or input i 0) (get_or input j 0)

  -- six digits and 0a are a whole line
  long_found : (code x : ℕ) → code ≡ written at (at + 1) → code < 256 → x ≡ written (at + 2) (at + 3) → x < 256 → (y : Option ℕ) → Writes y (written (at + 4) (at + 5)) →
      IfSome (long_line code x y (get_or input (at + 6) 0)) (EndFound 0 0 input at)
  long_found code x c cs xe xs None w = tt
  long_found code x c cs xe xs (Some y) w =
      by_bool (eqb (get_or input (at + 6) 0) 10)
      (λ e. rw e (found 7 (long_framed code x y) (omega arith) (omega arith) (long_whole input at room c cs xe xs w.0 w.1 (eqb-true (get_or input (at + 6) 0) 10 e))))
      (λ e. rw e tt)

  -- and so are four
  line_of_found : (code x y : Option ℕ) → Writes code (written at (at + 1)) → Writes x (written (at + 2) (at + 3)) → Writes y (written (at + 4) (at + 5)) →
      IfSome (line_of code x y (get_or input (at + 4) 0) (get_or input (at + 6) 0)) (EndFound 0 0 input at)
  line_of_found None x y c d e = tt
  line_of_found (Some code) None y c d e = tt
  line_of_found (Some code) (Some x) y c d e =
      by_bool (eqb (get_or input (at + 4) 0) 10)
      (λ v. rw v (found 5 (short_framed code x) (omega arith) (omega arith) (short_whole input at room c.0 c.1 d.0 d.1 (eqb-true (get_or input (at + 4) 0) 10 v))))
      (λ v. rw v (long_found code x c.0 c.1 d.0 d.1 y e))

module _ {values : List ℕ} (table : ValuesOfBytes values) (input : List ℕ) (at : ℕ) where
  line_found : at + 7 ≤ length input → IfSome (line_at values input at) (EndFound 0 0 input at)
  line_found room =
      line_of_found input at room (pair at (at + 1)) (pair (at + 2) (at + 3)) (pair (at + 4) (at + 5)) (is at (at + 1)) (is (at + 2) (at + 3)) (is (at + 4) (at + 5))
    where
      pair : ℕ → ℕ → Option ℕ
      pair i j = pair_by values (get_or input i 0) (get_or input j 0)

      is : (i j : ℕ) → Writes (pair i j) (written input at room i j)
      is i j = pair_of_lem table (get_or input i 0) (get_or input j 0)

  module _ (count value : ℕ) where
    whole_found : IfSome (whole_line values count value input at) (EndFound count value input at)
    whole_found =
        by_bool (eqb count 0 && (eqb value 0 && leb 7 (length input - at)))
        (λ t. let rest = and_right (eqb count 0) (eqb value 0 && leb 7 (length input - at)) t in
        let no_digits = eqb-true count 0 (and_left (eqb count 0) (eqb value 0 && leb 7 (length input - at)) t) in
        let no_value = eqb-true value 0 (and_left (eqb value 0) (leb 7 (length input - at)) rest) in
        let left = leb-true 7 (length input - at) (and_right (eqb value 0) (leb 7 (length input - at)) rest) in
        rw t (rw (no_digits, no_value) (line_found (omega arith))))
        (λ t. rw t tt)

    -- 0a ends the line that has begun, and no other byte does
    begun_found : at < length input → NextEnd count value input at (begun_end count value input at)
    begun_found inside =
        by_bool (eqb (get_or input at 0) 10)
        (λ t. rw t (found 1 (held_framed count value) (omega arith) (omega arith) (begun_ends input at inside (eqb-true (get_or input at 0) 10 t))))
        (λ t. rw t (eqb-false (get_or input at 0) 10 t))

    first_found : (whole : Option End) → IfSome whole (EndFound count value input at) → at < length input → NextEnd count value input at (option_or whole (begun_end count value input at))
    first_found None is inside = begun_found inside
    first_found (Some end) is inside = is

    pub next_end_found : at < length input → NextEnd count value input at (next_end values count value input at)
    next_end_found inside = rw (lt-leb (length input) at inside) (first_found (whole_line values count value input at) whole_found inside)
