-- Whom an answer names, over the arrays and the frame alone, and what its parts compute.
use Rattle.std.specs.Prelude.{Bool, not, ◌&&◌, ◌||◌, List, ℕ, ◌+◌, ◌%◌, eqb, leb, ltb, get_or, if◌then◌else◌}
use Rattle.std.proofs.Math.Option.{Option}
use Rattle.rules.specs.Tests.{from}
use Rattle.rules.specs.Reasons.{smallest}
use Rattle.views.specs.Tree.{met_from}
use Rattle.views.specs.Reach.{owns_set}
use Rattle.naming.specs.declared.Somebody.{Somebody}
use Rattle.naming.specs.declared.Reason.{Reason}
use Rattle.naming.specs.Told.{number_alone, nobody_for, somebody_for, named_for}

-- who owns in these modes owns in one that conflicts with the frame's: writing, code 4, conflicts with both, reading with a write alone
abbrev pub against_frame : ℕ → Bool → Bool → Bool
against_frame code reads writes = if eqb code 4 then reads || writes else writes

-- h blocks a: it owns in a conflicting mode and isn't met going up from a
abbrev pub blocks_in : List ℕ → List ℕ → ℕ → ℕ → ℕ → ℕ → ℕ → Bool
blocks_in parents states readers writers code a h =
    against_frame code (owns_set parents states readers h) (owns_set parents states writers h) && not (met_from parents a h)

-- h is one of the 64 numbers and drains under itself
abbrev pub drains_in : List ℕ → ℕ → Bool
drains_in states h = ltb h 64 && eqb (get_or states h 0) (3 + h)

-- h with the sets that it owns in and whether it drains
abbrev pub blocked_by : List ℕ → List ℕ → ℕ → ℕ → ℕ → Somebody
blocked_by parents states readers writers h =
    record {
      number = h;
      reads = owns_set parents states readers h;
      writes = owns_set parents states writers h;
      drains = drains_in states h;
    }

-- the smallest that blocks a, so told; 0 that owns nothing where nobody blocks
abbrev pub blocked_in : List ℕ → List ℕ → ℕ → ℕ → ℕ → ℕ → Somebody
blocked_in parents states readers writers code a =
    from (smallest 64 (blocks_in parents states readers writers code a)) (number_alone 0) (blocked_by parents states readers writers)

-- the smallest running number with a parent's byte
abbrev pub child_with : List ℕ → List ℕ → ℕ → Option ℕ
child_with parents states parent = smallest 64 (λ k. eqb (get_or states k 0) 1 && eqb (get_or parents k 0) parent)

-- the offending number of a frame, for an answer from 1 to 4, or 10: an instrument for 2, which only reads, writes and quiets have
abbrev pub offending_in : ℕ → ℕ → ℕ → ℕ → ℕ
offending_in code x y answer =
    if eqb code 2 then (if eqb answer 1 then (if leb 64 x then x else y) else if eqb answer 4 then y else x)
    else if eqb answer 2 && (eqb code 3 || eqb code 4 || eqb code 7) then y
    else x

-- Whom an answer to a frame names: 6 who blocks, 5 the smallest running child, 1 to 4 and 10 the offending number, any other nobody.
abbrev pub named_in : List ℕ → List ℕ → ℕ → ℕ → ℕ → ℕ → ℕ → ℕ → Reason
named_in parents states readers writers code x y answer =
    if eqb answer 0 then nobody_for answer
    else if ltb 6 answer && not (eqb answer 10) then nobody_for answer
    else if eqb answer 6 then somebody_for answer (blocked_in parents states readers writers code (x % 64))
    else if eqb answer 5 then named_for answer (from (child_with parents states (x % 64 + 1)) 0 (λ k. k))
    else named_for answer (offending_in code x y answer)
