-- What the first argument of a measuring program asks for.
use Rattle.std.specs.Prelude.{true, List, [], ◌∷◌, ℕ, not, eqb, if◌then◌else◌}
use Rattle.trials.specs.declared.measures.Measure.{Measure}
use Rattle.trials.specs.declared.measures.Kind.{Kind}
use Rattle.trials.specs.declared.measures.Kind.TheVariants.{OpenTop, OpenSub, Read, Write, Commit, Abort, AbortOfSub, AbortOfTop, WriteInChain, Quiet, LastQuiet, Opening, Other}

-- The kind that a character says: 1 to 9, a, b, o, and any other.
abbrev pub kind_of : ℕ → Kind
kind_of mark =
    if eqb mark 49 then OpenTop
    else if eqb mark 50 then OpenSub
    else if eqb mark 51 then Read
    else if eqb mark 52 then Write
    else if eqb mark 53 then Commit
    else if eqb mark 54 then Abort
    else if eqb mark 55 then AbortOfSub
    else if eqb mark 56 then AbortOfTop
    else if eqb mark 57 then WriteInChain
    else if eqb mark 97 then Quiet
    else if eqb mark 98 then LastQuiet
    else if eqb mark 111 then Opening
    else Other

-- What an argument asks for; a minus sign as its second character asks for no request.
abbrev pub asked_for : List ℕ → Measure
asked_for [] = record { kind = Other; made = true }
asked_for (mark ∷ []) = record { kind = kind_of mark; made = true }
asked_for (mark ∷ (sign ∷ _)) = record { kind = kind_of mark; made = not (eqb sign 45) }
