-- A request as a code and two numbers, as trace lines and callers have it.
use Rattle.std.proofs.Math.Option.{Option, none, some}
use Rattle.std.specs.Prelude.{ℕ, eqb, if◌then◌else◌}
use Rattle.rules.specs.Requests.{Request, open_top, open_sub, commit, abort, quiet}
use Rattle.rules.specs.ReadWrite.{read, write}

-- the request of a frame's code and two numbers, a spare one ignored
abbrev pub framed : ℕ → ℕ → ℕ → Option Request
framed code x y =
    if eqb code 1 then some (open_top x)
    else if eqb code 2 then some (open_sub x y)
    else if eqb code 3 then some (read x y)
    else if eqb code 4 then some (write x y)
    else if eqb code 5 then some (commit x)
    else if eqb code 6 then some (abort x)
    else if eqb code 7 then some (quiet x y)
    else none
