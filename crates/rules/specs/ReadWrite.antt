-- Read and write on 64 actions and 128 instruments: the instance that document 01 builds.
use Rattle.std.specs.Prelude.{Bool, not, ◌&&◌, ℕ, eqb, if◌then◌else◌}
use Rattle.rules.specs.Bench.{Shape}
use Rattle.rules.specs.Requests.{Request, ask}

-- the mode of the read set, and that of the write set
abbrev pub reading : ℕ
reading = 0

abbrev pub writing : ℕ
writing = 1

-- the mode that is asked for, by whether it is a write
abbrev pub mode_of : Bool → ℕ
mode_of is_write = if is_write then writing else reading

-- Read conflicts with write, and write with both.
abbrev pub read_write : Shape
read_write =
    record { actions = 64; instruments = 128; modes = 2; conflict = λ asked held. not (eqb asked reading && eqb held reading) }

abbrev pub read : ℕ → ℕ → Request
read a i = ask reading a i

abbrev pub write : ℕ → ℕ → Request
write a i = ask writing a i
