-- Arrays after a loop over them, and a table after the stores of a request.
use Rattle.std.specs.Prelude.{Bool, List, ◌≡◌, ℕ, ◌+◌, ◌<◌, length, get_or, set, if◌then◌else◌}
use Rattle.tables.specs.Table.{Table}

-- number k's byte when some numbers have got another: theirs is that one
abbrev pub given : (ℕ → Bool) → ℕ → ℕ → ℕ → ℕ
given numbers value k byte = if numbers k then value else byte

-- what is left of number k's byte when numbers have gone
abbrev pub kept : (ℕ → Bool) → ℕ → ℕ → ℕ
kept gone = given gone 0

-- An array of numbers after each was replaced: as long as before, and at place k what `at k` makes of the number there.
pub record Changed (at : ℕ → ℕ → ℕ) (before after : List ℕ) : Type 0 where
  pub long : length after ≡ length before
  pub each : (k : ℕ) → k < length before → get_or after k 0 ≡ at k (get_or before k 0)

-- ---- tables

-- the table with another state's byte of number k
abbrev pub marked : Table → ℕ → ℕ → Table
marked t k byte = record { parents = t.parents; states = set t.states k byte; sets = t.sets }

-- the table with number k running under p
abbrev pub placed : Table → ℕ → ℕ → Table
placed t k p = record { parents = set t.parents k (p + 1); states = set t.states k 1; sets = t.sets }

-- the table with other parents and states
abbrev pub with_bytes : Table → List ℕ → List ℕ → Table
with_bytes t parents states = record { parents = parents; states = states; sets = t.sets }

-- the table with other sets
abbrev pub with_sets : Table → (ℕ → List ℕ) → Table
with_sets t sets = record { parents = t.parents; states = t.states; sets = sets }
