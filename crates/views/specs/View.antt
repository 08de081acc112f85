-- Four arrays read as a bench of Moss's rules: the table of 64 actions and 128 instruments whose sets are words, the readers and the writers of each
-- instrument.
use Rattle.std.specs.Prelude.{List, [], ℕ, zero, suc}
use Rattle.rules.specs.Bench as rules
use Rattle.rules.specs.ReadWrite.{read_write}
use Rattle.tables.specs.Table as tables
use Rattle.tables.specs.Table.{Layout, Table}
use Rattle.tables.specs.OneWord.{one_word}
pub use Rattle.tables.specs.Table.{state_of, parent_of}

-- The sets of a mode: the read sets are mode 0's, the write sets mode 1's.
abbrev pub sets_of : ℕ → List ℕ → List ℕ → List ℕ
sets_of zero reads writes = reads
sets_of (suc zero) reads writes = writes
sets_of (suc (suc m)) reads writes = []

-- how the arrays are laid out
abbrev pub layout : Layout
layout = one_word read_write

-- Four arrays as a table.
abbrev pub arrays : List ℕ → List ℕ → List ℕ → List ℕ → Table
arrays parents states reads writes = record { parents = parents; states = states; sets = λ m. sets_of m reads writes }

-- Four arrays, read as a bench.
abbrev pub view : List ℕ → List ℕ → List ℕ → List ℕ → rules.Bench
view parents states reads writes = tables.view layout (arrays parents states reads writes)
