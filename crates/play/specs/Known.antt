-- What the player knows of the table that it works on, and what it does to it when a line ends.
use Rattle.std.specs.Prelude as marks
use Rattle.std.specs.Prelude.{Bool, true, List, [], ◌≡◌, ℕ, length}
use Rattle.std.specs.Option.{unwrap_or}
use Rattle.std.proofs.Math.Option.{Option}
use Rattle.rules.specs.Requests.{Request}
use Rattle.views.specs.Arrays.{KnownArrays, LineEnded}
use Rattle.lines.specs.Feeding.{Feeding, feeding_of}
use Rattle.steps.specs.Arrays.{read_sets, write_sets}
use Rattle.index.specs.Tables.{Table, table, IndexIn}

-- These are the words of the read sets and the write sets.
pub record OwnersOf (reads writes owners : List ℕ) : Type 0 where
  pub long : length owners ≡ 256
  pub of_reads : read_sets owners ≡ reads
  pub of_writes : write_sets owners ≡ writes

-- a table with the index that is kept beside it, if there is one
abbrev pub table_with : List ℕ → List ℕ → List ℕ → marks.Option (List ℕ) → Table
table_with parents states owners index = table parents states owners (unwrap_or index [])

-- what the table and a line that has begun stand for
abbrev pub feeding_in : Table → ℕ → ℕ → Feeding
feeding_in t = feeding_of t.parents t.states (read_sets t.owners) (write_sets t.owners)

-- Arrays of a record's lengths, whether they are those of a sound bench, and where they are their index.
pub record KnownTable (is_sound : Bool) (t : Table) : Type 0 where
  pub table : KnownArrays is_sound t.parents t.states (read_sets t.owners) (write_sets t.owners)
  pub owners_long : length t.owners ≡ 256
  pub indexed : is_sound ≡ true → IndexIn t

-- A line has ended: the answer and the arrays after it are those of its request, or 8 and no change where it has none; whether the table is sound is known as it was.
pub record LineDone (is_sound : Bool) (r : Option Request) (before : Table) (answer : ℕ) (after : Table) : Type 0 where
  pub ended : LineEnded is_sound r before.parents before.states (read_sets before.owners) (write_sets before.owners) answer
      after.parents after.states (read_sets after.owners) (write_sets after.owners)
  pub owners_long : length after.owners ≡ 256
  pub indexed : is_sound ≡ true → IndexIn after
