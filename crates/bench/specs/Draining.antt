-- The state's byte of numbers that were aborted, and the answer to quiet, by numbers that are handed over.
use Rattle.std.specs.Prelude.{List, ◌≡◌, ℕ, ◌%◌, get_or, if◌then◌else◌}
use Rattle.sets.specs.Sets.{union, meet}
use Rattle.rules.specs.Sound.{sound}
use Rattle.rules.specs.ReadWrite.{read_write}
use Rattle.views.specs.Owners.{Standing}
use Rattle.views.specs.View.{view}
use Rattle.rows.specs.Rows.{quiet_row}
use Rattle.steps.specs.Changes.{aborted_byte}

-- The byte of numbers that were aborted with a: they drain under a where one of them stands in a set, and else they are free. `standing` are the numbers that stand in
-- a set.
pub record DrainByte (reads writes : List ℕ) (numbers a byte : ℕ) : Type 0 where
  pub standing : ℕ
  pub tells : Standing reads writes standing
  pub is : byte ≡ aborted_byte (meet standing numbers) a

-- The answer to `quiet a, i` where the numbers that drain under a are said to be `group`: 7 where the record isn't sound, and else the row by whether one of them stands in
-- a set of instrument i.
abbrev pub quiet_found : List ℕ → List ℕ → List ℕ → List ℕ → ℕ → ℕ → ℕ → ℕ
quiet_found parents states reads writes group a i =
    if sound read_write (view parents states reads writes)
    then quiet_row states (meet (union (get_or reads (i % 128) 0) (get_or writes (i % 128) 0)) group) a i
    else 7
