-- The arrays of a bench as the steps are lent them: the bytes of parents and states, and the words of the owners, first the read sets of the 128 instruments and
-- then the write sets. Any lists will do; those of a sound bench have their lengths.
use Rattle.std.specs.Prelude.{Bool, true, false, List, ◌≡◌, ℕ, ◌+◌, ◌%◌, length, take, drop, get_or, if◌then◌else◌}
use Rattle.std.proofs.Math.Option.{Option}
use Rattle.sets.specs.Sets.{union, meet}
use Rattle.rules.specs.Bench as rules
use Rattle.rules.specs.Requests.{Request}
use Rattle.views.specs.View.{view}
use Rattle.views.specs.Owners.{conflicting}
use Rattle.views.specs.Arrays.{SoundArrays, Stepped}

pub record Arrays : Type 0 where
  pub parents : List ℕ
  pub states : List ℕ
  pub owners : List ℕ

-- three lists as they are lent
abbrev pub lent : List ℕ → List ℕ → List ℕ → Arrays
lent parents states owners = record { parents = parents; states = states; owners = owners }

-- the read sets among the owners' words, and the write sets
abbrev pub read_sets : List ℕ → List ℕ
read_sets owners = take 128 owners

abbrev pub write_sets : List ℕ → List ℕ
write_sets owners = take 128 (drop 128 owners)

-- where the read set of instrument i stands among the owners' words, and its write set
abbrev pub place_of : Bool → ℕ → ℕ
place_of is_write i = if is_write then 128 + i % 128 else i % 128

-- the numbers in the sets of the modes that conflict with a read or a write of instrument i, where the owners' words are given
abbrev pub conflicting_at : Bool → List ℕ → ℕ → ℕ
conflicting_at is_write owners i = conflicting is_write (get_or owners (place_of false i) 0) (get_or owners (place_of true i) 0)

-- one of the numbers stands in a set of instrument i
abbrev pub stand_at : List ℕ → ℕ → ℕ → Bool
stand_at owners numbers i = meet (union (get_or owners (place_of false i) 0) (get_or owners (place_of true i) 0)) numbers

-- The arrays, read as a bench.
abbrev pub view_of : Arrays → rules.Bench
view_of b = view b.parents b.states (read_sets b.owners) (write_sets b.owners)

-- They are those of a sound bench.
pub record SoundLists (b : Arrays) : Type 0 where
  pub table : SoundArrays b.parents b.states (read_sets b.owners) (write_sets b.owners)
  pub owners_long : length b.owners ≡ 256

-- One step of the rules, from the arrays of a sound bench to those of a sound bench: the answer and the arrays after it are those of the request, or 8 and no
-- change where there is none.
pub record SteppedTo (r : Option Request) (before : Arrays) (answer : ℕ) (after : Arrays) : Type 0 where
  pub stepped : Stepped r before.parents before.states (read_sets before.owners) (write_sets before.owners) answer
      after.parents after.states (read_sets after.owners) (write_sets after.owners)
  pub owners_long : length after.owners ≡ 256
