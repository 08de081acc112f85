-- Sets of the 64 numbers as words: who stands in them.
use Rattle.std.specs.Prelude.{Bool, ◌||◌, List, ◌≡◌, ℕ, get_or, if◌then◌else◌}
use Rattle.sets.specs.Sets.{member, union}
use Rattle.rules.specs.Tests.{any}
use Rattle.tables.specs.Owners as tables

-- the heir of each owner is the asker or an ancestor of it
abbrev pub owners_in_line : List ℕ → List ℕ → ℕ → ℕ → Bool
owners_in_line parents states owners a = tables.owners_in_line 64 parents states (member owners) a

-- k stands in a set of instrument i
abbrev pub stands_at : List ℕ → List ℕ → ℕ → ℕ → Bool
stands_at reads writes k i = member (get_or reads i 0) k || member (get_or writes i 0) k

-- `numbers` are those that stand in a set.
abbrev pub Standing : List ℕ → List ℕ → ℕ → Type 0
Standing reads writes numbers = (k : ℕ) → member numbers k ≡ any 128 (stands_at reads writes k)

-- the numbers in the sets of the modes that conflict with a read or a write, where those of the two modes are given
abbrev pub conflicting : Bool → ℕ → ℕ → ℕ
conflicting is_write readers writers = if is_write then union readers writers else writers

-- those at instrument i
abbrev pub conflicting_at : List ℕ → List ℕ → Bool → ℕ → ℕ
conflicting_at reads writes is_write i = conflicting is_write (get_or reads i 0) (get_or writes i 0)
