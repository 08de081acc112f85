-- Numbers that stand in sets: a set is a test here, whatever words it is read from.
use Rattle.std.specs.Prelude.{Bool, ◌&&◌, List, ◌≡◌, ℕ, ◌<◌}
use Rattle.sets.specs.Sets.{member}
use Rattle.rules.specs.Tests.{◌⇒◌, all, any}
use Rattle.rules.specs.Owners.{heir_in_line}
use Rattle.tables.specs.Table.{Layout, Table}
use Rattle.tables.specs.Tree.{tree, tree_shape}

-- The test holds of every member of a word, a set of numbers below w.
abbrev pub of_members : ℕ → ℕ → (ℕ → Bool) → Bool
of_members w s test = all w (λ k. member s k ⇒ test k)

-- the heir of each owner is the asker or an ancestor of it
unfoldable pub owners_in_line : ℕ → List ℕ → List ℕ → (ℕ → Bool) → ℕ → Bool
owners_in_line n parents states owned a = all n (λ k. owned k ⇒ heir_in_line (tree_shape n) (tree parents states) a k)

-- k stands in a set of instrument i
abbrev pub stands_at : Layout → Table → ℕ → ℕ → Bool
stands_at layout t k i = any layout.shape.modes (λ m. layout.holds (t.sets m) i k)

-- `standing` tells of the table's numbers who stands in a set.
abbrev pub TellsStanding : Layout → Table → (ℕ → Bool) → Type 0
TellsStanding layout t standing = (k : ℕ) → k < layout.shape.actions → standing k ≡ any layout.shape.instruments (stands_at layout t k)

-- k stands at instrument i in a set of a mode that conflicts with mode m
abbrev pub in_conflict : Layout → Table → ℕ → ℕ → ℕ → Bool
in_conflict layout t m i k = any layout.shape.modes (λ held. layout.shape.conflict m held && layout.holds (t.sets held) i k)

-- `owned` tells of the table's numbers who stands at instrument i in a set of a mode that conflicts with mode m.
abbrev pub TellsOwners : Layout → Table → ℕ → ℕ → (ℕ → Bool) → Type 0
TellsOwners layout t m i owned = (k : ℕ) → k < layout.shape.actions → owned k ≡ in_conflict layout t m i k
