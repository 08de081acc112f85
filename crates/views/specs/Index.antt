-- What a player keeps beside the arrays, and what an answer has to know of its action, on 64 actions.
use Rattle.std.specs.Prelude.{Bool, List, ℕ}
use Rattle.rules.specs.Bench as rules
use Rattle.tables.specs.Index as tables

-- At the place of each number that isn't free, the set of its children.
abbrev pub ChildSets : rules.Bench → List ℕ → Type 0
ChildSets = tables.ChildSets 64

-- The sets of children, the sets of ancestors and the set of the running numbers are those of the bench.
abbrev pub Indexed : rules.Bench → List ℕ → List ℕ → ℕ → Type 0
Indexed = tables.Indexed 64

-- ---- what an answer has to know of a number that runs

-- whether it has a running child
abbrev pub KnowsChild : List ℕ → List ℕ → ℕ → Bool → Type 0
KnowsChild = tables.KnowsChild 64

-- itself and its ancestors; an empty set says that they are not known
abbrev pub KnowsLine : List ℕ → List ℕ → ℕ → ℕ → Type 0
KnowsLine = tables.KnowsLine 64

-- itself and its descendants
abbrev pub KnowsFamily : List ℕ → List ℕ → ℕ → ℕ → Type 0
KnowsFamily = tables.KnowsFamily 64
