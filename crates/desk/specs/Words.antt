-- A list of request records as flat words, as a C caller lends it: four words a record, which are its kind, its two numbers and the place for its answer. Up to
-- three words behind the last whole record are no record.
use Rattle.std.specs.Prelude.{List, [], ◌∷◌, ℕ}
use Rattle.rules.specs.Lists.{Entry}

-- the records
unfoldable pub entries_in : List ℕ → List Entry
entries_in (kind ∷ x ∷ y ∷ answer ∷ rest) = record { kind = kind; x = x; y = y; answer = answer } ∷ entries_in rest
entries_in [] = []
entries_in (a ∷ []) = []
entries_in (a ∷ b ∷ []) = []
entries_in (a ∷ b ∷ c ∷ []) = []

-- the words behind them
unfoldable pub spare_in : List ℕ → List ℕ
spare_in (kind ∷ x ∷ y ∷ answer ∷ rest) = spare_in rest
spare_in [] = []
spare_in (a ∷ []) = a ∷ []
spare_in (a ∷ b ∷ []) = a ∷ b ∷ []
spare_in (a ∷ b ∷ c ∷ []) = a ∷ b ∷ c ∷ []
