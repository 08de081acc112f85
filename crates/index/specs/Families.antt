-- Families, by the sets of children that stand in an index, whatever those are.
use Rattle.std.specs.Prelude.{Bool, true, false, List, ◌≡◌, ℕ, ◌%◌, ◌<◌, ◌^◌, get_or}
use Rattle.sets.specs.Sets.{member}
use Rattle.views.specs.Arrays.{frees_by}

-- A test is handed down from a: it holds of a, and where it holds of one of the 64 numbers it holds of those that stand in the set at its place.
pub record HandedDown (index : List ℕ) (a : ℕ) (test : ℕ → Bool) : Type 0 where
  pub has : test a ≡ true
  pub passes : (p k : ℕ) → p < 64 → k < 64 → test p ≡ true → member (get_or index p 0) k ≡ true → test k ≡ true

-- The family of a by the index: the least set that is handed down from a.
pub record FamilyBy (index : List ℕ) (a family : ℕ) : Type 0 where
  pub fits : family < 2 ^ 64
  pub closed : HandedDown index a (member family)
  pub least : (test : ℕ → Bool) → HandedDown index a test → (k : ℕ) → member family k ≡ true → test k ≡ true

-- What a commit or an abort of x frees by its code: the family where it frees one, and nobody where it frees none.
pub record FreedBy (code x : ℕ) (parents index : List ℕ) (gone : ℕ) : Type 0 where
  pub family : frees_by code (get_or parents (x % 64) 0) ≡ true → FamilyBy index (x % 64) gone
  pub nobody : frees_by code (get_or parents (x % 64) 0) ≡ false → gone ≡ 0
