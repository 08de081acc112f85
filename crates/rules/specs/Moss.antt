-- Moss's rules in document 01's own words: who owns a set of numbers, and whom all its owners leave a place beside them. What conflicts with what is
-- not looked up in a table here: the sets are named.
use Rattle.std.specs.Prelude.{Bool, true, ◌≡◌, ℕ, ◌<◌, eqb, if◌then◌else◌}
use Rattle.std.proofs.Math.Option.{some}
use Rattle.rules.specs.Bench.{Shape, Bench}
use Rattle.rules.specs.Owners.{heir, is_asker_or_ancestor}

-- h owns a set of numbers: it is the heir of one of them.
pub record Owner (sh : Shape) (b : Bench) (set : ℕ → Bool) (h : ℕ) : Type 0 where
  pub number : ℕ
  pub known : number < sh.actions
  pub stands : set number ≡ true
  pub heir_is : heir sh b number ≡ some h

-- Every owner of the set is a or an ancestor of a.
abbrev pub OwnersInLine : Shape → Bench → ℕ → (ℕ → Bool) → Type 0
OwnersInLine sh b a set = (h : ℕ) → Owner sh b set h → is_asker_or_ancestor sh b a h ≡ true

-- h is one of the owners of the set after a was replaced by p.
pub record OwnerWith (sh : Shape) (b : Bench) (set : ℕ → Bool) (a p h : ℕ) : Type 0 where
  pub before : ℕ
  pub owner : Owner sh b set before
  pub after : h ≡ (if eqb before a then p else before)
