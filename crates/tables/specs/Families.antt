-- Families, gathered by passes over the parents: sets of the numbers below n as words of n bits.
use Rattle.std.specs.Prelude.{Bool, true, false, not, List, ◌≡◌, ℕ, zero, suc, ◌+◌, ◌-◌, ◌≤◌, ◌<◌, eqb, get_or, if◌then◌else◌}
use Rattle.sets.specs.Sets.{member, with}
use Rattle.rules.specs.Tests.{any}
use Rattle.tables.specs.Tree.{descends}

-- No number from `first` on has a parent.
abbrev pub NoParentsFrom : ℕ → List ℕ → ℕ → Type 0
NoParentsFrom n parents first = (k : ℕ) → first ≤ k → k < n → get_or parents k 0 ≡ 0

-- One of the numbers from `first` on has a parent.
abbrev pub upper_child : ℕ → ℕ → List ℕ → Bool
upper_child n first parents = any (n - first) (λ k. not (eqb (get_or parents (first + k) 0) 0))

-- the number that a parent's byte names is in the set
abbrev pub parent_in : ℕ → ℕ → Bool
parent_in set zero = false
parent_in set (suc p) = member set p

-- the set, with k where k's parent is in it
abbrev pub adopted : ℕ → ℕ → ℕ → ℕ → ℕ
adopted n set k up = if parent_in set up then with n set k else set

-- A set grown by the children among the numbers below k: it keeps what it had, takes in only descendants of what it had descendants of, has changed unless
-- it holds those children of all its numbers, and holds them where every parent has a lower number than its child.
pub record GrownTo (n : ℕ) (parents : List ℕ) (set grown k : ℕ) : Type 0 where
  pub larger : set ≤ grown
  pub keeps : (j : ℕ) → member set j ≡ true → member grown j ≡ true
  pub descend : (a : ℕ) → ((j : ℕ) → member set j ≡ true → descends n parents a j ≡ true) → (j : ℕ) → member grown j ≡ true → descends n parents a j ≡ true
  pub closed : grown ≡ set → (j : ℕ) → j < k → parent_in set (get_or parents j 0) ≡ true → member set j ≡ true
  pub low_closed : ((j : ℕ) → j < n → get_or parents j 0 ≤ j) → (j : ℕ) → j < k → parent_in grown (get_or parents j 0) ≡ true → member grown j ≡ true

-- A set grown by children.
abbrev pub Grown : ℕ → List ℕ → ℕ → ℕ → Type 0
Grown n parents set grown = GrownTo n parents set grown n
