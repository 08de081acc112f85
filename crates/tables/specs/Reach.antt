-- Going up from a number, by parents' bytes of any value, until a number is met that is asked for: owners held in a line, and descendants.
use Rattle.std.specs.Prelude.{Bool, true, false, ◌&&◌, ◌||◌, List, ◌≡◌, ℕ, zero, suc, ◌+◌, ◌-◌, ◌<◌, eqb, get_or, if◌then◌else◌}
use Rattle.std.proofs.Math.Option.{Option, none}
use Rattle.sets.specs.Sets.{member, meet}
use Rattle.rules.specs.Tests.{any, from}
use Rattle.tables.specs.Tree.{known_up, met_from}
use Rattle.tables.specs.Owners.{of_members}

-- Going up from k by `up`, a number that is hit is met, k among them, within `reach` steps.
unfoldable pub reaches : ℕ → (ℕ → Bool) → (ℕ → Option ℕ) → ℕ → Bool
reaches zero hit up k = hit k
reaches (suc reach) hit up k = hit k || from (up k) false (λ p. reaches reach hit up p)

-- One is met within some number of steps.
abbrev pub Reaches : (ℕ → Bool) → (ℕ → Option ℕ) → ℕ → Type 0
Reaches hit up k = (reach : ℕ) × (reaches reach hit up k ≡ true)

-- ---- what is asked of the bytes

-- the number that k's holdings wait for: its parent, and nobody where k runs
abbrev pub waits_for : ℕ → List ℕ → List ℕ → ℕ → Option ℕ
waits_for n parents states k = if eqb (get_or states k 0) 1 then none else known_up n parents k

-- going up from k, one of the line is met before any other number that runs, within n numbers
abbrev pub held_by : ℕ → List ℕ → List ℕ → (ℕ → Bool) → ℕ → Bool
held_by n parents states in_line k = reaches (n - 1) in_line (waits_for n parents states) k

-- each owner is held so
abbrev pub all_held : ℕ → List ℕ → List ℕ → (ℕ → Bool) → ℕ → Bool
all_held n parents states in_line owners = of_members n owners (held_by n parents states in_line)

-- what k stands in is h's: k runs and is h, or k drains under h
abbrev pub holds_for : List ℕ → ℕ → ℕ → Bool
holds_for states h k = (eqb (get_or states k 0) 1 && eqb k h) || eqb (get_or states k 0) (3 + h)

-- h owns a set: going up from one of its numbers, not past one that runs, one is met that holds for h
abbrev pub owns_set : ℕ → List ℕ → List ℕ → ℕ → ℕ → Bool
owns_set n parents states set h = any n (λ k. member set k && reaches (n - 1) (holds_for states h) (waits_for n parents states) k)

-- going up from k by parents that are known, a is met, k among them, within n steps
abbrev pub descends_known : ℕ → List ℕ → ℕ → ℕ → Bool
descends_known n parents a k = reaches n (λ j. eqb j a) (known_up n parents) k

-- ---- numbers sorted by what they lead to

-- The numbers of `inside` lead to one that is hit, and those that are hit are among them; the numbers of `outside` lead to none.
pub record Sorted (hit : ℕ → Bool) (up : ℕ → Option ℕ) (inside outside : ℕ) : Type 0 where
  pub has : (j : ℕ) → hit j ≡ true → member inside j ≡ true
  pub leads : (j : ℕ) → member inside j ≡ true → Reaches hit up j
  pub lost : (j : ℕ) → member outside j ≡ true → Reaches hit up j → ⊥

-- The numbers met going up from k until one is sorted, joined to `outside`: all that have joined lead to one that is hit where one of them is
-- inside, and none of them does where none is.
pub record Met (hit : ℕ → Bool) (up : ℕ → Option ℕ) (inside outside k met : ℕ) : Type 0 where
  pub begun : member met k ≡ true
  pub keeps : (j : ℕ) → member outside j ≡ true → member met j ≡ true
  pub leads : meet met inside ≡ true → (j : ℕ) → member met j ≡ true → member outside j ≡ false → Reaches hit up j
  pub lost : meet met inside ≡ false → (j : ℕ) → member met j ≡ true → Reaches hit up j → ⊥

-- A set with a, of numbers that lead to a by parents that are known: it has all those below k.
pub record GatheredTo (n : ℕ) (parents : List ℕ) (a set k : ℕ) : Type 0 where
  pub has : member set a ≡ true
  pub only : (j : ℕ) → member set j ≡ true → Reaches (λ i. eqb i a) (known_up n parents) j
  pub whole : (j : ℕ) → j < k → Reaches (λ i. eqb i a) (known_up n parents) j → member set j ≡ true

-- At each place below `up_to`, its number and the numbers met going up from it.
abbrev pub LinesMet : ℕ → List ℕ → List ℕ → ℕ → Type 0
LinesMet n parents lines up_to = (a : ℕ) → a < up_to → (k : ℕ) → member (get_or lines a 0) k ≡ met_from n parents a k
