-- What a player keeps beside the arrays, so that no line of a trace looks through them; and what an answer has to know of its action, from wherever it is known.
-- The sets are words of n bits, n being the number of actions.
use Rattle.std.specs.Prelude.{Bool, false, ◌||◌, List, ◌≡◌, ℕ, ◌<◌, eqb, length, get_or}
use Rattle.sets.specs.Sets.{member}
use Rattle.rules.specs.Tests.{from}
use Rattle.rules.specs.Bench as rules
use Rattle.rules.specs.Bench.{is_free, is_running}
use Rattle.rules.specs.Owners.{is_child, has_running_child}
use Rattle.tables.specs.Tree.{tree, tree_shape, in_line, descends}

-- At the place of each number that isn't free, the set of its children. What stands at the place of a free number says nothing.
pub record ChildSets (n : ℕ) (b : rules.Bench) (children : List ℕ) : Type 0 where
  pub long : length children ≡ n
  pub each : (p k : ℕ) → p < n → k < n → is_free (b.state p) ≡ false → member (get_or children p 0) k ≡ is_child b p k

-- At the place of each number that isn't free, itself and its ancestors: itself, and what stands at the place of its parent.
pub record LineSets (n : ℕ) (b : rules.Bench) (lines : List ℕ) : Type 0 where
  pub long : length lines ≡ n
  pub each : (k x : ℕ) → k < n → is_free (b.state k) ≡ false → member (get_or lines k 0) x ≡ (eqb x k || from (b.parent k) false (λ p. member (get_or lines p 0) x))

-- The set of the running numbers.
abbrev pub RunningSet : ℕ → rules.Bench → ℕ → Type 0
RunningSet n b running = (k : ℕ) → k < n → member running k ≡ is_running (b.state k)

-- The three of them: those of the bench.
pub record Indexed (n : ℕ) (b : rules.Bench) (children lines : List ℕ) (running : ℕ) : Type 0 where
  pub of_children : ChildSets n b children
  pub of_lines : LineSets n b lines
  pub of_running : RunningSet n b running

-- ---- what an answer has to know of a number that runs

-- whether it has a running child
abbrev pub KnowsChild : ℕ → List ℕ → List ℕ → ℕ → Bool → Type 0
KnowsChild n parents states a busy = a < n → get_or states a 0 ≡ 1 → busy ≡ has_running_child (tree_shape n) (tree parents states) a

-- itself and its ancestors; an empty set says that they are not known
abbrev pub KnowsLine : ℕ → List ℕ → List ℕ → ℕ → ℕ → Type 0
KnowsLine n parents states a line = (line ≡ 0 → ⊥) → a < n → get_or states a 0 ≡ 1 → (k : ℕ) → member line k ≡ in_line n parents a k

-- itself and its descendants
abbrev pub KnowsFamily : ℕ → List ℕ → List ℕ → ℕ → ℕ → Type 0
KnowsFamily n parents states a gone = a < n → get_or states a 0 ≡ 1 → (k : ℕ) → member gone k ≡ descends n parents a k
