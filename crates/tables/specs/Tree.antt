-- The tree of actions: what parents' bytes say by themselves, and parents with states. Of a table only the number of its actions, n, comes in.
use Rattle.std.specs.Prelude.{Bool, false, not, true, ◌||◌, List, ◌≡◌, ℕ, zero, suc, eqb, leb, get_or, if◌then◌else◌}
use Rattle.std.proofs.Math.Option.{Option, none}
use Rattle.rules.specs.Bench as rules
use Rattle.rules.specs.Bench.{Shape, State, free, running, committed, draining, meaningless}
use Rattle.rules.specs.Owners.{above, nearest}
use Rattle.rules.specs.Sound.{sound}
use Rattle.tables.specs.Table.{state_of, parent_of}

-- ---- parents

-- the parent of k
abbrev pub up_of : List ℕ → ℕ → Option ℕ
up_of parents k = parent_of (get_or parents k 0)

-- k is the asker or one of its ancestors
abbrev pub in_line : ℕ → List ℕ → ℕ → ℕ → Bool
in_line n parents a k = eqb k a || above n (up_of parents) k a

-- k is a or one of its descendants
abbrev pub descends : ℕ → List ℕ → ℕ → ℕ → Bool
descends n parents a k = eqb k a || above n (up_of parents) a k

-- The parent of k where its byte names one of the n numbers; any other byte names none.
abbrev pub known_up : ℕ → List ℕ → ℕ → Option ℕ
known_up n parents k = if leb (get_or parents k 0) n then up_of parents k else none

-- k is a, or is met going up from it by such parents, within n steps
abbrev pub met_from : ℕ → List ℕ → ℕ → ℕ → Bool
met_from n parents a k = eqb k a || above n (known_up n parents) k a

-- ---- parents and states

-- A state's byte as the tree has it. A number that drains has left the tree, and a byte that means nothing never came into it: both read as free.
abbrev pub tree_state_of : ℕ → State
tree_state_of zero = free
tree_state_of (suc zero) = running
tree_state_of (suc (suc zero)) = committed
tree_state_of (suc (suc (suc h))) = free

-- the same of a state of the rules
abbrev pub rooted : State → State
rooted free = free
rooted running = running
rooted committed = committed
rooted (draining h) = free
rooted (meaningless n) = free

-- parents and states, read as a bench without any set
abbrev pub tree : List ℕ → List ℕ → rules.Bench
tree parents states = record { state = λ k. tree_state_of (get_or states k 0); parent = up_of parents; stands = λ m i k. false }

-- the states of a table of n actions, read as a bench without any parent or set
abbrev pub bare : ℕ → List ℕ → rules.Bench
bare n states = record { state = λ k. state_of n (get_or states k 0); parent = λ k. none; stands = λ m i k. false }

-- the measures of a table of n actions that has no instruments and no modes
abbrev pub tree_shape : ℕ → Shape
tree_shape n = record { actions = n; instruments = 0; modes = 0; conflict = λ asked held. false }

-- These parents and states are those of a sound table of n actions.
abbrev pub SoundTree : ℕ → List ℕ → List ℕ → Type 0
SoundTree n parents states = sound (tree_shape n) (tree parents states) ≡ true

-- These parents are those of a sound table of n actions.
abbrev pub SoundParents : ℕ → List ℕ → Type 0
SoundParents n parents = (states : List ℕ) × SoundTree n parents states

-- the nearest running one among k and what is met going up from it by parents that name one of the n numbers, within n numbers
abbrev pub nearest_from : ℕ → List ℕ → List ℕ → ℕ → Option ℕ
nearest_from n parents states k = nearest n (λ j. tree_state_of (get_or states j 0)) (known_up n parents) k

-- k isn't free
abbrev pub in_use : List ℕ → ℕ → Bool
in_use states k = not (eqb (get_or states k 0) 0)
