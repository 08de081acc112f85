-- A bench as Moss's rules see it: what each number is, its parent, and who stands in which set. Lists and machine words come in only where a
-- record is read as one of these (crates `tables` and `views`).
use Rattle.std.specs.Prelude.{Bool, true, false, ℕ}
use Rattle.std.proofs.Math.Option.{Option, none, some}

-- The table's measures: numbers 0 to actions − 1, instruments 0 to instruments − 1, modes 0 to modes − 1, and which modes conflict.
pub record Shape : Type 0 where
  pub actions : ℕ
  pub instruments : ℕ
  pub modes : ℕ
  pub conflict : ℕ → ℕ → Bool

-- A number is free, running, committed, or draining under a number, its head: the action with which it was aborted. What a record holds for it may
-- also mean nothing: such a record is unsound.
pub data State : Type 0 where
  free running committed : State
  draining : (head : ℕ) → State
  meaningless : ℕ → State

abbrev pub is_free : State → Bool
is_free free = true
is_free running = false
is_free committed = false
is_free (draining h) = false
is_free (meaningless n) = false

abbrev pub is_running : State → Bool
is_running free = false
is_running running = true
is_running committed = false
is_running (draining h) = false
is_running (meaningless n) = false

abbrev pub is_committed : State → Bool
is_committed free = false
is_committed running = false
is_committed committed = true
is_committed (draining h) = false
is_committed (meaningless n) = false

-- the head that a number drains under
abbrev pub head_of : State → Option ℕ
head_of free = none
head_of running = none
head_of committed = none
head_of (draining h) = some h
head_of (meaningless n) = none

-- A number that drains has left the tree, and a free one isn't in it.
abbrev pub in_tree : State → Bool
in_tree free = false
in_tree running = true
in_tree committed = true
in_tree (draining h) = false
in_tree (meaningless n) = true

-- The state and the parent of each number, and whether number k stands in the set of mode m at instrument i: `stands m i k`.
pub record Bench : Type 0 where
  pub state : ℕ → State
  pub parent : ℕ → Option ℕ
  pub stands : ℕ → ℕ → ℕ → Bool

-- An empty bench: all numbers free and all sets empty.
abbrev pub empty : Bench
empty = record { state = λ k. free; parent = λ k. none; stands = λ m i k. false }
