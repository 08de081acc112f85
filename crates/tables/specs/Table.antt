-- A table of any size: what its arrays hold, how they are laid out, and the bench of Moss's rules that they are read as.
use Rattle.std.specs.Prelude.{Bool, List, ℕ, zero, suc, ltb, get_or, if◌then◌else◌}
use Rattle.std.proofs.Math.Option.{Option, none, some}
use Rattle.rules.specs.Bench.{Shape, State, free, running, committed, draining, meaningless}
use Rattle.rules.specs.Bench as rules

-- How a table is laid out: its measures, how many words the sets of one mode take, and whether number k is in the set of instrument i, read from the
-- words of a mode: `holds words i k`.
pub record Layout : Type 0 where
  pub shape : Shape
  pub words : ℕ
  pub holds : List ℕ → ℕ → ℕ → Bool

-- What the arrays say: of each number the parent's byte and the state's byte, and of each mode the words of its sets.
pub record Table : Type 0 where
  pub parents : List ℕ
  pub states : List ℕ
  pub sets : ℕ → List ℕ

-- A state's byte in a table of n actions: 0 free, 1 running, 2 committed, 3 + h draining under h, its head; any other means nothing.
abbrev pub state_of : ℕ → ℕ → State
state_of n zero = free
state_of n (suc zero) = running
state_of n (suc (suc zero)) = committed
state_of n (suc (suc (suc h))) = if ltb h n then draining h else meaningless h

-- A parent's byte: 0 for none, and else one more than the parent's number.
abbrev pub parent_of : ℕ → Option ℕ
parent_of zero = none
parent_of (suc p) = some p

-- A table, read as a bench.
abbrev pub view : Layout → Table → rules.Bench
view layout t =
    record {
      state = λ k. state_of layout.shape.actions (get_or t.states k 0);
      parent = λ k. parent_of (get_or t.parents k 0);
      stands = λ m i k. layout.holds (t.sets m) i k;
    }
