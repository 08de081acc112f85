-- The records of a list in single calls, one after the other.
use Rattle.std.specs.Prelude.{List, [], ◌∷◌, ℕ}
use Rattle.bench.specs.declared.Bench.{Bench}
use Rattle.bench.specs.declared.Reply.{Reply}
use Rattle.lists.specs.declared.Request.{Request}
use Rattle.lists.specs.Listed.{ReturnsOne}

-- `Singly b list given c`: the requests of the list, each by a call of its own on the bench that the one before it handed back, from b on, were answered `given` and left c.
pub data Singly : Bench → List Request → List ℕ → Bench → Type 0 where
  none_left : {b : Bench} → Singly b [] [] b
  then : {b c : Bench} {q : Request} {list : List Request} {given : List ℕ} (r : Reply) → ReturnsOne b q r → Singly r.bench list given c → Singly b (q ∷ list) (r.answer ∷ given) c
