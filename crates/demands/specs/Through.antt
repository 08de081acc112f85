-- A whole input, lent to `Player::feed` or `Player::explain` until nothing of it is left.
use Rattle.std.specs.Prelude.{List, [], ◌++◌, ℕ, zero, suc, ◌≤◌, length, take, drop}
use Rattle.std.proofs.Math.Option.{Option}
use Rattle.rules.specs.Bench as rules
use Rattle.rules.specs.Requests.{Request}
use Rattle.play.specs.declared.Player.{Player}
use Rattle.play.specs.declared.Fed.{Fed}
use Rattle.play.specs.Feeding.{FedAsBy}

-- `ThroughBy say width p input calls ys q`: the input was lent, and what a call didn't take lent again, each time with room for one line's text, until nothing
-- was left. That took so many calls; the player p wrote ys in all, and became q.
pub data ThroughBy (say : rules.Bench → Option Request → List ℕ) (width : ℕ) : Player → List ℕ → ℕ → List ℕ → Player → Type 0 where
  done : {p : Player} → ThroughBy say width p [] zero [] p
  again : {p q : Player} {calls : ℕ} {ys : List ℕ} (input out after : List ℕ) (r : Fed) → width ≤ length out → FedAsBy say width p input out r after → ThroughBy say width r.player (drop r.used input) calls ys q → ThroughBy say width p input (suc calls) (take r.written after ++ ys) q
