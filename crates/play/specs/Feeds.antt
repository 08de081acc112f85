-- What `Player::feed` and `Player::explain` return, call after call: each reply is one that the contract allows.
use Rattle.std.specs.Prelude.{List, [], ◌++◌, ℕ, take}
use Rattle.std.proofs.Math.Option.{Option}
use Rattle.rules.specs.Bench as rules
use Rattle.rules.specs.Requests.{Request}
use Rattle.lines.specs.Lines.{answer_line}
use Rattle.naming.specs.Text.{longest, reason_line}
use Rattle.play.specs.declared.Player.{Player}
use Rattle.play.specs.declared.Fed.{Fed}
use Rattle.play.specs.Feeding.{FedAsBy}

-- `FeedsBy say width p xs ys q`: with any chunks and any buffers, the player p took the bytes xs in all, wrote ys in all, and became q.
pub data FeedsBy (say : rules.Bench → Option Request → List ℕ) (width : ℕ) : Player → List ℕ → List ℕ → Player → Type 0 where
  stopped : {p : Player} → FeedsBy say width p [] [] p
  then : {p q : Player} {xs ys : List ℕ} (input out after : List ℕ) (r : Fed) → FedAsBy say width p input out r after → FeedsBy say width r.player xs ys q → FeedsBy say width p (take r.used input ++ xs) (take r.written after ++ ys) q

-- with answers, and with reasons
abbrev pub Feeds : Player → List ℕ → List ℕ → Player → Type 0
Feeds = FeedsBy answer_line 3

abbrev pub Explains : Player → List ℕ → List ℕ → Player → Type 0
Explains = FeedsBy reason_line longest
