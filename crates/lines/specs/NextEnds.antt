-- Bytes that end a line: the request that comes of it, and what feeding up to its end gives.
use Rattle.std.specs.Prelude.{◌&&◌, List, ◌≡◌, ℕ, ◌-◌, ◌≤◌, ◌<◌, ltb, length, take, drop, if◌then◌else◌}
use Rattle.std.proofs.Math.Option.{Option}
use Rattle.digits.specs.Digits.{digit_of}
use Rattle.rules.specs.Bench as rules
use Rattle.rules.specs.Requests.{Request}
use Rattle.rules.specs.Answers.{answered}
use Rattle.rules.specs.ReadWrite.{read_write}
use Rattle.lines.specs.Lines.{byte_of}
use Rattle.lines.specs.Feeding.{Feeding, between, fed, said_by, FedBytesBy}

-- what two characters write, and 256 where one of them is no digit
abbrev pub pair_of : ℕ → ℕ → ℕ
pair_of high low = if ltb (digit_of high) 16 && ltb (digit_of low) 16 then byte_of high low else 256

-- These bytes end the line that has begun, with `count` digits that write `value`, and its request is `r`: from every bench they lead where r leads, and what
-- is written for them is what is written for r.
pub record EndsAs (count value : ℕ) (bytes : List ℕ) (r : Option Request) : Type 0 where
  pub leads : (b : rules.Bench) → fed (record { bench = b; count = count; value = value }) bytes ≡ between (answered read_write b r).next
  pub says : (say : rules.Bench → Option Request → List ℕ) (b : rules.Bench) → said_by say (record { bench = b; count = count; value = value }) bytes ≡ say b r

-- The input has been fed from place `at` on to place `at'`, farther on.
pub record FedOnBy (say : rules.Bench → Option Request → List ℕ) (from : Feeding) (input : List ℕ) (at at' : ℕ) (out : List ℕ) (written : ℕ)
    (now : Feeding) (out' : List ℕ) (written' : ℕ) : Type 0 where
  pub moved : at < at'
  pub within : at' ≤ length input
  pub bytes : FedBytesBy say from (take (at' - at) (drop at input)) out written now out' written'
