-- What the bench's methods return, request after request: each reply is one that its method's contract allows.
use Rattle.std.specs.Prelude.{List, [], ◌∷◌, ◌≡◌, ℕ}
use Rattle.rules.specs.Bench.{empty}
use Rattle.rules.specs.Requests.{Request}
use Rattle.rules.specs.Answers.{step}
use Rattle.rules.specs.ReadWrite.{read_write}
use Rattle.bench.specs.declared.Bench.{Bench}
use Rattle.bench.specs.declared.Reply.{Reply}
use Rattle.bench.specs.Record.{viewed, seen}

-- r is what `Bench::empty` returns.
abbrev pub IsEmpty : Bench → Type 0
IsEmpty r = viewed r ≡ empty

-- r is what the method of request q returns on record b: each of the seven ensures it in these words.
abbrev pub Returns : Bench → Request → Reply → Type 0
Returns b q r = seen r ≡ step read_write (viewed b) q

-- Request q has been made of record b in place: it was answered `answer` and has left `next`, as the method returns them.
abbrev pub Became : Bench → Request → ℕ → Bench → Type 0
Became b q answer next = Returns b q (record { bench = next; answer = answer })

-- `Plays b qs given c`: the requests qs, each on the bench that the one before it handed back, from b on, were answered `given` and left c.
pub data Plays : Bench → List Request → List ℕ → Bench → Type 0 where
  played : {b : Bench} → Plays b [] [] b
  then : {b c : Bench} {q : Request} {qs : List Request} {given : List ℕ} (r : Reply) → Returns b q r → Plays r.bench qs given c → Plays b (q ∷ qs) (r.answer ∷ given) c
