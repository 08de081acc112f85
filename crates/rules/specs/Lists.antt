-- Thirty-two requests in one call (document 02, order 3): a list of request records is played in one call, its answers and the bench after it being those of
-- single calls in list order. A refused request doesn't stop the rest. Nothing but the answer places changes in the list.
--
--   0  of the call: the list was played     11  of the call: the list is longer than 32; list and bench stay
--   8  at a place: the kind is outside 1 to 7, before 7
use Rattle.std.specs.Prelude.{List, [], ◌∷◌, ℕ, ltb, length, if◌then◌else◌}
use Rattle.std.proofs.Math.Option.{Option}
use Rattle.rules.specs.Bench.{Shape, Bench}
use Rattle.rules.specs.Requests.{Request}
use Rattle.rules.specs.Answers.{answered}
use Rattle.rules.specs.Frames.{framed}

-- A request record of a list: its kind, which is the frame's code, two numbers, a spare one ignored, and a place for the answer.
pub record Entry : Type 0 where
  pub kind : ℕ
  pub x : ℕ
  pub y : ℕ
  pub answer : ℕ

-- its request, and none where its kind is outside 1 to 7
abbrev pub entry_request : Entry → Option Request
entry_request e = framed e.kind e.x e.y

-- the record with an answer in its place
abbrev pub with_answer : ℕ → Entry → Entry
with_answer a e = record { kind = e.kind; x = e.x; y = e.y; answer = a }

-- the list with the answers of single calls, each on the bench that the one before it left
unfoldable pub list_answered : Shape → Bench → List Entry → List Entry
list_answered sh b [] = []
list_answered sh b (e ∷ es) = let o = answered sh b (entry_request e) in with_answer o.answer e ∷ list_answered sh o.next es

-- the bench that they leave
unfoldable pub after_list : Shape → Bench → List Entry → Bench
after_list sh b [] = b
after_list sh b (e ∷ es) = after_list sh (answered sh b (entry_request e)).next es

-- What a call gives: an answer of its own, the list and the next bench.
pub record Call : Type 0 where
  pub answer : ℕ
  pub list : List Entry
  pub next : Bench

-- One call.
unfoldable pub call : Shape → Bench → List Entry → Call
call sh b list =
    if ltb 32 (length list) then record { answer = 11; list = list; next = b }
    else record { answer = 0; list = list_answered sh b list; next = after_list sh b list }
