-- A list of request records and the single calls that it stands for: its requests, and the answers at their places.
use Rattle.std.specs.Prelude.{Bool, true, false, ◌&&◌, ◌||◌, List, [], ◌∷◌, ℕ, eqb}
use Rattle.std.proofs.Math.Option.{Option, none, some}
use Rattle.rules.specs.Requests.{Request}
use Rattle.rules.specs.Lists.{Entry, entry_request}

-- a request, where there is one, before others
abbrev pub asked : Option Request → List Request → List Request
asked none others = others
asked (some r) others = r ∷ others

-- the requests of a list; a place whose kind is no request's is passed over
unfoldable pub requests_in : List Entry → List Request
requests_in [] = []
requests_in (e ∷ es) = asked (entry_request e) (requests_in es)

-- an answer, where there is a request, before others
abbrev pub given : Option Request → ℕ → List ℕ → List ℕ
given none a others = others
given (some r) a others = a ∷ others

-- the answers at the places of those requests
unfoldable pub answers_in : List Entry → List ℕ
answers_in [] = []
answers_in (e ∷ es) = given (entry_request e) e.answer (answers_in es)

abbrev pub is_request : Option Request → Bool
is_request none = false
is_request (some r) = true

-- every place whose kind is no request's holds this answer
unfoldable pub others_hold : ℕ → List Entry → Bool
others_hold a [] = true
others_hold a (e ∷ es) = (is_request (entry_request e) || eqb e.answer a) && others_hold a es

-- what a place gets on an unsound bench
abbrev pub unsound_answer : Option Request → ℕ
unsound_answer none = 8
unsound_answer (some r) = 7
