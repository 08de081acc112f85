-- What a single request record and a list of them give, read as the rules' single request and the rules' call.
use Rattle.std.specs.Prelude.{List, map, ◌≡◌}
use Rattle.rules.specs.Answers.{answered}
use Rattle.rules.specs.ReadWrite.{read_write}
use Rattle.rules.specs.Lists.{Entry, entry_request, Call, call}
use Rattle.bench.specs.declared.Bench.{Bench}
use Rattle.bench.specs.declared.Reply.{Reply}
use Rattle.bench.specs.Record.{viewed, seen}
use Rattle.lists.specs.declared.Request.{Request}

-- A request record, read as an entry of the rules' list: the same four numbers.
abbrev pub entry : Request → Entry
entry q = record { kind = q.kind; x = q.x; y = q.y; answer = q.answer }

-- What a call hands back, read as the rules' call: its answer, the list and the next bench.
abbrev pub called : Reply → List Request → Call
called r after = record { answer = r.answer; list = map entry after; next = viewed r.bench }

-- r is what the single request q returns on record b.
abbrev pub ReturnsOne : Bench → Request → Reply → Type 0
ReturnsOne b q r = seen r ≡ answered read_write (viewed b) (entry_request (entry q))

-- r and the list after it are what a call with the list returns on record b.
abbrev pub ReturnsList : Bench → List Request → Reply → List Request → Type 0
ReturnsList b list r after = called r after ≡ call read_write (viewed b) (map entry list)
