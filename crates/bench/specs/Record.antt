-- The record of arrays, and what a request hands back, read as a bench of Moss's rules. The reading loses nothing: proofs/Unique shows that two
-- records of these arrays' lengths that are read as the same bench are the same record.
use Rattle.rules.specs.Bench as rules
use Rattle.rules.specs.Answers.{Outcome}
use Rattle.views.specs.View.{view}
use Rattle.bench.specs.declared.Bench.{Bench}
use Rattle.bench.specs.declared.Reply.{Reply}

-- A record, read as a bench.
abbrev pub viewed : Bench → rules.Bench
viewed b = view b.parents b.states b.reads b.writes

-- What a request hands back, read as an answer and the next bench.
abbrev pub seen : Reply → Outcome
seen r = record { answer = r.answer; next = viewed r.bench }
