-- `played` meets its contract. The loop's invariant: what is left of the text leads from the bench and the reading at hand to the same bench as the whole text from the
-- start. Assumes nothing.
use Rattle.std.proofs.Common.{◌≡◌, drop}
use Rattle.std.specs.Prelude.{None}
use Rattle.bench.specs.Record.{viewed}
use Rattle.trials.specs.Session.{after_text}
use Rattle.trials.proofs.session.played.Given as goal

abbrev pub invariant-loop-c : goal.invariant-loop-c
invariant-loop-c g l = after_text (viewed l.b) l.reading (drop l.c-index l.text) ≡ after_text (viewed l.fn.start) None l.text
