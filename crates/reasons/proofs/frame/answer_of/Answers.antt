-- `answer_of` meets its contract: a request's answer is the bench's, and no request gets 8. Assumes nothing.
use Rattle.marks.specs.Requests.{meant}
use Rattle.reasons.proofs.Frames.{answered_as, malformed_as}
use Rattle.reasons.proofs.frame.answer_of.Goals as goal

pub returns-in-Some : goal.returns-in-Some
returns-in-Some c = let a = c.args in rw c.in-Some.is (answered_as a.bench c.make.new.self (meant c.in-Some.request) _ c.make.ensures)

pub returns-in-None : goal.returns-in-None
returns-in-None c = let a = c.args in rw c.in-None.is (malformed_as a.bench)
