-- Why a request gets its answer (document 02, orders 1 and 2): whom the answer names, and for 6 in which modes that one owns the instrument and whether it
-- drains. The answer itself is that of the table.
--
--   0, 7, 8  nobody                                                   5   the smallest running child
--   1 to 4   the offending number, of two the first in the frame      6   the smallest-numbered owner that blocks, running or draining
--                                                                     10  a, of which quiet was said
use Rattle.std.specs.Prelude.{Bool, false, not, ◌&&◌, ℕ, zero, suc, eqb, leb, if◌then◌else◌}
use Rattle.std.proofs.Math.Option.{Option, none, some}
use Rattle.rules.specs.Tests.{any, from}
use Rattle.rules.specs.Bench.{Shape, Bench, is_running}
use Rattle.rules.specs.Owners.{is_child, is_owner, is_asker_or_ancestor, drains_under}
use Rattle.rules.specs.Requests.{Request, open_top, open_sub, ask, commit, abort, quiet}
use Rattle.rules.specs.Answers.{too_high, answer_of}

-- the smallest number below n of which the test holds
unfoldable pub smallest : ℕ → (ℕ → Bool) → Option ℕ
smallest zero test = none
smallest (suc n) test = from (smallest n test) (if test n then some n else none) (λ k. some k)

-- For 1 to 4 and 10, the offending number: too high, no instrument, not free, not running, or not draining; of two numbers that are too high the
-- first in the frame.
unfoldable pub offending : Shape → Request → ℕ → ℕ
offending sh (open_top n) answer = n
offending sh (open_sub n p) answer = if eqb answer 1 then (if too_high sh n then n else p) else if eqb answer 4 then p else n
offending sh (ask m a i) answer = if eqb answer 2 then i else a
offending sh (commit a) answer = a
offending sh (abort a) answer = a
offending sh (quiet a i) answer = if eqb answer 2 then i else a

-- k is a running child of a
abbrev pub is_running_child : Bench → ℕ → ℕ → Bool
is_running_child b a k = is_running (b.state k) && is_child b a k

-- For 5, the smallest running child of the acting number; only read, write and commit have this answer.
unfoldable pub child : Shape → Bench → Request → Option ℕ
child sh b (open_top n) = none
child sh b (open_sub n p) = none
child sh b (ask m a i) = smallest sh.actions (is_running_child b a)
child sh b (commit a) = smallest sh.actions (is_running_child b a)
child sh b (abort a) = none
child sh b (quiet a i) = none

-- A blocker owns the instrument in a conflicting mode and is neither asker nor ancestor.
unfoldable pub blocks : Shape → Bench → ℕ → ℕ → ℕ → ℕ → Bool
blocks sh b m a i h = any sh.modes (λ held. sh.conflict m held && is_owner sh b held i h) && not (is_asker_or_ancestor sh b a h)

-- For 6, the smallest-numbered one that blocks; only read and write have this answer.
unfoldable pub blocker : Shape → Bench → Request → Option ℕ
blocker sh b (open_top n) = none
blocker sh b (open_sub n p) = none
blocker sh b (ask m a i) = smallest sh.actions (blocks sh b m a i)
blocker sh b (commit a) = none
blocker sh b (abort a) = none
blocker sh b (quiet a i) = none

-- whom an answer to a request names
unfoldable pub named : Shape → Bench → Request → ℕ → Option ℕ
named sh b r answer =
    if eqb answer 0 then none
    else if leb answer 4 then some (offending sh r answer)
    else if eqb answer 5 then child sh b r
    else if eqb answer 6 then blocker sh b r
    else if eqb answer 10 then some (offending sh r answer)
    else none

-- h owns what the request asks for, in mode m
unfoldable pub owns_asked : Shape → Bench → Request → ℕ → ℕ → Bool
owns_asked sh b (open_top n) m h = false
owns_asked sh b (open_sub n p) m h = false
owns_asked sh b (ask asked a i) m h = is_owner sh b m i h
owns_asked sh b (commit a) m h = false
owns_asked sh b (abort a) m h = false
owns_asked sh b (quiet a i) m h = false

-- The answer, whom it names, and for 6 whether the named one owns the instrument in a mode: `owns m`, and whether it drains.
pub record Reason : Type 0 where
  pub answer : ℕ
  pub names : Option ℕ
  pub owns : ℕ → Bool
  pub drains : Bool

-- the reason that goes with an answer
unfoldable pub reason_for : Shape → Bench → Request → ℕ → Reason
reason_for sh b r answer =
    record {
      answer = answer;
      names = named sh b r answer;
      owns = λ m. eqb answer 6 && from (blocker sh b r) false (owns_asked sh b r m);
      drains = eqb answer 6 && from (blocker sh b r) false (λ h. drains_under b h h);
    }

-- The reason for a request's answer; 8 and nobody where there is no request.
unfoldable pub reason_of : Shape → Bench → Option Request → Reason
reason_of sh b none = record { answer = 8; names = none; owns = λ m. false; drains = false }
reason_of sh b (some r) = reason_for sh b r (answer_of sh b r)
