-- Answer numbers (document 01, "Answer numbers"), and the one total step from a bench and a request to an answer and the next bench.
--
--   0  accepted                            4  the acting number (a, or p in open sub) isn't running
--   1  an action number is too high        5  read, write, commit: a has a running child
--   2  the instrument is too high          6  read, write: not granted by the rule
--   3  open: n isn't free                  7  the record isn't sound
--                                         10  quiet: a isn't draining under itself, or its group isn't in i's sets
--
-- Where several apply: 7 first, then 1, 2, 3, 4, 5, 6; for quiet 7 first, then 1, 2, 10.
use Rattle.std.specs.Prelude.{Bool, true, false, not, ◌||◌, List, [], ◌∷◌, ℕ, eqb, leb, if◌then◌else◌}
use Rattle.std.proofs.Math.Option.{Option, none, some}
use Rattle.rules.specs.Bench.{Shape, State, is_free, is_running, Bench}
use Rattle.rules.specs.Owners.{granted, has_running_child, drains_under, stand_at}
use Rattle.rules.specs.Sound.{sound}
use Rattle.rules.specs.Requests.{Request, open_top, open_sub, ask, commit, abort, quiet, effect}

-- an action number that the table doesn't have
abbrev pub too_high : Shape → ℕ → Bool
too_high sh a = leb sh.actions a

-- an instrument that the table doesn't have
abbrev pub no_instrument : Shape → ℕ → Bool
no_instrument sh i = leb sh.instruments i

-- The rows 1 to 6, 10 and 0, of which the first that applies is given. The granting rule is a parameter: `grants m a i` says whether asker a gets
-- mode m at instrument i.
unfoldable pub row_by : (ℕ → ℕ → ℕ → Bool) → Shape → Bench → Request → ℕ
row_by grants sh b (open_top n) =
    if too_high sh n then 1
    else if not (is_free (b.state n)) then 3
    else 0
row_by grants sh b (open_sub n p) =
    if too_high sh n || too_high sh p then 1
    else if not (is_free (b.state n)) then 3
    else if not (is_running (b.state p)) then 4
    else 0
row_by grants sh b (ask m a i) =
    if too_high sh a then 1
    else if no_instrument sh i then 2
    else if not (is_running (b.state a)) then 4
    else if has_running_child sh b a then 5
    else if not (grants m a i) then 6
    else 0
row_by grants sh b (commit a) =
    if too_high sh a then 1
    else if not (is_running (b.state a)) then 4
    else if has_running_child sh b a then 5
    else 0
row_by grants sh b (abort a) =
    if too_high sh a then 1
    else if not (is_running (b.state a)) then 4
    else 0
row_by grants sh b (quiet a i) =
    if too_high sh a then 1
    else if no_instrument sh i then 2
    else if not (drains_under b a a) || not (stand_at sh b (drains_under b a) i) then 10
    else 0

-- the row of a sound bench, by Moss's rule over heirs
abbrev pub row : Shape → Bench → Request → ℕ
row sh b r = row_by (granted sh b) sh b r

-- the answer: 7 where the record isn't sound, and else the row
unfoldable pub answer_of : Shape → Bench → Request → ℕ
answer_of sh b r = if sound sh b then row sh b r else 7

pub record Outcome : Type 0 where
  pub answer : ℕ
  pub next : Bench

-- this answer means that the request was accepted
abbrev pub accepts : ℕ → Bool
accepts a = eqb a 0

-- the answer with what it hands back: where it accepts the next record, and else the record as it came
abbrev pub outcome : Shape → Bench → Request → ℕ → Outcome
outcome sh b r a = record { answer = a; next = if accepts a then effect sh b r else b }

-- One total step.
unfoldable pub step : Shape → Bench → Request → Outcome
step sh b r = outcome sh b r (answer_of sh b r)

-- What a line does: 8 and nothing changes where it has no request, else as its request.
abbrev pub answered : Shape → Bench → Option Request → Outcome
answered sh b none = record { answer = 8; next = b }
answered sh b (some r) = step sh b r

-- the answers to a list of requests, each on the bench that the one before it left
unfoldable pub answers : Shape → Bench → List Request → List ℕ
answers sh b [] = []
answers sh b (r ∷ rs) = let o = step sh b r in o.answer ∷ answers sh o.next rs

-- the bench that they leave
unfoldable pub after : Shape → Bench → List Request → Bench
after sh b [] = b
after sh b (r ∷ rs) = after sh (step sh b r).next rs
