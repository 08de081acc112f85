-- Document 01's sessions marked (P), and those of document 02's order 2: the step gives each request the answer that the documents give. They are computed
-- with a step that leaves the test of soundness out, which from the empty bench answers the same, since every request keeps a bench sound, and that looks
-- for who stands in a set number by number.
use Rattle.std.specs.Prelude.{if◌then◌else◌}
use mathlib.Core.Path.{◌≡◌, refl, ◌∙◌, ap, fun_ext}
use mathlib.Core.Bool.{Bool, true, ◌&&◌}
use mathlib.Core.List.{List, [], ◌∷◌, map}
use Prim.Native.Nat.{ℕ}
use lib.ListN.{get_or}
use Rattle.rules.specs.Tests.{all, any}
use Rattle.rules.specs.Bench.{Shape, Bench, empty}
use Rattle.rules.specs.Owners.{above, is_ancestor, in_family, nearest, heir, is_asker_or_ancestor, heir_in_line, granted, has_running_child, drains_under, stand_at, stand_somewhere}
use Rattle.rules.specs.Requests.{Request, open_top, open_sub, ask, commit, abort, quiet, without, drained, quieted, effect}
use Rattle.rules.specs.Sound.{sound}
use Rattle.rules.specs.Answers.{row_by, row, answer_of, accepts, step, answers}
use Rattle.rules.specs.ReadWrite.{read_write}
use Rattle.rules.specs.Sessions.{Line, ◌gives◌, whole_trace, sessions}
use Rattle.rules.proofs.Tests.{and_left, and_right, and_both, any_at, any_by, same}
use Rattle.rules.proofs.Facts.{somewhere_at, somewhere_by}
use Rattle.rules.proofs.Kept.{empty_sound, step_keeps_sound}

-- the requests of a session, and the answers that it gives them
unfoldable pub requests_of : List Line → List Request
requests_of [] = []
requests_of ((r gives x) ∷ ls) = r ∷ requests_of ls

unfoldable pub answers_of : List Line → List ℕ
answers_of [] = []
answers_of ((r gives x) ∷ ls) = x ∷ answers_of ls

-- ---- a quicker step

-- The same test as `stand_somewhere`, number by number: it looks into the sets only for the numbers that are asked for.
member_somewhere : Shape → Bench → (ℕ → Bool) → Bool
member_somewhere sh b numbers = any sh.actions (λ k. numbers k && any sh.instruments (λ i. any sh.modes (λ m. b.stands m i k)))

member_somewhere_lem : (sh : Shape) (b : Bench) (numbers : ℕ → Bool) → member_somewhere sh b numbers ≡ stand_somewhere sh b numbers
unfolding member_somewhere
member_somewhere_lem sh b numbers = same (member_somewhere sh b numbers) (stand_somewhere sh b numbers) into back
  where
    in_modes : ℕ → ℕ → Bool
    in_modes k i = any sh.modes (λ m. b.stands m i k)

    into : member_somewhere sh b numbers ≡ true → stand_somewhere sh b numbers ≡ true
    into t =
        let k = any_at sh.actions (λ k. numbers k && any sh.instruments (in_modes k)) t in
        let i = any_at sh.instruments (in_modes k.0) (and_right (numbers k.0) (any sh.instruments (in_modes k.0)) k.2) in
        let m = any_at sh.modes (λ m. b.stands m i.0 k.0) i.2 in
        somewhere_by sh b numbers i.0 i.1
        (record {
          mode = m.0;
          mode_known = m.1;
          number = k.0;
          number_known = k.1;
          stands = m.2;
          is_one = and_left (numbers k.0) (any sh.instruments (in_modes k.0)) k.2;
        })

    back : stand_somewhere sh b numbers ≡ true → member_somewhere sh b numbers ≡ true
    back t =
        let at = somewhere_at sh b numbers t in
        let s = at.2 in
        any_by sh.actions (λ k. numbers k && any sh.instruments (in_modes k)) s.number s.number_known
        (and_both (numbers s.number) (any sh.instruments (in_modes s.number)) s.is_one
        (any_by sh.instruments (in_modes s.number) at.0 at.1
        (any_by sh.modes (λ m. b.stands m at.0 s.number) s.mode s.mode_known s.stands)))

-- what an accepted request does, with that test
quick_effect : Shape → Bench → Request → Bench
quick_effect sh b (open_top n) = effect sh b (open_top n)
quick_effect sh b (open_sub n p) = effect sh b (open_sub n p)
quick_effect sh b (ask m a i) = effect sh b (ask m a i)
quick_effect sh b (commit a) = effect sh b (commit a)
quick_effect sh b (abort a) =
    let family = in_family sh b a in
    if member_somewhere sh b family then drained a family b else without family b
quick_effect sh b (quiet a i) =
    let group = drains_under b a in
    let left = quieted group i b in
    if member_somewhere sh left group then left else without group b

quick_effect_lem : (sh : Shape) (b : Bench) (r : Request) → quick_effect sh b r ≡ effect sh b r
unfolding quick_effect effect
quick_effect_lem sh b (open_top n) = refl
quick_effect_lem sh b (open_sub n p) = refl
quick_effect_lem sh b (ask m a i) = refl
quick_effect_lem sh b (commit a) = refl
quick_effect_lem sh b (abort a) = rw (member_somewhere_lem sh b (in_family sh b a))
quick_effect_lem sh b (quiet a i) = rw (member_somewhere_lem sh (quieted (drains_under b a) i b) (drains_under b a))

-- the answers by the rows alone, with no test of soundness
rows : Shape → Bench → List Request → List ℕ
rows sh b [] = []
rows sh b (r ∷ rs) = let x = row sh b r in x ∷ rows sh (if accepts x then quick_effect sh b r else b) rs

step_rows : (sh : Shape) (b : Bench) (r : Request) (rs : List Request) → sound sh b ≡ true → ((step sh b r).answer ∷ rows sh (step sh b r).next rs) ≡ rows sh b (r ∷ rs)
unfolding step answer_of rows
step_rows sh b r rs ok = rw (ok, quick_effect_lem sh b r)

-- on a sound bench the answers are the rows
answers_rows : (sh : Shape) (b : Bench) → sound sh b ≡ true → (rs : List Request) → answers sh b rs ≡ rows sh b rs
unfolding answers
answers_rows sh b ok [] = unfold rows in refl
answers_rows sh b ok (r ∷ rs) =
    ap (λ xs. (step sh b r).answer ∷ xs) (answers_rows sh (step sh b r).next (step_keeps_sound sh b r ok) rs)
    ∙ step_rows sh b r rs ok

rows_hold : map (λ l. rows read_write empty (requests_of l)) sessions ≡ map answers_of sessions
unfolding rows requests_of answers_of sessions all any above is_ancestor in_family nearest heir is_asker_or_ancestor heir_in_line granted has_running_child stand_at member_somewhere effect quick_effect row_by
rows_hold = refl

-- the step answers every session as the documents do
pub sessions_hold : map (λ l. answers read_write empty (requests_of l)) sessions ≡ map answers_of sessions
sessions_hold = ap (λ f. map (λ l. f (requests_of l)) sessions) (fun_ext (answers_rows read_write empty (empty_sound read_write))) ∙ rows_hold

-- the whole trace by itself
pub whole_trace_holds : answers read_write empty (requests_of whole_trace) ≡ answers_of whole_trace
unfolding sessions
whole_trace_holds = ap (λ xs. get_or xs 5 []) sessions_hold
