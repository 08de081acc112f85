-- Controls of demand 2: the plain machine on document 01's sessions, both machines computed on a small table, and near variants of them that a list of
-- requests tells apart from the step.
use Rattle.std.specs.Prelude.{if◌then◌else◌}
use mathlib.Core.Path.{◌≡◌, refl, sym, ◌∙◌, ap, fun_ext}
use mathlib.Core.Bool.{Bool, true, false, ◌&&◌, false≢true}
use mathlib.Core.List.{List, [], ◌∷◌, ◌++◌, map}
use mathlib.Core.Option.{none, some}
use Prim.Native.Nat.{ℕ, ◌<◌}
use native.Mathlib.Omega.{arith}
use lib.Dec.{eqb}
use borrow.Author.Tests.{eq-eqb}
use Rattle.rules.specs.Tests.{all, any}
use Rattle.rules.specs.Bench.{Bench, empty}
use Rattle.rules.specs.Owners.{above, is_ancestor, in_family, nearest, heir, is_owner, is_asker_or_ancestor, heir_in_line, granted, has_running_child, stand_at, stand_somewhere}
use Rattle.rules.specs.Requests.{Request, open_top, open_sub, ask, commit, abort, quiet, without, effect}
use Rattle.rules.specs.Sound.{stands_nowhere, reaches_top, sound}
use Rattle.rules.specs.Answers.{row_by, answer_of, step, answers, after}
use Rattle.rules.specs.Plain.{Plain, plain_empty, may_own, running_child, owns_at, family_owns, plain_answer, plain_effect, plain_next, plain_answers, plain_after}
use Rattle.rules.specs.Agrees.{Agrees}
use Rattle.rules.specs.ReadWrite.{read_write, writing, read, write}
use Rattle.rules.specs.Sessions.{sessions}
use Rattle.rules.proofs.Tests.{clash}
use Rattle.rules.proofs.Kept.{empty_sound}
use Rattle.rules.proofs.Sessions.{requests_of, answers_of, sessions_hold}
use Rattle.rules.proofs.Controls.{small}
use Rattle.rules.proofs.DemandTwo.{demand_two, empty_agrees}

-- ---- the two machines compute

-- The plain machine answers every session as the document does.
plain_sessions_hold : map (λ l. plain_answers read_write plain_empty (requests_of l)) sessions ≡ map answers_of sessions
plain_sessions_hold =
    ap (λ f. map (λ l. f (requests_of l)) sessions) (fun_ext (λ rs. sym (demand_two read_write empty plain_empty (empty_sound read_write) (empty_agrees read_write) rs).0))
    ∙ sessions_hold

-- the whole trace of document 01, at instrument 1 of two, in two parts: up to the commit of 2, and from there on
until_commit : List Request
until_commit = open_top 1 ∷ open_sub 2 1 ∷ open_sub 3 1 ∷ write 2 1 ∷ read 3 1 ∷ commit 2 ∷ []

since_commit : List Request
since_commit = read 3 1 ∷ write 3 1 ∷ commit 1 ∷ abort 3 ∷ write 1 1 ∷ commit 1 ∷ []

-- the bench that requests leave on the small table, from an empty one, and what they leave of the plain machine
stepped : List Request → Bench
unfolding all any above is_ancestor in_family nearest heir is_owner is_asker_or_ancestor heir_in_line granted has_running_child stand_at stand_somewhere effect stands_nowhere reaches_top sound row_by answer_of step answers after
stepped rs = after small empty rs

played : List Request → Plain
unfolding all any may_own running_child owns_at family_owns plain_answer plain_effect plain_next plain_answers plain_after
played rs = plain_after small plain_empty rs

-- both machines give these answers
abbrev BothGive : List Request → List ℕ → Type 0
BothGive rs xs = (answers small empty rs ≡ xs) × (plain_answers small plain_empty rs ≡ xs)

whole_trace_holds : BothGive (until_commit ++ since_commit) (0 ∷ 0 ∷ 0 ∷ 0 ∷ 6 ∷ 0 ∷ 0 ∷ 0 ∷ 5 ∷ 0 ∷ 6 ∷ 0 ∷ [])
unfolding stepped played until_commit since_commit
whole_trace_holds = (refl, refl)

-- Of the numbers 0 to 3, once 2 is committed: who stands in the write set of instrument 1, who owns it, and who owns it on the plain machine.
commit_hands_up : map (λ f. map f (0 ∷ 1 ∷ 2 ∷ 3 ∷ [])) ((stepped until_commit).stands writing 1 ∷ is_owner small (stepped until_commit) writing 1 ∷ (played until_commit).owns writing 1 ∷ []) ≡ (false ∷ false ∷ true ∷ false ∷ []) ∷ (false ∷ true ∷ false ∷ false ∷ []) ∷ (false ∷ true ∷ false ∷ false ∷ []) ∷ []
unfolding stepped played until_commit
commit_hands_up = refl

-- There the two machines say the same, as the theorem has it.
whole_trace_agrees : Agrees small (stepped until_commit) (played until_commit)
unfolding stepped played
whole_trace_agrees = (demand_two small empty plain_empty (empty_sound small) (empty_agrees small) until_commit).1

-- Whatever machine says the same as the bench there has 1 for the owner, and not 2.
agreed_owner : (s : Plain) → Agrees small (stepped until_commit) s → (s.owns writing 1 1 ≡ true) × (s.owns writing 1 2 ≡ false)
unfolding stepped until_commit
agreed_owner s agrees = (
  agrees.owns writing 1 1 (omega arith) (omega arith) (omega arith),
  agrees.owns writing 1 2 (omega arith) (omega arith) (omega arith),
)

-- The plain machine's owners are not the numbers in the bench's sets: once 2 is committed the set has 2, and 1 owns it.
owners_are_no_members : ((rs : List Request) (m i h : ℕ) → m < 2 → i < 2 → h < 4 → (played rs).owns m i h ≡ (stepped rs).stands m i h) → ⊥
unfolding stepped played until_commit
owners_are_no_members claim = false≢true (claim until_commit writing 1 2 (omega arith) (omega arith) (omega arith))

-- top 1; 2 and 3 under 1; write 2, 1; abort 1
aborted : List Request
aborted = open_top 1 ∷ open_sub 2 1 ∷ open_sub 3 1 ∷ write 2 1 ∷ abort 1 ∷ []

-- The family drains together until instrument 1 is quiet for its head.
drained_family_holds : BothGive (aborted ++ (open_top 3 ∷ quiet 2 1 ∷ quiet 1 0 ∷ quiet 1 1 ∷ open_top 3 ∷ [])) (0 ∷ 0 ∷ 0 ∷ 0 ∷ 0 ∷ 3 ∷ 10 ∷ 10 ∷ 0 ∷ 0 ∷ [])
unfolding stepped played aborted
drained_family_holds = (refl, refl)

-- Of the numbers 0 to 3, once 1 is aborted: who stands in the write set of instrument 1, who owns it, and who owns it on the plain machine: its head 1 alone.
abort_hands_to_head : map (λ f. map f (0 ∷ 1 ∷ 2 ∷ 3 ∷ [])) ((stepped aborted).stands writing 1 ∷ is_owner small (stepped aborted) writing 1 ∷ (played aborted).owns writing 1 ∷ []) ≡ (false ∷ false ∷ true ∷ false ∷ []) ∷ (false ∷ true ∷ false ∷ false ∷ []) ∷ (false ∷ true ∷ false ∷ false ∷ []) ∷ []
unfolding stepped played aborted
abort_hands_to_head = refl

-- top 1; 2 under 1; 3 under 2; abort 1; open top 3: 0
grandchild_freed : List Request
grandchild_freed = open_top 1 ∷ open_sub 2 1 ∷ open_sub 3 2 ∷ abort 1 ∷ open_top 3 ∷ []

-- An abort takes out the children's children too.
grandchild_freed_holds : BothGive grandchild_freed (0 ∷ 0 ∷ 0 ∷ 0 ∷ 0 ∷ [])
unfolding stepped played grandchild_freed
grandchild_freed_holds = (refl, refl)

-- ---- wrong machines

-- Gives 0 every time; answers well and never changes a set; refuses whoever asks; follows the first request, and afterwards answers and changes plausibly,
-- every sub a top action; at a sub's commit drops its locks, instead of handing them to its parent; frees an aborted family at once; hears that an
-- instrument is quiet, and leaves the group where it is.
data Wrong : Type 0 where
  gives_all keeps_sets refuses_asks right_once drops_locks frees_at_once leaves_group : Wrong

with_sets : (ℕ → ℕ → ℕ → Bool) → Bench → Bench
with_sets sets b = record { state = b.state; parent = b.parent; stands = sets }

owns_both : Plain → Plain → Plain
owns_both s t = record { used = t.used; runs = t.runs; ancestors = t.ancestors; heads = t.heads; owns = λ m i k. s.owns m i k && t.owns m i k }

refusing : Bench → Request → ℕ
refusing b (open_top n) = answer_of small b (open_top n)
refusing b (open_sub n p) = answer_of small b (open_sub n p)
refusing b (ask m a i) = 6
refusing b (commit a) = answer_of small b (commit a)
refusing b (abort a) = answer_of small b (abort a)
refusing b (quiet a i) = answer_of small b (quiet a i)

-- what an accepted request does where no set changes
settled : Bench → Request → Bench
settled b r = with_sets b.stands (effect small b r)

-- and where a sub is opened as a top action: an empty bench opens no sub, so the first request is followed
topped : Bench → Request → Bench
topped b (open_top n) = effect small b (open_top n)
topped b (open_sub n p) = effect small b (open_top n)
topped b (ask m a i) = effect small b (ask m a i)
topped b (commit a) = effect small b (commit a)
topped b (abort a) = effect small b (abort a)
topped b (quiet a i) = effect small b (quiet a i)

dropping : Plain → Request → Plain
dropping s (open_top n) = plain_effect small s (open_top n)
dropping s (open_sub n p) = plain_effect small s (open_sub n p)
dropping s (ask m a i) = plain_effect small s (ask m a i)
dropping s (commit a) = owns_both s (plain_effect small s (commit a))
dropping s (abort a) = plain_effect small s (abort a)
dropping s (quiet a i) = plain_effect small s (quiet a i)

freeing : Bench → Request → Bench
freeing b (open_top n) = effect small b (open_top n)
freeing b (open_sub n p) = effect small b (open_sub n p)
freeing b (ask m a i) = effect small b (ask m a i)
freeing b (commit a) = effect small b (commit a)
freeing b (abort a) = without (in_family small b a) b
freeing b (quiet a i) = effect small b (quiet a i)

leaving : Bench → Request → Bench
leaving b (open_top n) = effect small b (open_top n)
leaving b (open_sub n p) = effect small b (open_sub n p)
leaving b (ask m a i) = effect small b (ask m a i)
leaving b (commit a) = effect small b (commit a)
leaving b (abort a) = effect small b (abort a)
leaving b (quiet a i) = b

-- the answers of a machine that changes by `change` where it answers 0
replies_by : {S : Type 0} → (S → Request → ℕ) → (S → Request → S) → S → List Request → List ℕ
replies_by answer change s [] = []
replies_by answer change s (r ∷ rs) = let a = answer s r in a ∷ replies_by answer change (if eqb a 0 then change s r else s) rs

wrong_answers : Wrong → List Request → List ℕ
wrong_answers gives_all = replies_by (λ b r. 0) (effect small) empty
wrong_answers keeps_sets = replies_by (answer_of small) settled empty
wrong_answers refuses_asks = replies_by refusing (effect small) empty
wrong_answers right_once = replies_by (answer_of small) topped empty
wrong_answers drops_locks = replies_by (plain_answer small) dropping plain_empty
wrong_answers frees_at_once = replies_by (answer_of small) freeing empty
wrong_answers leaves_group = replies_by (answer_of small) leaving empty

-- top 1, 2 under 1; write 2, 0; commit 2; top 3; write 3, 0: 6; abort 1; write 3, 0: 6; instrument 0 is quiet for 1; write 3, 0: 0
handed_up : List Request
handed_up = open_top 1 ∷ open_sub 2 1 ∷ write 2 0 ∷ commit 2 ∷ open_top 3 ∷ write 3 0 ∷ abort 1 ∷ write 3 0 ∷ quiet 1 0 ∷ write 3 0 ∷ []

handed_up_holds : BothGive handed_up (0 ∷ 0 ∷ 0 ∷ 0 ∷ 0 ∷ 6 ∷ 0 ∷ 6 ∷ 0 ∷ 0 ∷ [])
unfolding stepped played handed_up
handed_up_holds = (refl, refl)

alike : List ℕ → List ℕ → Bool
alike [] [] = true
alike [] (y ∷ ys) = false
alike (x ∷ xs) [] = false
alike (x ∷ xs) (y ∷ ys) = eqb x y && alike xs ys

alike_itself : (xs : List ℕ) → alike xs xs ≡ true
unfolding alike
alike_itself [] = refl
alike_itself (x ∷ xs) = rw (eq-eqb x x refl) (alike_itself xs)

-- the same list of requests tells all seven from the step
wrong_differs : (w : Wrong) → alike (wrong_answers w handed_up) (answers small empty handed_up) ≡ false
unfolding stepped played handed_up with_sets owns_both refusing settled topped dropping freeing leaving replies_by wrong_answers alike
wrong_differs gives_all = refl
wrong_differs keeps_sets = refl
wrong_differs refuses_asks = refl
wrong_differs right_once = refl
wrong_differs drops_locks = refl
wrong_differs frees_at_once = refl
wrong_differs leaves_group = refl

wrong_refuted : (w : Wrong) → ((rs : List Request) → wrong_answers w rs ≡ answers small empty rs) → ⊥
wrong_refuted w same =
    let given = wrong_answers w handed_up in
    clash (alike given (answers small empty handed_up)) (ap (alike given) (sym (same handed_up)) ∙ alike_itself given) (wrong_differs w)

-- the bench that a machine leaves which answers by the rules and changes by `change`
left_by : (Bench → Request → Bench) → Bench → List Request → Bench
left_by change b [] = b
left_by change b (r ∷ rs) = left_by change (if eqb (answer_of small b r) 0 then change b r else b) rs

-- Two of them are told by the record before any answer. One never changes a set: after write 2, 0 all answers were right, and 2 doesn't stand in the write set.
never_changes_a_set : (wrong_answers keeps_sets (open_top 2 ∷ write 2 0 ∷ []) ≡ answers small empty (open_top 2 ∷ write 2 0 ∷ [])) × ((stepped (open_top 2 ∷ write 2 0 ∷ [])).stands writing 0 2 ≡ true) × ((left_by settled empty (open_top 2 ∷ write 2 0 ∷ [])).stands writing 0 2 ≡ false)
unfolding stepped with_sets settled replies_by wrong_answers left_by
never_changes_a_set = (refl, refl, refl)

-- One was right once: it leaves the first request's record, and after open sub 2 under 1 all answers were right, the record is sound, and 2 has no parent.
right_once_lem : (wrong_answers right_once (open_top 1 ∷ open_sub 2 1 ∷ []) ≡ answers small empty (open_top 1 ∷ open_sub 2 1 ∷ [])) × (left_by topped empty (open_top 1 ∷ []) ≡ stepped (open_top 1 ∷ [])) × (sound small (left_by topped empty (open_top 1 ∷ open_sub 2 1 ∷ [])) ≡ true) × ((stepped (open_top 1 ∷ open_sub 2 1 ∷ [])).parent 2 ≡ some 1) × ((left_by topped empty (open_top 1 ∷ open_sub 2 1 ∷ [])).parent 2 ≡ none)
unfolding stepped topped replies_by wrong_answers left_by
right_once_lem = (refl, refl, refl, refl, refl)

-- ---- the bounds of what the two say

-- free 0 stands in a set of mode 2, which the table doesn't have
stray : Bench
unfolding with_sets
stray = with_sets (λ m i k. eqb m 2 && eqb k 0) empty

-- Soundness says nothing of such a set, and opening 0 makes an owner of it, which no request gave: so the machines are compared in the table's modes.
stray_owner : (sound small stray ≡ true) × (is_owner small stray 2 1 0 ≡ false) × (answers small stray (open_top 0 ∷ []) ≡ 0 ∷ []) × (is_owner small (effect small stray (open_top 0)) 2 1 0 ≡ true)
unfolding stepped stray
stray_owner = (refl, refl, refl, refl)
