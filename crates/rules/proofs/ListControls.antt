-- Controls of lists in one call: calls computed on benches of four actions and two instruments with the modes of read and write, and stronger claims refuted.
use mathlib.Core.Path.{◌≡◌, refl, sym, ap}
use mathlib.Core.Bool.{true, false, false≢true}
use mathlib.Core.List.{List, [], ◌∷◌, ◌++◌, map}
use Prim.Native.Nat.{ℕ, ◌≤◌}
use native.Mathlib.Omega.{arith}
use lib.Dec.{eqb}
use lib.ListN.{length, replicate, length-replicate, get_or}
use Rattle.rules.specs.Tests.{all, any}
use Rattle.rules.specs.Bench.{is_running, committed, Bench, empty}
use Rattle.rules.specs.Owners.{above, is_ancestor, in_family, nearest, heir, is_asker_or_ancestor, heir_in_line, granted, has_running_child, stand_at, stand_somewhere}
use Rattle.rules.specs.Requests.{put, effect}
use Rattle.rules.specs.Sound.{stands_nowhere, reaches_top, sound}
use Rattle.rules.specs.Answers.{row_by, answer_of, step}
use Rattle.rules.specs.Lists.{Entry, list_answered, after_list, Call, call}
use Rattle.rules.specs.Merging.{Apart}
use Rattle.rules.specs.SingleCalls.{requests_in, answers_in}
use Rattle.rules.proofs.Controls.{small}
use Rattle.rules.proofs.DemandThree.{read_write_symmetric}
use Rattle.rules.proofs.ListOrders.{second_as_first}
use Rattle.rules.proofs.ApartTest.{clear, share_number, clear_apart}

-- a request record, with 99 in its answer's place
abbrev entry : ℕ → ℕ → ℕ → Entry
entry kind x y = record { kind = kind; x = x; y = y; answer = 99 }

-- a call: what opens it opens all that it computes with
called : Bench → List Entry → Call
unfolding all any above is_ancestor in_family nearest heir is_asker_or_ancestor heir_in_line granted has_running_child stand_at stand_somewhere effect stands_nowhere reaches_top sound row_by answer_of step list_answered after_list requests_in answers_in call
called b es = call small b es

-- the answers at all places of a list
abbrev places : List Entry → List ℕ
places es = map (λ e. e.answer) es

-- a committed top action: an unsound bench
abbrev broken : Bench
broken = record { state = put 1 committed empty.state; parent = empty.parent; stands = empty.stands }

-- ---- calls computed

-- Top 1 opened twice, a kind 0 and a kind 8 between, 1 writes 0, 2 under 1 and under itself, 1 reads 0 beside its child, 2 writes 0, 1 is aborted with a spare number of
-- any size, and 1 is quiet at an instrument that the table doesn't have and at 0.
mixed : List Entry
mixed =
    entry 1 1 77
    ∷ entry 1 1 0
    ∷ entry 0 1 1
    ∷ entry 8 1 1
    ∷ entry 4 1 0
    ∷ entry 2 2 1
    ∷ entry 2 2 2
    ∷ entry 3 1 0
    ∷ entry 4 2 0
    ∷ entry 6 1 4294967295
    ∷ entry 7 1 9
    ∷ entry 7 1 0
    ∷ entry 1 2 0
    ∷ []

-- A refused request doesn't stop the rest.
mixed_answers : ((called empty mixed).answer ≡ 0) × (places (called empty mixed).list ≡ (0 ∷ 3 ∷ 8 ∷ 8 ∷ 0 ∷ 0 ∷ 3 ∷ 5 ∷ 0 ∷ 0 ∷ 2 ∷ 0 ∷ 0 ∷ []))
unfolding called mixed
mixed_answers = (refl, refl)

-- An unsound bench: 7, and 8 before 7; the call is 0. An empty list is played. 33 records are refused before all else.
unsound_computed : ((called broken (entry 1 0 0 ∷ entry 8 0 0 ∷ [])).answer ≡ 0) × (places (called broken (entry 1 0 0 ∷ entry 8 0 0 ∷ [])).list ≡ (7 ∷ 8 ∷ []))
unfolding called
unsound_computed = (refl, refl)

empty_list : (called broken []).answer ≡ 0
unfolding called
empty_list = refl

edges : ((called empty (replicate 32 (entry 1 1 0))).answer ≡ 0) × ((called empty (replicate 33 (entry 1 1 0))).answer ≡ 11) × ((called broken (replicate 33 (entry 8 1 0))).answer ≡ 11)
unfolding called
edges = (refl, refl, refl)

-- ---- stronger claims, refuted

-- Not every list is played.
plays_every_list : ((b : Bench) (es : List Entry) → (call small b es).answer ≡ 0) → ⊥
unfolding called
plays_every_list claim = false≢true (ap (λ a. eqb a 0) (claim empty (replicate 33 (entry 1 1 0))))

-- The list isn't stopped at the first refusal: a place behind a refused one gets its answer.
stops_at_a_refusal : ((b : Bench) (e : Entry) (es : List Entry) → eqb (get_or (places (call small b (e ∷ es)).list) 0 0) 0 ≡ false → get_or (places (call small b (e ∷ es)).list) 1 0 ≡ get_or (places es) 0 0) → ⊥
unfolding called
stops_at_a_refusal claim = false≢true (ap (λ a. eqb a 99) (claim empty (entry 3 1 0) (entry 1 1 0 ∷ []) refl))

-- Nor is it taken back: what was accepted before a refusal has been done.
all_or_nothing : ((b : Bench) (es : List Entry) → eqb (get_or (places (call small b es).list) 1 0) 0 ≡ false → (call small b es).next.state 1 ≡ b.state 1) → ⊥
unfolding called
all_or_nothing claim = false≢true (sym (ap is_running (claim empty (entry 1 1 0 ∷ entry 1 1 0 ∷ []) refl)))

-- On an unsound bench not every place gets 7.
seven_everywhere : ((es : List Entry) (b : Bench) → sound small b ≡ false → get_or (places (call small b es).list) 0 7 ≡ 7) → ⊥
unfolding called
seven_everywhere claim = false≢true (ap (λ a. eqb a 7) (claim (entry 0 1 0 ∷ []) broken refl))

-- A list in two calls isn't always one call: together they may be too long.
two_calls_as_one : ((b : Bench) (xs ys : List Entry) → length xs ≤ 32 → length ys ≤ 32 → (call small b (xs ++ ys)).answer ≡ 0) → ⊥
unfolding called
two_calls_as_one claim =
    false≢true
    (ap (λ a. eqb a 0)
    (claim empty (replicate 32 (entry 1 1 0)) (entry 1 1 0 ∷ []) (rw (length-replicate 32 (entry 1 1 0)) (omega arith)) (omega arith)))

-- ---- two desks

-- 0 and its sub 1 write instrument 0, which 0 may not while 1 drains there; a kind 9 stands between.
abbrev writer : List Entry
writer = entry 1 0 0 ∷ entry 2 1 0 ∷ entry 4 1 0 ∷ entry 6 1 0 ∷ entry 9 0 0 ∷ entry 4 0 0 ∷ entry 7 1 0 ∷ entry 4 0 0 ∷ []

-- 2 reads instrument 1, which is all that the other desk may do with it, and is opened again.
abbrev reader : List Entry
reader = entry 3 2 1 ∷ entry 1 2 0 ∷ entry 3 2 1 ∷ entry 1 2 0 ∷ entry 5 2 7 ∷ []

desks_apart : Apart small (requests_in writer) (requests_in reader)
unfolding called
desks_apart = clear_apart small (requests_in writer) (requests_in reader) refl

-- Called in either order, each gets the answers that it gets alone.
abbrev writer_answers : List ℕ
writer_answers = 0 ∷ 0 ∷ 0 ∷ 0 ∷ 8 ∷ 6 ∷ 0 ∷ 0 ∷ []

abbrev reader_answers : List ℕ
reader_answers = 4 ∷ 0 ∷ 0 ∷ 3 ∷ 0 ∷ []

writer_computed : (places (called empty writer).list ≡ writer_answers) × (places (called (called empty reader).next writer).list ≡ writer_answers)
unfolding called
writer_computed = (refl, refl)

reader_computed : (places (called empty reader).list ≡ reader_answers) × (places (called (called empty writer).next reader).list ≡ reader_answers)
unfolding called
reader_computed = (refl, refl)

-- The same by the theorem, whose hypotheses all hold.
desks_alone : list_answered small (after_list small empty writer) reader ≡ list_answered small empty reader
desks_alone = second_as_first small read_write_symmetric writer reader desks_apart

-- Lists that write one instrument answer differently, though they name no number in common.
numbers_apart_only : ((es fs : List Entry) → clear share_number (requests_in es) (requests_in fs) ≡ true → places (call small (call small empty es).next fs).list ≡ places (call small empty fs).list) → ⊥
unfolding called
numbers_apart_only claim =
    false≢true
    (ap (λ given. eqb (get_or given 1 0) 0) (claim (entry 1 0 0 ∷ entry 4 0 0 ∷ []) (entry 1 1 0 ∷ entry 4 1 0 ∷ []) refl))
