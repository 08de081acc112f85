-- A turn of the loop over a lent list, as laws on plain values: the places before i have their answers, and playing the others from here gives what playing the whole
-- list gives. Assumes nothing.
use mathlib.Core.Path.{◌≡◌, refl, sym, ◌∙◌, ap, ap₂, subst}
use mathlib.Core.Bool.{true, false}
use mathlib.Core.List.{List, [], ◌∷◌, ◌++◌, map, map-append, append-nil}
use Prim.Native.Nat.{ℕ, suc, ◌+◌, ◌<◌, ◌≤◌}
use native.Mathlib.Omega.{arith}
use borrow.Author.Tests.{lt-ltb, le-ltb}
use lib.Dec.{ltb}
use lib.ListN.{length, get_or, set, take, drop, length-map, length-set, drop_of_length-le}
use lib.Seq.{take_all, drop-cons, take-suc-set, drop-set-lt, append_snoc}
use Rattle.rules.specs.Bench as rules
use Rattle.rules.specs.Answers.{Outcome, answered}
use Rattle.rules.specs.ReadWrite.{read_write}
use Rattle.rules.specs.Lists.{entry_request, with_answer, list_answered, after_list, call}
use Rattle.bench.specs.declared.Bench.{Bench}
use Rattle.bench.specs.Record.{viewed}
use Rattle.lists.specs.declared.Request.{Request}
use Rattle.lists.specs.Listed.{entry, ReturnsList}

-- what is read behind the list's end
abbrev pub absent : Request
absent = record { kind = 0; x = 0; y = 0; answer = 0 }

-- the record at place i
abbrev pub at : List Request → ℕ → Request
at list i = get_or list i absent

-- a record with an answer in its place
abbrev pub answering : ℕ → Request → Request
answering a q = record { kind = q.kind; x = q.x; y = q.y; answer = a }

-- the list with an answer at place i
abbrev pub answered_at : List Request → ℕ → ℕ → List Request
answered_at list i a = set list i (answering a (at list i))

-- Where the loop stands before place i: the list is `list` and the bench v. The whole call began with `start` and `asked`.
pub record Stands (start : rules.Bench) (asked : List Request) (i : ℕ) (v : rules.Bench) (list : List Request) : Type 0 where
  pub long : length list ≡ length asked
  pub answers : map entry (take i list) ++ list_answered read_write v (map entry (drop i list)) ≡ list_answered read_write start (map entry asked)
  pub bench : after_list read_write v (map entry (drop i list)) ≡ after_list read_write start (map entry asked)

pub begins : (start : rules.Bench) (asked : List Request) → Stands start asked 0 start asked
begins start asked = record { long = refl; answers = refl; bench = refl }

-- A turn plays the request at place i and writes its answer there.
pub turns : (start : rules.Bench) (asked : List Request) (i : ℕ) (v : rules.Bench) (list : List Request) → i < length list → Stands start asked i v list →
    (o : Outcome) → o ≡ answered read_write v (entry_request (entry (at list i))) → Stands start asked (i + 1) o.next (answered_at list i o.answer)
unfolding list_answered after_list
turns start asked i v list here s o given = subst (λ n. Stands start asked n o.next (answered_at list i o.answer)) (omega arith) after
  where
    q : Request
    q = at list i

    next : drop i list ≡ q ∷ drop (suc i) list
    next = drop-cons list i absent here

    left : drop (suc i) (answered_at list i o.answer) ≡ drop (suc i) list
    left = drop-set-lt (suc i) list i (answering o.answer q) (omega arith)

    after : Stands start asked (suc i) o.next (answered_at list i o.answer)
    after =
        record {
          long = length-set list i (answering o.answer q) ∙ s.long;
          answers = ap₂ (λ front rest. map entry front ++ list_answered read_write o.next (map entry rest)) (take-suc-set list i _ here) left
              ∙ ap (λ front. front ++ list_answered read_write o.next (map entry (drop (suc i) list))) (map-append entry (take i list) (answering o.answer q ∷ []))
              ∙ append_snoc (map entry (take i list)) (with_answer o.answer (entry q)) (list_answered read_write o.next (map entry (drop (suc i) list)))
              ∙ ap (λ u. map entry (take i list) ++ (with_answer u.answer (entry q) ∷ list_answered read_write u.next (map entry (drop (suc i) list)))) given
              ∙ sym (ap (λ rest. map entry (take i list) ++ list_answered read_write v (map entry rest)) next)
              ∙ s.answers;
          bench = ap (λ rest. after_list read_write o.next (map entry rest)) left
              ∙ ap (λ u. after_list read_write u.next (map entry (drop (suc i) list))) given
              ∙ sym (ap (λ rest. after_list read_write v (map entry rest)) next)
              ∙ s.bench;
        }

-- ---- the two ways that a call returns

too_long_lem : (list : List Request) → 32 < length list → ltb 32 (length (map entry list)) ≡ true
too_long_lem list long = lt-ltb 32 (length (map entry list)) (rw (length-map list entry) long)

short_enough : (list : List Request) → length list ≤ 32 → ltb 32 (length (map entry list)) ≡ false
short_enough list short = le-ltb 32 (length (map entry list)) (rw (length-map list entry) short)

-- A list that is too long is refused, and list and bench stay.
pub refuses : (b : Bench) (asked : List Request) → 32 < length asked → ReturnsList b asked (record { bench = b; answer = 11 }) asked
unfolding call
refuses b asked long = rw (too_long_lem asked long)

-- Where the loop ends the call has been played.
pub played : (b c : Bench) (asked list : List Request) → length asked ≤ 32 → Stands (viewed b) asked (length asked) (viewed c) list → ReturnsList b asked (record { bench = c; answer = 0 }) list
unfolding call list_answered after_list
played b c asked list short s = rw (short_enough asked short) (λ j. record { answer = 0; list = answers j; next = bench j })
  where
    none_left : drop (length asked) list ≡ []
    none_left = let long = s.long in drop_of_length-le list {i = length asked} (omega arith)

    all : take (length asked) list ≡ list
    all = let long = s.long in take_all (length asked) list (omega arith)

    answers : map entry list ≡ list_answered read_write (viewed b) (map entry asked)
    answers = sym (append-nil (map entry list)) ∙ sym (ap₂ (λ front rest. map entry front ++ list_answered read_write (viewed c) (map entry rest)) all none_left) ∙ s.answers

    bench : viewed c ≡ after_list read_write (viewed b) (map entry asked)
    bench = sym (ap (λ rest. after_list read_write (viewed c) (map entry rest)) none_left) ∙ s.bench
