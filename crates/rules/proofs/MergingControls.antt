-- Controls of demand 3: a merging that meets the hypotheses, computed, in which answers of all kinds but 7 come up; and the claims of demand 3
-- refuted where a hypothesis is weaker, and where numbers that drain stay in the tree.
use Rattle.std.specs.Prelude.{if◌then◌else◌}
use mathlib.Core.Path.{◌≡◌, refl, sym, ◌∙◌, ap}
use mathlib.Core.Bool.{Bool, true, false, not, ◌&&◌, ◌||◌, false≢true}
use mathlib.Core.List.{List, [], ◌∷◌}
use Prim.Native.Nat.{ℕ}
use lib.Dec.{eqb}
use borrow.Author.Tests.{eqb-false}
use Rattle.rules.specs.Tests.{all, any, from}
use Rattle.rules.specs.Bench.{Shape, head_of, Bench, empty}
use Rattle.rules.specs.Owners.{above, is_ancestor, in_family, nearest, heir, is_asker_or_ancestor, heir_in_line, granted, has_running_child, stand_at, stand_somewhere}
use Rattle.rules.specs.Requests.{Request, open_top, open_sub, ask, commit, abort, quiet, effect}
use Rattle.rules.specs.Sound.{stands_nowhere, reaches_top, sound}
use Rattle.rules.specs.Answers.{row_by, row, answer_of, accepts, step, answers, after}
use Rattle.rules.specs.Plain.{plain_empty, may_own, running_child, owns_at, family_owns, plain_answer, plain_effect, plain_next, plain_answers}
use Rattle.rules.specs.ReadWrite.{reading, writing, read_write, read, write}
use Rattle.rules.specs.Merging.{Apart, Symmetric, Merging, done, first, second, firsts, seconds}
use Rattle.rules.proofs.ApartTest.{clear, share_number, share_instrument, meet, owners_meet, clear_apart, clear_owners_apart}
use Rattle.rules.proofs.DemandThree.{merging_of_owners, record_of_owners, any_merging, same_record, read_write_symmetric}

-- six actions, two instruments, and two modes that conflict as given
abbrev six_with : (ℕ → ℕ → Bool) → Shape
six_with conflict = record { actions = 6; instruments = 2; modes = 2; conflict = conflict }

abbrev six : Shape
six = six_with read_write.conflict

-- the answers to requests from an empty bench: what opens it opens all that they compute with
from_empty : Shape → List Request → List ℕ
unfolding firsts seconds all any above is_ancestor in_family nearest heir is_asker_or_ancestor heir_in_line granted has_running_child stand_at stand_somewhere effect stands_nowhere reaches_top sound row_by answer_of step answers after
from_empty sh rs = answers sh empty rs

-- the answers of the plain machine, likewise
from_plain : Shape → List Request → List ℕ
unfolding all any may_own running_child owns_at family_owns plain_answer plain_effect plain_next plain_answers
from_plain sh rs = plain_answers sh plain_empty rs

-- ---- a merging

-- 1 and 2 run under 0. 1 reads instrument 0 and writes instrument 1, which 2 may read once 1 has committed. 2 is aborted and drains, and keeps 0 from
-- writing instrument 1 until that is quiet.
abbrev writer : List Request
writer =
    open_top 0
    ∷ open_sub 1 0
    ∷ open_sub 2 0
    ∷ read 1 0
    ∷ write 1 1
    ∷ read 2 1
    ∷ commit 1
    ∷ read 2 1
    ∷ write 2 2
    ∷ commit 0
    ∷ abort 2
    ∷ write 0 1
    ∷ quiet 0 1
    ∷ quiet 2 1
    ∷ write 0 1
    ∷ commit 0
    ∷ []

-- 4 under 3 reads instrument 0 and is aborted. It drains to the end, and 3 reads beside it.
abbrev reader : List Request
reader = open_top 3 ∷ open_sub 4 3 ∷ read 4 0 ∷ read 3 0 ∷ abort 4 ∷ read 3 0 ∷ open_top 3 ∷ read 5 0 ∷ open_top 6 ∷ commit 3 ∷ open_top 4 ∷ []

abbrev woven : List Request
woven =
    open_top 3
    ∷ open_top 0
    ∷ open_sub 1 0
    ∷ open_sub 4 3
    ∷ read 4 0
    ∷ open_sub 2 0
    ∷ read 1 0
    ∷ read 3 0
    ∷ write 1 1
    ∷ abort 4
    ∷ read 2 1
    ∷ commit 1
    ∷ read 3 0
    ∷ open_top 3
    ∷ read 2 1
    ∷ write 2 2
    ∷ read 5 0
    ∷ open_top 6
    ∷ commit 0
    ∷ abort 2
    ∷ write 0 1
    ∷ commit 3
    ∷ quiet 0 1
    ∷ quiet 2 1
    ∷ write 0 1
    ∷ open_top 4
    ∷ commit 0
    ∷ []

weaving : Merging writer reader woven
weaving =
    second
    (first (first (second (second (first (first (second (first (second (first (first (second (second
    (first (first (second (second (first (first (first (second (first (first (first (second (first done))))))))))))))))))))))))))

reader_apart : Apart six writer reader
reader_apart = clear_apart six writer reader refl

writer_answers : List ℕ
writer_answers = 0 ∷ 0 ∷ 0 ∷ 0 ∷ 0 ∷ 6 ∷ 0 ∷ 0 ∷ 2 ∷ 5 ∷ 0 ∷ 6 ∷ 10 ∷ 0 ∷ 0 ∷ 0 ∷ []

reader_answers : List ℕ
reader_answers = 0 ∷ 0 ∷ 0 ∷ 5 ∷ 0 ∷ 0 ∷ 3 ∷ 4 ∷ 1 ∷ 0 ∷ 3 ∷ []

-- what demand 3 equates, computed: in the merging, and alone
woven_computed :
    (firsts weaving (answers six empty woven) ≡ writer_answers) × (seconds weaving (answers six empty woven) ≡ reader_answers)
    × (answers six empty writer ≡ writer_answers) × (answers six empty reader ≡ reader_answers)
unfolding weaving writer_answers reader_answers from_empty
woven_computed = (refl, refl, refl, refl)

-- the same by demand 3, whose hypotheses all hold
woven_alone :
    (firsts weaving (answers six empty woven) ≡ answers six empty writer)
    × (seconds weaving (answers six empty woven) ≡ answers six empty reader)
woven_alone = any_merging six read_write_symmetric writer reader woven reader_apart weaving

-- ---- weaker hypotheses

-- Demand 3 from bench b, for lists of which no request of the first meets one of the second; and from an empty bench.
abbrev AnsweredFrom : Bench → Shape → (Request → Request → Bool) → Type 0
AnsweredFrom b sh meets =
    (xs ys zs : List Request) → clear meets xs ys ≡ true → (m : Merging xs ys zs) →
    (firsts m (answers sh b zs) ≡ answers sh b xs) × (seconds m (answers sh b zs) ≡ answers sh b ys)

abbrev Answered : Shape → (Request → Request → Bool) → Type 0
Answered = AnsweredFrom empty

abbrev SameRecord : Shape → (Request → Request → Bool) → Type 0
SameRecord sh meets =
    (xs ys zs others : List Request) → clear meets xs ys ≡ true → Merging xs ys zs → Merging xs ys others →
    after sh empty zs ≡ after sh empty others

-- with nothing weaker both hold
claims_hold : (sh : Shape) → Symmetric sh → Answered sh (meet sh) × SameRecord sh (meet sh)
claims_hold sh symmetric = (
  λ xs ys zs ok. any_merging sh symmetric xs ys zs (clear_apart sh xs ys ok),
  λ xs ys zs others ok. same_record sh symmetric xs ys zs others (clear_apart sh xs ys ok),
)

-- top action k, and its request
abbrev opened : ℕ → Request → List Request
opened k r = open_top k ∷ r ∷ []

-- two such lists in turn, and the second's request before the first's
abbrev in_turn : Request → Request → List Request
in_turn r s = open_top 0 ∷ open_top 1 ∷ r ∷ s ∷ []

takes_turns : (r s : Request) → Merging (opened 0 r) (opened 1 s) (in_turn r s)
takes_turns r s = first (second (first (second done)))

comes_later : (r s : Request) → Merging (opened 0 r) (opened 1 s) (in_turn s r)
comes_later r s = first (second (second (first done)))

-- a request that is refused in the merging and accepted alone
refused : (x : ℕ) → eqb x 0 ≡ false → ◌≡◌ {A = List ℕ} (0 ∷ x ∷ []) (0 ∷ 0 ∷ []) → ⊥
refused x n e = eqb-false x 0 n (cc)

-- a request that is accepted in the merging and refused alone
only_merged : (x : ℕ) → eqb x 0 ≡ false → ◌≡◌ {A = List ℕ} (0 ∷ []) (x ∷ []) → ⊥
only_merged x n e = eqb-false x 0 n (cc)

-- Request r of 0, accepted alone, is refused with x after s of 1.
later_refused : (meets : Request → Request → Bool) (r s : Request) → clear meets (opened 0 r) (opened 1 s) ≡ true →
    (x : ℕ) → eqb x 0 ≡ false → firsts (comes_later r s) (answers six empty (in_turn s r)) ≡ 0 ∷ x ∷ [] →
    answers six empty (opened 0 r) ≡ 0 ∷ 0 ∷ [] → Answered six meets → ⊥
later_refused meets r s ok x n merged alone claim =
    refused x n (sym merged ∙ ((claim (opened 0 r) (opened 1 s) (in_turn s r) ok (comes_later r s)).0 ∙ alone))

-- Instruments don't count, and both write instrument 0.
both_write : Answered six share_number → ⊥
unfolding from_empty comes_later
both_write = later_refused share_number (write 0 0) (write 1 0) refl 6 refl refl refl

-- Of instruments only those count that both write, and one writes instrument 0 where the other reads it.
abbrev share_number_or_write : Request → Request → Bool
share_number_or_write x y = share_number x y || share_instrument (λ m held. eqb m writing && eqb held writing) x y

one_writes : Answered six share_number_or_write → ⊥
unfolding from_empty comes_later
one_writes = later_refused share_number_or_write (write 0 0) (read 1 0) refl 6 refl refl refl

-- Numbers don't count, and the second list aborts the first's action.
common_number : Answered six (share_instrument read_write.conflict) → ⊥
unfolding from_empty comes_later
common_number = later_refused (share_instrument read_write.conflict) (write 0 0) (abort 0) refl 4 refl refl refl

-- the number that a request is for: an open sub's is the one that it opens, and its parent isn't counted
abbrev own_number : Request → ℕ
own_number (open_top n) = n
own_number (open_sub n p) = n
own_number (ask m a i) = a
own_number (commit a) = a
own_number (abort a) = a
own_number (quiet a i) = a

abbrev share_own_number : Request → Request → Bool
share_own_number x y = eqb (own_number x) (own_number y) || share_instrument read_write.conflict x y

-- An open sub doesn't name its parent, and the second list opens 1 under the first's 0: merged it gets 0, alone 4.
parent_not_counted : Answered six share_own_number → ⊥
unfolding from_empty
parent_not_counted claim =
    only_merged 4 refl (claim (open_top 0 ∷ []) (open_sub 1 0 ∷ []) (open_top 0 ∷ open_sub 1 0 ∷ []) refl (first (second done))).1

-- Such lists are not apart, and neither are lists that both write an instrument.
parent_shared : Apart six (open_top 0 ∷ []) (open_sub 1 0 ∷ []) → ⊥
parent_shared apart = apart.numbers 0 refl refl

instrument_written_by_both : Apart six (opened 0 (write 0 0)) (opened 1 (write 1 0)) → ⊥
instrument_written_by_both apart = false≢true (sym (apart.instruments 0 writing writing refl refl))

-- Write conflicts with a held read alone: a table that isn't symmetric, and the second list's write is refused.
abbrev lopsided : Shape
lopsided = six_with (λ asked held. eqb asked writing && eqb held reading)

no_symmetry : Answered lopsided (meet lopsided) → ⊥
unfolding from_empty takes_turns
no_symmetry claim =
    refused 6 refl (claim (opened 0 (read 0 0)) (opened 1 (write 1 0)) (in_turn (read 0 0) (write 1 0)) refl (takes_turns (read 0 0) (write 1 0))).1

-- Where both write instrument 0, the record shows whose turn was first.
order_shows : SameRecord six share_number → ⊥
unfolding from_empty
order_shows claim =
    false≢true
    (sym
    (ap (λ b. b.stands writing 0 0)
    (claim (opened 0 (write 0 0)) (opened 1 (write 1 0)) (in_turn (write 0 0) (write 1 0)) (in_turn (write 1 0) (write 0 0)) refl
    (takes_turns (write 0 0) (write 1 0))
    (comes_later (write 0 0) (write 1 0)))))

-- ---- quiet

abbrev is_quiet : Request → Bool
is_quiet (open_top n) = false
is_quiet (open_sub n p) = false
is_quiet (ask m a i) = false
is_quiet (commit a) = false
is_quiet (abort a) = false
is_quiet (quiet a i) = true

-- a number that quiet names isn't counted
abbrev share_number_but_quiet : Request → Request → Bool
share_number_but_quiet x y = not (is_quiet x || is_quiet y) && share_number x y

-- quiet taken for a read
abbrev as_read : Request → Request
as_read (open_top n) = open_top n
as_read (open_sub n p) = open_sub n p
as_read (ask m a i) = ask m a i
as_read (commit a) = commit a
as_read (abort a) = abort a
as_read (quiet a i) = read a i

abbrev share_instrument_as_read : Request → Request → Bool
share_instrument_as_read x y = share_instrument read_write.conflict (as_read x) (as_read y)

-- 0 reads instrument 0 and is aborted, and the second list says that it is quiet: merged that gets 0, alone 10.
abbrev aborted : List Request
aborted = open_top 0 ∷ read 0 0 ∷ abort 0 ∷ []

abbrev says_quiet : List Request
says_quiet = quiet 0 0 ∷ []

abbrev aborted_then_quiet : List Request
aborted_then_quiet = open_top 0 ∷ read 0 0 ∷ abort 0 ∷ quiet 0 0 ∷ []

quiet_last : Merging aborted says_quiet aborted_then_quiet
quiet_last = first (first (first (second done)))

-- So quiet has to name its number where it's taken for a read,
quiet_number_not_counted : Answered six (λ x y. share_number_but_quiet x y || share_instrument_as_read x y) → ⊥
unfolding from_empty quiet_last
quiet_number_not_counted claim = only_merged 10 refl (claim aborted says_quiet aborted_then_quiet refl quiet_last).1

-- and where it asks in every mode: on a table on which no modes conflict any two lists may ask for the same instrument.
quiet_number_not_counted_in_peace : Answered (six_with (λ asked held. false)) share_number_but_quiet → ⊥
unfolding from_empty quiet_last
quiet_number_not_counted_in_peace claim = only_merged 10 refl (claim aborted says_quiet aborted_then_quiet refl quiet_last).1

-- Such lists are not apart, on any table.
quiet_number_shared : (sh : Shape) → Apart sh aborted says_quiet → ⊥
quiet_number_shared sh apart = apart.numbers 0 refl refl

-- From an empty bench it is enough that quiet names its number: its instrument needn't count, since a group stands only where its own list asked.
quiet_instrument_not_counted : (sh : Shape) → Symmetric sh → Answered sh (owners_meet sh) × SameRecord sh (owners_meet sh)
quiet_instrument_not_counted sh symmetric = (
  λ xs ys zs ok. merging_of_owners sh symmetric xs ys zs (clear_owners_apart sh xs ys ok),
  λ xs ys zs others ok. record_of_owners sh symmetric xs ys zs others (clear_owners_apart sh xs ys ok),
)

-- On a sound bench on which a number drains already it isn't. Here 0 drains and owns instrument 0 for writing, and 1 runs.
abbrev draining_writer : Bench
draining_writer = after six empty (open_top 0 ∷ write 0 0 ∷ abort 0 ∷ open_top 1 ∷ [])

draining_writer_sound : sound six draining_writer ≡ true
unfolding from_empty
draining_writer_sound = refl

-- Quiet is taken for a read, and 1 reads instrument 0 after it: merged the read gets 0, alone 6.
quiet_as_read : AnsweredFrom draining_writer six (λ x y. share_number x y || share_instrument_as_read x y) → ⊥
unfolding from_empty
quiet_as_read claim =
    only_merged 6 refl (claim says_quiet (read 1 0 ∷ []) (quiet 0 0 ∷ read 1 0 ∷ []) refl (first (second done))).1

-- Such lists are not apart: quiet isn't a read.
quiet_is_no_read : Apart six says_quiet (read 1 0 ∷ []) → ⊥
quiet_is_no_read apart = false≢true (sym (apart.instruments 0 writing reading refl refl))

-- ---- numbers that drain and stay in the tree

-- what an accepted request does where a number that drains keeps its parent
left_in_tree : Bench → Request → Bench
left_in_tree b r =
    let next = effect six b r in
    record { state = next.state; parent = λ k. from (head_of (next.state k)) (next.parent k) (λ h. b.parent k); stands = next.stands }

-- the answers by the rows alone: no record is taken for unsound
answers_left_in_tree : Bench → List Request → List ℕ
answers_left_in_tree b [] = []
answers_left_in_tree b (r ∷ rs) = let a = row six b r in a ∷ answers_left_in_tree (if accepts a then left_in_tree b r else b) rs

-- 1 under 0 writes instrument 0 and is aborted. 0 commits, and top 2 would write it too.
abbrev child_writes : List Request
child_writes = open_top 0 ∷ open_sub 1 0 ∷ write 1 0 ∷ []

abbrev child_drains : List Request
child_drains = open_top 0 ∷ open_sub 1 0 ∷ write 1 0 ∷ abort 1 ∷ commit 0 ∷ open_top 2 ∷ write 2 0 ∷ []

-- With its parent kept, the aborted 1 makes the record unsound.
left_in_tree_unsound : sound six (left_in_tree (after six empty child_writes) (abort 1)) ≡ false
unfolding from_empty left_in_tree
left_in_tree_unsound = refl

-- Were such a record taken for sound, the commit of 0 would take 1 along, and 2 would be given what still turns. Moss's rules, the plain machine, give it
-- a 6, and so do ours.
left_in_tree_granted : ((rs : List Request) → answers_left_in_tree empty rs ≡ plain_answers six plain_empty rs) → ⊥
unfolding from_empty from_plain left_in_tree answers_left_in_tree
left_in_tree_granted claim =
    let same : ◌≡◌ {A = List ℕ} (0 ∷ 0 ∷ 0 ∷ 0 ∷ 0 ∷ 0 ∷ 0 ∷ []) (0 ∷ 0 ∷ 0 ∷ 0 ∷ 0 ∷ 0 ∷ 6 ∷ []) = claim child_drains in
    eqb-false 6 0 refl (cc)

out_of_tree_refused : answers six empty child_drains ≡ plain_answers six plain_empty child_drains
unfolding from_empty from_plain
out_of_tree_refused = refl
