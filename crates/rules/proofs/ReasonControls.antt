-- Reasons computed on small benches, and stronger claims refuted: whom an answer names need not stand in a set itself, and need not run. Ten actions and six
-- instruments, and the modes of read and write.
use mathlib.Core.Path.{◌≡◌, refl}
use mathlib.Core.Bool.{Bool, true, false, ◌||◌}
use mathlib.Core.List.{List, [], ◌∷◌}
use mathlib.Core.Option.{Option, none, some}
use Prim.Native.Nat.{ℕ}
use Rattle.rules.specs.Tests.{all, any}
use Rattle.rules.specs.Bench.{Shape, committed, Bench, is_running, empty}
use Rattle.rules.specs.Owners.{above, is_ancestor, in_family, nearest, heir, is_owner, is_asker_or_ancestor, heir_in_line, granted, has_running_child, stand_at, stand_somewhere}
use Rattle.rules.specs.Requests.{Request, open_top, open_sub, commit, abort, quiet, effect}
use Rattle.rules.specs.Sound.{stands_nowhere, reaches_top, sound}
use Rattle.rules.specs.Answers.{row_by, answer_of, step, after}
use Rattle.rules.specs.Reasons.{smallest, offending, child, blocks, blocker, named, owns_asked, Reason, reason_for, reason_of}
use Rattle.rules.specs.ReadWrite.{reading, writing, read_write, read, write}
use Rattle.rules.proofs.Tests.{clash}

few : Shape
few = record { actions = 10; instruments = 6; modes = 2; conflict = read_write.conflict }

-- a reason as a reader has it: the answer, whom it names, whether that one owns the instrument for reading and for writing, and whether it drains
data Says : Type 0 where
  says : ℕ → Option ℕ → Bool → Bool → Bool → Says

seen : Reason → Says
seen e = says e.answer e.names (e.owns reading) (e.owns writing) e.drains

reached : List Request → Bench
unfolding few all any above is_ancestor in_family nearest heir is_asker_or_ancestor heir_in_line granted has_running_child stand_at stand_somewhere effect stands_nowhere reaches_top sound row_by answer_of step after
reached rs = after few empty rs

-- what a request gets after others, from an empty bench
reason_after : List Request → Request → Says
unfolding reached seen is_owner smallest offending child blocks blocker named owns_asked reason_for reason_of
reason_after rs r = seen (reason_of few (reached rs) (some r))

-- ---- 6

-- Top 1; 2 and 3 under 1; write 2, 5; read 3, 5: 2 blocks, writing.
sibling_blocks : reason_after (open_top 1 ∷ open_sub 2 1 ∷ open_sub 3 1 ∷ write 2 5 ∷ []) (read 3 5) ≡ says 6 (some 2) false true false
unfolding reason_after
sibling_blocks = refl

-- 2 reads too: it owns the instrument for both, though only writing conflicts with a read.
sibling_owns_both : reason_after (open_top 1 ∷ open_sub 2 1 ∷ open_sub 3 1 ∷ write 2 5 ∷ read 2 5 ∷ []) (read 3 5) ≡ says 6 (some 2) true true false
unfolding reason_after
sibling_owns_both = refl

-- Tops 4, 1 and 2 read 5; write 4, 5: 1 and 2 block, and 1 is the smaller.
smaller_of_two : reason_after (open_top 4 ∷ open_top 1 ∷ open_top 2 ∷ read 4 5 ∷ read 2 5 ∷ read 1 5 ∷ []) (write 4 5) ≡ says 6 (some 1) true false false
unfolding reason_after
smaller_of_two = refl

-- Tops 1 and 2 read 5; write 1, 5: the asker owns it too, and 2 is named.
asker_not_named : reason_after (open_top 1 ∷ open_top 2 ∷ read 1 5 ∷ read 2 5 ∷ []) (write 1 5) ≡ says 6 (some 2) true false false
unfolding reason_after
asker_not_named = refl

-- Top 1; 2 under 1; 4 under 2; write 4, 5; commit 4; 3 under 1
inherited : List Request
inherited = open_top 1 ∷ open_sub 2 1 ∷ open_sub 4 2 ∷ write 4 5 ∷ commit 4 ∷ open_sub 3 1 ∷ []

-- Read 3, 5: 2 blocks, which inherited the lock of 4.
heir_blocks : reason_after inherited (read 3 5) ≡ says 6 (some 2) false true false
unfolding reason_after inherited
heir_blocks = refl

-- So whoever is named need not stand in a set itself: that stronger claim is false.
named_need_not_stand : ((b : Bench) (a i h : ℕ) → sound few b ≡ true → blocker few b (read a i) ≡ some h → (b.stands reading i h || b.stands writing i h) ≡ true) → ⊥
unfolding reason_after inherited
named_need_not_stand claim = clash false (claim (reached inherited) 3 5 2 refl refl) refl

-- ---- 6, where an owner drains

-- Top 9; 2 under 9; write 2, 5; abort 9; top 1
head_drains : List Request
head_drains = open_top 9 ∷ open_sub 2 9 ∷ write 2 5 ∷ abort 9 ∷ open_top 1 ∷ []

-- Read 1, 5: the head 9 is named, writing and draining, and not the smallest member of its group.
head_named : reason_after head_drains (read 1 5) ≡ says 6 (some 9) false true true
unfolding reason_after head_drains
head_named = refl

-- So whoever is named need not run: that stronger claim, true where nobody drains, is false.
named_need_not_run : ((b : Bench) (a i h : ℕ) → sound few b ≡ true → blocker few b (read a i) ≡ some h → is_running (b.state h) ≡ true) → ⊥
unfolding reason_after head_drains
named_need_not_run claim = clash false (claim (reached head_drains) 1 5 9 refl refl) refl

-- Tops 2 and 3 read 5, and one of them is aborted; write 4, 5: 2 is the smaller, draining or running.
smaller_drains : reason_after (open_top 2 ∷ open_top 3 ∷ open_top 4 ∷ read 2 5 ∷ read 3 5 ∷ abort 2 ∷ []) (write 4 5) ≡ says 6 (some 2) true false true
unfolding reason_after
smaller_drains = refl

smaller_runs : reason_after (open_top 2 ∷ open_top 3 ∷ open_top 4 ∷ read 2 5 ∷ read 3 5 ∷ abort 3 ∷ []) (write 4 5) ≡ says 6 (some 2) true false false
unfolding reason_after
smaller_runs = refl

-- Top 1 writes 5; 2 under 1 writes it too; abort 2; write 1, 5: what drained out of the asker's own family blocks it, and the asker isn't named.
own_child_blocks : reason_after (open_top 1 ∷ write 1 5 ∷ open_sub 2 1 ∷ write 2 5 ∷ abort 2 ∷ []) (write 1 5) ≡ says 6 (some 2) false true true
unfolding reason_after
own_child_blocks = refl

-- ---- 10

-- a number that runs, a member of a group, and a head whose group isn't in the instrument's sets
not_draining_named : reason_after (open_top 1 ∷ read 1 5 ∷ []) (quiet 1 5) ≡ says 10 (some 1) false false false
unfolding reason_after
not_draining_named = refl

member_named : reason_after head_drains (quiet 2 5) ≡ says 10 (some 2) false false false
unfolding reason_after head_drains
member_named = refl

elsewhere_named : reason_after head_drains (quiet 9 4) ≡ says 10 (some 9) false false false
unfolding reason_after head_drains
elsewhere_named = refl

-- ---- 5

-- Top 1; 2 and 3 under 1; commit 2; commit 1: of the children 3 alone runs.
running_child_named : reason_after (open_top 1 ∷ open_sub 2 1 ∷ open_sub 3 1 ∷ commit 2 ∷ []) (commit 1) ≡ says 5 (some 3) false false false
unfolding reason_after
running_child_named = refl

-- ---- 1 to 4, 0 and 7

-- of two numbers that are too high the first in the frame, else the one that is
first_of_two : reason_after [] (open_sub 12 11) ≡ says 1 (some 12) false false false
unfolding reason_after
first_of_two = refl

parent_too_high : reason_after [] (open_sub 2 11) ≡ says 1 (some 11) false false false
unfolding reason_after
parent_too_high = refl

no_instrument : reason_after [] (read 0 6) ≡ says 2 (some 6) false false false
unfolding reason_after
no_instrument = refl

quiet_no_instrument : reason_after [] (quiet 0 6) ≡ says 2 (some 6) false false false
unfolding reason_after
quiet_no_instrument = refl

not_free : reason_after (open_top 1 ∷ []) (open_sub 1 0) ≡ says 3 (some 1) false false false
unfolding reason_after
not_free = refl

draining_not_free : reason_after head_drains (open_top 2) ≡ says 3 (some 2) false false false
unfolding reason_after head_drains
draining_not_free = refl

parent_not_running : reason_after [] (open_sub 2 0) ≡ says 4 (some 0) false false false
unfolding reason_after
parent_not_running = refl

accepted_names_nobody : reason_after [] (open_top 1) ≡ says 0 none false false false
unfolding reason_after
accepted_names_nobody = refl

-- a committed top
unsound_names_nobody : seen (reason_of few (record { state = λ k. committed; parent = λ k. none; stands = λ m i k. false }) (some (open_top 1))) ≡ says 7 none false false false
unfolding reason_after
unsound_names_nobody = refl
