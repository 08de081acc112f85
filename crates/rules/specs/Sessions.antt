-- The sessions that document 01 marks (P), with the answers that they have since order 2 of document 02, and sessions of order 2, each from an empty bench:
-- requests with their answers. Where the document gives none, the request is accepted.
use Rattle.std.specs.Prelude.{List, [], ◌∷◌, ◌++◌, ℕ}
use Rattle.rules.specs.Requests.{Request, open_top, open_sub, commit, abort, quiet}
use Rattle.rules.specs.ReadWrite.{read, write}

infixr 10 ◌gives◌
-- a request and its answer
pub data Line : Type 0 where
  ◌gives◌ : Request → ℕ → Line

-- read 0, 0: 4. Read 0, 128: 2. Read 64, 128: 1.
precedence : List Line
precedence = (read 0 0 gives 4) ∷ (read 0 128 gives 2) ∷ (read 64 128 gives 1) ∷ []

-- open top 63: 0. Open top 64: 1.
edge_of_numbers : List Line
edge_of_numbers = (open_top 63 gives 0) ∷ (open_top 64 gives 1) ∷ []

-- open sub 7 under 7: 4 while 7 is free, 3 while 7 runs.
under_itself : List Line
under_itself = (open_sub 7 7 gives 4) ∷ (open_top 7 gives 0) ∷ (open_sub 7 7 gives 3) ∷ []

-- tops 1 and 9 both read 5: 0, 0. Then write 1, 5: 6.
two_readers : List Line
two_readers = (open_top 1 gives 0) ∷ (open_top 9 gives 0) ∷ (read 1 5 gives 0) ∷ (read 9 5 gives 0) ∷ (write 1 5 gives 6) ∷ []

-- tops 1 and 9; write 1, 127: 0; write 9, 127: 6; write 9, 128: 2.
edge_of_instruments : List Line
edge_of_instruments =
    (open_top 1 gives 0) ∷ (open_top 9 gives 0) ∷ (write 1 127 gives 0) ∷ (write 9 127 gives 6) ∷ (write 9 128 gives 2) ∷ []

-- the whole trace of the section on trace lines; since order 2, 3 drains at the end
unfoldable pub whole_trace : List Line
whole_trace =
    (open_top 1 gives 0)
    ∷ (open_sub 2 1 gives 0)
    ∷ (open_sub 3 1 gives 0)
    ∷ (write 2 5 gives 0)
    ∷ (read 3 5 gives 6)
    ∷ (commit 2 gives 0)
    ∷ (read 3 5 gives 0)
    ∷ (write 3 5 gives 0)
    ∷ (commit 1 gives 5)
    ∷ (abort 3 gives 0)
    ∷ (write 1 5 gives 6)
    ∷ (commit 1 gives 0)
    ∷ []

-- At its end 3 still drains, at instrument 5 alone.
still_drains : List Line
still_drains = whole_trace ++ ((open_top 3 gives 3) ∷ (quiet 3 4 gives 10) ∷ (quiet 3 5 gives 0) ∷ (open_top 3 gives 0) ∷ [])

-- top 1; 2 and 3 under 1; 4 under 3; write 2, 5: 0; write 4, 5: 6; commit 2; write 4, 5: 0.
commit_reaches_nephews : List Line
commit_reaches_nephews =
    (open_top 1 gives 0)
    ∷ (open_sub 2 1 gives 0)
    ∷ (open_sub 3 1 gives 0)
    ∷ (open_sub 4 3 gives 0)
    ∷ (write 2 5 gives 0)
    ∷ (write 4 5 gives 6)
    ∷ (commit 2 gives 0)
    ∷ (write 4 5 gives 0)
    ∷ []

-- top 1, 2 under 1; read 1, 5: 5; commit 1: 5; abort 1: 0.
no_parent_child_parallelism : List Line
no_parent_child_parallelism =
    (open_top 1 gives 0) ∷ (open_sub 2 1 gives 0) ∷ (read 1 5 gives 5) ∷ (commit 1 gives 5) ∷ (abort 1 gives 0) ∷ []

-- top 1, 2 under 1 opened after write 1, 5: 0; write 2, 5: 0; abort 2; top 9; write 9, 5: 6.
abort_keeps_ancestors_lock : List Line
abort_keeps_ancestors_lock =
    (open_top 1 gives 0)
    ∷ (write 1 5 gives 0)
    ∷ (open_sub 2 1 gives 0)
    ∷ (write 2 5 gives 0)
    ∷ (abort 2 gives 0)
    ∷ (open_top 9 gives 0)
    ∷ (write 9 5 gives 6)
    ∷ []

-- top 1, 2 under 1, 3 under 2; write 3, 5; commit 3; abort 2; top 9; write 9, 5: 6 until 5 is quiet for 2.
abort_takes_committed_children : List Line
abort_takes_committed_children =
    (open_top 1 gives 0)
    ∷ (open_sub 2 1 gives 0)
    ∷ (open_sub 3 2 gives 0)
    ∷ (write 3 5 gives 0)
    ∷ (commit 3 gives 0)
    ∷ (abort 2 gives 0)
    ∷ (open_top 9 gives 0)
    ∷ (write 9 5 gives 6)
    ∷ (quiet 2 5 gives 0)
    ∷ (write 9 5 gives 0)
    ∷ []

-- top 1, 2 under 1; commit 2; open top 2: 3; commit 1; open top 2: 0.
committed_number_stays_in_use : List Line
committed_number_stays_in_use =
    (open_top 1 gives 0)
    ∷ (open_sub 2 1 gives 0)
    ∷ (commit 2 gives 0)
    ∷ (open_top 2 gives 3)
    ∷ (commit 1 gives 0)
    ∷ (open_top 2 gives 0)
    ∷ []

-- ---- document 02, order 2

-- The whole family drains under the aborted action, those in no set too. Quiet is said of the head and of an instrument where its group stands.
family_drains_together : List Line
family_drains_together =
    (open_top 1 gives 0)
    ∷ (open_sub 2 1 gives 0)
    ∷ (open_sub 3 1 gives 0)
    ∷ (write 2 5 gives 0)
    ∷ (abort 1 gives 0)
    ∷ (open_top 3 gives 3)
    ∷ (quiet 2 5 gives 10)
    ∷ (quiet 1 4 gives 10)
    ∷ (quiet 1 5 gives 0)
    ∷ (open_top 3 gives 0)
    ∷ []

-- A drained child has left the tree: its parent's abort doesn't take it.
drained_child_has_left : List Line
drained_child_has_left =
    (open_top 1 gives 0)
    ∷ (open_sub 2 1 gives 0)
    ∷ (write 2 5 gives 0)
    ∷ (abort 2 gives 0)
    ∷ (abort 1 gives 0)
    ∷ (open_top 1 gives 0)
    ∷ (quiet 2 5 gives 0)
    ∷ (open_top 2 gives 0)
    ∷ []

-- What a draining number holds isn't its former ancestors': one of them that owns the instrument itself is blocked too.
ancestor_is_blocked : List Line
ancestor_is_blocked =
    (open_top 1 gives 0)
    ∷ (write 1 5 gives 0)
    ∷ (open_sub 2 1 gives 0)
    ∷ (write 2 5 gives 0)
    ∷ (abort 2 gives 0)
    ∷ (write 1 5 gives 6)
    ∷ (quiet 2 5 gives 0)
    ∷ (write 1 5 gives 0)
    ∷ []

-- A draining reader blocks writers only.
draining_reader : List Line
draining_reader =
    (open_top 1 gives 0) ∷ (read 1 5 gives 0) ∷ (abort 1 gives 0) ∷ (open_top 2 gives 0) ∷ (read 2 5 gives 0) ∷ (write 2 5 gives 6) ∷ []

-- Quiet has 1 and 2 before 10, and neither 3, 4 nor 5.
quiet_refused : List Line
quiet_refused = (quiet 0 0 gives 10) ∷ (quiet 64 128 gives 1) ∷ (quiet 0 128 gives 2) ∷ []

unfoldable pub sessions : List (List Line)
unfolding precedence edge_of_numbers under_itself two_readers edge_of_instruments whole_trace still_drains commit_reaches_nephews no_parent_child_parallelism abort_keeps_ancestors_lock abort_takes_committed_children committed_number_stays_in_use family_drains_together drained_child_has_left ancestor_is_blocked draining_reader quiet_refused
sessions =
    precedence
    ∷ edge_of_numbers
    ∷ under_itself
    ∷ two_readers
    ∷ edge_of_instruments
    ∷ whole_trace
    ∷ still_drains
    ∷ commit_reaches_nephews
    ∷ no_parent_child_parallelism
    ∷ abort_keeps_ancestors_lock
    ∷ abort_takes_committed_children
    ∷ committed_number_stays_in_use
    ∷ family_drains_together
    ∷ drained_child_has_left
    ∷ ancestor_is_blocked
    ∷ draining_reader
    ∷ quiet_refused
    ∷ []
