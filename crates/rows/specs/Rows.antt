-- The rows of document 01's table, of any bytes: the first that applies is the answer. What is said of running children and of owners is a parameter.
use Rattle.std.specs.Prelude.{Bool, not, ◌&&◌, ◌||◌, List, ℕ, ◌+◌, ◌%◌, eqb, leb, get_or, if◌then◌else◌}
use Rattle.sets.specs.Sets.{member}
use Rattle.rules.specs.Tests.{any}
use Rattle.rules.specs.Requests.{open_top, open_sub, abort}
use Rattle.rules.specs.Answers.{row}
use Rattle.tables.specs.Tree.{bare, tree_shape}
use Rattle.views.specs.Tree.{met_from}
use Rattle.views.specs.Reach.{all_held}

-- open top n
abbrev pub open_top_row : List ℕ → ℕ → ℕ
open_top_row states n = row (tree_shape 64) (bare 64 states) (open_top n)

-- open sub n under p
abbrev pub open_sub_row : List ℕ → ℕ → ℕ → ℕ
open_sub_row states n p = row (tree_shape 64) (bare 64 states) (open_sub n p)

-- abort a
abbrev pub abort_row : List ℕ → ℕ → ℕ
abort_row states a = row (tree_shape 64) (bare 64 states) (abort a)

-- quiet a, i, where `stands` is said of those that drain under a
abbrev pub quiet_row : List ℕ → Bool → ℕ → ℕ → ℕ
quiet_row states stands a i =
    if leb 64 a then 1
    else if leb 128 i then 2
    else if not (eqb (get_or states a 0) (3 + a)) || not stands then 10
    else 0

-- commit a, where `busy` is said of a's running children
abbrev pub commit_row : List ℕ → Bool → ℕ → ℕ
commit_row states busy a =
    if leb 64 a then 1
    else if not (eqb (get_or states a 0) 1) then 4
    else if busy then 5
    else 0

-- read or write a, i, where `held` is said of the owners
abbrev pub ask_row : List ℕ → Bool → Bool → ℕ → ℕ → ℕ
ask_row states busy held a i =
    if leb 64 a then 1
    else if leb 128 i then 2
    else if not (eqb (get_or states a 0) 1) then 4
    else if busy then 5
    else if not held then 6
    else 0

-- a number that runs has a's as its parent's byte
abbrev pub busy_in : List ℕ → List ℕ → ℕ → Bool
busy_in parents states a = any 64 (λ k. eqb (get_or states k 0) 1 && eqb (get_or parents k 0) (a % 64 + 1))

-- ---- what is said of owners

-- The line that is handed over; an empty one stands for a and what is met going up from it.
abbrev pub line_for : List ℕ → ℕ → ℕ → ℕ → Bool
line_for parents line a = if eqb line 0 then met_from parents (a % 64) else member line

-- going up from each owner, one of that line is met before any other number that runs
abbrev pub held_for : List ℕ → List ℕ → ℕ → ℕ → ℕ → Bool
held_for parents states line owners a = all_held parents states (line_for parents line a) owners

-- ---- rows by the frame's code; any code but the two that are meant is malformed

-- open top or open sub
abbrev pub open_answer : ℕ → ℕ → ℕ → List ℕ → ℕ
open_answer code x y states =
    if eqb code 1 then open_top_row states x
    else if eqb code 2 then open_sub_row states x y
    else 8

-- commit or abort
abbrev pub end_answer : ℕ → Bool → ℕ → List ℕ → ℕ
end_answer code busy x states =
    if eqb code 5 then commit_row states busy x
    else if eqb code 6 then abort_row states x
    else 8
