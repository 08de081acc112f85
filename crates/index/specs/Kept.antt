-- Requests on any arrays with any index: what an answer has to know is read from the index, and where the request is accepted the index is changed with the arrays.
-- On the arrays of a sound bench with their index they are the steps of the rules.
use Rattle.std.specs.Prelude.{Bool, not, ◌&&◌, ◌||◌, List, ◌≡◌, ℕ, ◌+◌, ◌-◌, ◌%◌, ◌<◌, ◌^◌, eqb, leb, ltb, get_or, set, if◌then◌else◌}
use Rattle.sets.specs.Sets.{with, difference, meet}
use Rattle.steps.specs.Arrays.{Arrays, lent, stand_at}
use Rattle.rows.specs.Rows.{quiet_row, open_answer, end_answer}
use Rattle.steps.specs.Changes as changes
use Rattle.steps.specs.Steps.{Took, ask_answer}
use Rattle.index.specs.Tables.{Table, running_set, arrays_in}
use Rattle.index.specs.Places.{places_at, group_by, places_of, still_in, left_in}
use Rattle.index.specs.Families.{FreedBy}

-- ---- what is read

-- a child of x is among the running numbers
abbrev pub busy_by : List ℕ → ℕ → Bool
busy_by index x = meet (get_or index (x % 64) 0) (running_set index)

-- x with its ancestors
abbrev pub line_by : List ℕ → ℕ → ℕ
line_by index x = get_or index (64 + x % 64) 0

-- ---- what is stored

-- n runs, has no children, and stands nowhere
abbrev pub opened : ℕ → List ℕ → List ℕ
opened n index = set (set (set index 128 (with 64 (running_set index) n)) n 0) (193 + n) 0

-- and is a top action
abbrev pub opened_top : ℕ → List ℕ → List ℕ
opened_top n index = set (opened n index) (64 + n) (with 64 0 n)

-- n joins the children of p
abbrev pub adopted : ℕ → ℕ → List ℕ → List ℕ
adopted n p index = set (opened n index) p (with 64 (get_or (opened n index) p 0) n)

-- and its line is that of p with n
abbrev pub opened_sub : ℕ → ℕ → List ℕ → List ℕ
opened_sub n p index = set (adopted n p index) (64 + n) (with 64 (get_or (adopted n p index) (64 + p) 0) n)

-- open top, and by any other code open sub
abbrev pub opened_index : ℕ → ℕ → ℕ → List ℕ → List ℕ
opened_index code x y index = if eqb code 1 then opened_top (x % 64) index else opened_sub (x % 64) (y % 64) index

-- a, and those who have gone, run no more
abbrev pub stopped : ℕ → ℕ → List ℕ → List ℕ
stopped gone a index = set index 128 (difference (running_set index) (with 64 gone a))

-- and those who have gone leave the children of p
abbrev pub left : ℕ → ℕ → ℕ → List ℕ → List ℕ
left gone a p index = set (stopped gone a index) p (difference (get_or (stopped gone a index) p 0) gone)

-- a byte of a parent names one of the 64 numbers
abbrev pub names_parent : ℕ → Bool
names_parent up = not (eqb up 0) && leb up 64

-- those who are aborted leave the children of the parent that x's byte names
abbrev pub left_parent : ℕ → ℕ → ℕ → List ℕ → List ℕ
left_parent gone x up index = if names_parent up then left gone (x % 64) (up - 1) index else stopped gone (x % 64) index

-- the group of a and its places
abbrev pub grouped : ℕ → ℕ → ℕ → List ℕ → List ℕ
grouped a group places index = set (set index (129 + a) group) (193 + a) places

-- the place of instrument i joins those of a
abbrev pub noted : ℕ → ℕ → List ℕ → List ℕ
noted a i index = set index (193 + a) (with 64 (places_at index a) (i % 64))

-- ---- who still stands, by the index

-- the places at which one of the group of a may stand still, when it has left instrument i
abbrev pub group_still : ℕ → ℕ → Table → ℕ
group_still a i t =
    let group = group_by t.states t.index a in
    still_in (changes.left_instrument t.owners i group) group (places_at t.index (a % 64))

-- the places at which one of a family may stand
abbrev pub family_still : ℕ → Table → ℕ
family_still gone t = still_in t.owners gone (places_of t.index gone)

-- some place is left
abbrev pub somewhere : ℕ → Bool
somewhere places = not (eqb places 0)

-- ---- commit and abort

-- an abort of x: the arrays and the index
abbrev pub aborted_by : ℕ → ℕ → Table → Arrays
aborted_by gone x t =
    lent (changes.bytes_left gone t.parents) (changes.bytes_put gone (changes.aborted_byte (somewhere (family_still gone t)) x) t.states) t.owners

abbrev pub aborted_index : ℕ → ℕ → Table → List ℕ
aborted_index gone x t = grouped (x % 64) gone (family_still gone t) (left_parent gone x (get_or t.parents (x % 64) 0) t.index)

-- a commit of x: a top's family leaves the sets of its places, and a sub becomes committed
abbrev pub committed_by : ℕ → ℕ → Table → Arrays
committed_by gone x t =
    if eqb (get_or t.parents (x % 64) 0) 0
    then lent (changes.bytes_left gone t.parents) (changes.bytes_left gone t.states) (left_in (places_of t.index gone) gone t.owners)
    else lent t.parents (set t.states (x % 64) 2) t.owners

abbrev pub ended_by : ℕ → ℕ → ℕ → Table → Arrays
ended_by code gone x t = if eqb code 6 then aborted_by gone x t else committed_by gone x t

abbrev pub ended_index : ℕ → ℕ → ℕ → Table → List ℕ
ended_index code gone x t = if eqb code 6 then aborted_index gone x t else stopped gone (x % 64) t.index

-- ---- quiet

abbrev pub quiet_answer_by : ℕ → ℕ → Table → ℕ
quiet_answer_by a i t = quiet_row t.states (stand_at t.owners (group_by t.states t.index a) i) a i

abbrev pub quieted_by : ℕ → ℕ → Table → Arrays
quieted_by a i t =
    let group = group_by t.states t.index a in
    lent t.parents (changes.freed_unless (somewhere (group_still a i t)) group t.states) (changes.left_instrument t.owners i group)

abbrev pub quieted_index : ℕ → ℕ → Table → List ℕ
quieted_index a i t = grouped (a % 64) (group_by t.states t.index a) (group_still a i t) t.index

-- ---- requests

-- A quiet; parents are not looked at.
pub record QuietKept (x y : ℕ) (before : Table) (answer : ℕ) (after : Table) : Type 0 where
  pub arrays : Took (quiet_answer_by x y before) (quieted_by x y before) (arrays_in before) answer (arrays_in after)
  pub index : after.index ≡ (if eqb answer 0 then quieted_index x y before else before.index)

-- A commit or an abort, where `busy` is said of x's running children.
pub record EndKept (code x : ℕ) (busy : Bool) (before : Table) (answer : ℕ) (after : Table) : Type 0 where
  pub gone : ℕ
  pub freed : FreedBy code x before.parents before.index gone
  pub arrays : Took (end_answer code busy x before.states) (ended_by code gone x before) (arrays_in before) answer (arrays_in after)
  pub index : after.index ≡ (if eqb answer 0 then ended_index code gone x before else before.index)

-- what is said of a code: one thing of reads and writes, one of opens, one of quiet, and one of all others
abbrev pub by_code : {A : Type 0} → ℕ → A → A → A → A → A
by_code code asking opening quieting ending =
    if eqb code 3 || eqb code 4 then asking
    else if ltb code 3 then opening
    else if eqb code 7 then quieting
    else ending

-- the answer to a request, and the arrays and the index where that is 0 and `gone` are to leave the tree
abbrev pub kept_answer : ℕ → ℕ → ℕ → Table → ℕ
kept_answer code x y t =
    by_code code (ask_answer (eqb code 4) (busy_by t.index x) (line_by t.index x) x y (arrays_in t)) (open_answer code x y t.states)
    (quiet_answer_by x y t) (end_answer code (busy_by t.index x) x t.states)

abbrev pub kept_arrays : ℕ → ℕ → ℕ → ℕ → Table → Arrays
kept_arrays code x y gone t =
    by_code code (changes.asked (eqb code 4) x y (arrays_in t)) (changes.opened code x y (arrays_in t)) (quieted_by x y t) (ended_by code gone x t)

abbrev pub kept_index : ℕ → ℕ → ℕ → ℕ → Table → List ℕ
kept_index code x y gone t =
    by_code code (noted (x % 64) y t.index) (opened_index code x y t.index) (quieted_index x y t) (ended_index code gone x t)

-- A request by its code and two numbers. The index is one of words of 64 bits, and so are its running numbers.
pub record RequestKept (code x y : ℕ) (before : Table) (answer : ℕ) (after : Table) : Type 0 where
  pub running_fits : running_set before.index < 2 ^ 64
  pub gone : ℕ
  pub freed : 4 < code → (code ≡ 7 → ⊥) → FreedBy code x before.parents before.index gone
  pub arrays : Took (kept_answer code x y before) (kept_arrays code x y gone before) (arrays_in before) answer (arrays_in after)
  pub index : after.index ≡ (if eqb answer 0 then kept_index code x y gone before else before.index)
