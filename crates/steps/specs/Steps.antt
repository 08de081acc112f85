-- The steps on any arrays: each gives a row for its answer, and changes the arrays where that is 0. On the arrays of a sound bench they are the steps of the rules.
use Rattle.std.specs.Prelude.{Bool, ◌≡◌, ℕ, eqb, ltb, if◌then◌else◌}
use Rattle.rows.specs.Rows.{quiet_row, ask_row, busy_in, held_for, open_answer, end_answer}
use Rattle.steps.specs.Arrays.{Arrays, conflicting_at, stand_at}
use Rattle.steps.specs.Changes.{family_freed, group_in, opened, asked, ended, quieted}

-- A step has been taken: the answer is the row, and the arrays after it are the changed ones where it is 0, and else those before it.
pub record Took (row : ℕ) (changed before : Arrays) (answer : ℕ) (after : Arrays) : Type 0 where
  pub answered : answer ≡ row
  pub left : after ≡ (if eqb answer 0 then changed else before)

-- the row of a read or a write
abbrev pub ask_answer : Bool → Bool → ℕ → ℕ → ℕ → Arrays → ℕ
ask_answer is_write busy line a i b =
    ask_row b.states busy (held_for b.parents b.states line (conflicting_at is_write b.owners i) a) a i

-- the row of quiet
abbrev pub quiet_answer : ℕ → ℕ → Arrays → ℕ
quiet_answer a i b = quiet_row b.states (stand_at b.owners (group_in b.states a) i) a i

-- open top or open sub, by the frame's code
abbrev pub Opened : ℕ → ℕ → ℕ → Arrays → ℕ → Arrays → Type 0
Opened code x y before = Took (open_answer code x y before.states) (opened code x y before) before

-- read or write, where `busy` is said of a's running children, and `line` is a with its ancestors, or empty where they are not known
abbrev pub Asked : Bool → Bool → ℕ → ℕ → ℕ → Arrays → ℕ → Arrays → Type 0
Asked is_write busy line a i before = Took (ask_answer is_write busy line a i before) (asked is_write a i before) before

-- commit or abort, by the frame's code, where `busy` is said of x's running children, and `gone` are to leave the tree
abbrev pub Ended : ℕ → Bool → ℕ → ℕ → Arrays → ℕ → Arrays → Type 0
Ended code busy gone x before = Took (end_answer code busy x before.states) (ended code gone x before) before

-- quiet
abbrev pub Quieted : ℕ → ℕ → Arrays → ℕ → Arrays → Type 0
Quieted a i before = Took (quiet_answer a i before) (quieted a i before) before

-- ---- any request, by the frame's code, with what it has to know looked up in the arrays

abbrev pub request_answer : ℕ → ℕ → ℕ → Arrays → ℕ
request_answer code x y b =
    if ltb code 3 then open_answer code x y b.states
    else if eqb code 7 then quiet_answer x y b
    else if ltb code 5 then ask_answer (eqb code 4) (busy_in b.parents b.states x) 0 x y b
    else end_answer code (busy_in b.parents b.states x) x b.states

abbrev pub requested : ℕ → ℕ → ℕ → Arrays → Arrays
requested code x y b =
    if ltb code 3 then opened code x y b
    else if eqb code 7 then quieted x y b
    else if ltb code 5 then asked (eqb code 4) x y b
    else ended code (family_freed code x b.parents) x b

abbrev pub Requested : ℕ → ℕ → ℕ → Arrays → ℕ → Arrays → Type 0
Requested code x y before = Took (request_answer code x y before) (requested code x y before) before
