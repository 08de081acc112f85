-- How often each answer was given.
use Rattle.std.specs.Prelude.{List, ℕ, ◌+◌, ◌%◌, ◌^◌, get_or, slice_set}

-- The counts with one more in a place, as they were where they have no such place; a count of 64 bits begins again at 0.
abbrev pub with_one_more : List ℕ → ℕ → List ℕ
with_one_more counts place = slice_set counts place ((get_or counts place 0 + 1) % 2 ^ 64)
