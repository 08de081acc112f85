-- The kinds of frame of the saved form (document 01, "Saved form", and document 02, order 2), each said once: what is written and what is read both
-- follow from it.
use Rattle.std.specs.Prelude.{Bool, not, ◌&&◌, ◌||◌, ℕ, ◌+◌, ◌-◌, eqb, ltb, if◌then◌else◌}

-- The shape of a frame: two digits of code, two of number, two values of so many digits, and 0a.
pub record FrameShape : Type 0 where
  pub code : ℕ
  pub first_digits : ℕ
  pub second_digits : ℕ

-- both values have w digits
abbrev pub even_shape : ℕ → ℕ → FrameShape
even_shape w code = record { code = code; first_digits = w; second_digits = w }

-- how many digits a frame has, and how many bytes
abbrev pub frame_digits : FrameShape → ℕ
frame_digits f = 4 + f.first_digits + f.second_digits

abbrev pub frame_size : FrameShape → ℕ
frame_size f = 5 + f.first_digits + f.second_digits

-- A kind of frame: the one of number k says the elements k of two arrays.
pub record Kind : Type 0 where
  pub shape : FrameShape
  -- elements that no frame is written for
  pub bare : ℕ → ℕ → Bool
  -- the two values written for two elements
  pub first_value : ℕ → ℕ → ℕ
  pub second_value : ℕ → ℕ → ℕ
  -- values that a frame may have
  pub fits : ℕ → ℕ → Bool
  -- the two elements that two values say
  pub first_element : ℕ → ℕ → ℕ
  pub second_element : ℕ → ℕ → ℕ

-- ss, from a state's byte: 01 running, 02 committed, 03 draining
abbrev pub state_digits : ℕ → ℕ
state_digits state = if ltb state 3 then state else 3

-- pp, from both bytes: the parent, ff for a top action; of a number that drains the aborted action, which its state's byte names
abbrev pub parent_digits : ℕ → ℕ → ℕ
parent_digits parent state =
    if ltb state 3
    then (if eqb parent 0 then 0xff else parent - 1)
    else (if ltb state 67 then state - 3 else 0xff)

-- and back, the parent's byte: none for a top action, and none for a number that drains, since it has left the tree
abbrev pub parent_byte : ℕ → ℕ → ℕ
parent_byte ss pp = if eqb ss 3 || eqb pp 0xff then 0 else pp + 1

-- and the state's: 3 + h for one that drains under h. ff names no head: 67 means nothing, so that the record isn't sound.
abbrev pub state_byte : ℕ → ℕ → ℕ
state_byte ss pp = if eqb ss 3 then (if ltb pp 64 then 3 + pp else 67) else ss

-- the states and the parents that a frame may have
abbrev pub state_fits : ℕ → Bool
state_fits ss = eqb ss 1 || eqb ss 2 || eqb ss 3

abbrev pub parent_fits : ℕ → Bool
parent_fits pp = ltb pp 64 || eqb pp 0xff

-- 11 nn ss pp, of parents and states; none for a free number
abbrev pub action : Kind
action =
    record {
      shape = record { code = 0x11; first_digits = 2; second_digits = 2 };
      bare = λ parent state. eqb state 0;
      first_value = λ parent state. state_digits state;
      second_value = parent_digits;
      fits = λ ss pp. state_fits ss && parent_fits pp;
      first_element = parent_byte;
      second_element = state_byte;
    }

-- 12 ii, 16 digits of read set, 16 digits of write set; none where both are empty
abbrev pub instrument : Kind
instrument =
    record {
      shape = record { code = 0x12; first_digits = 16; second_digits = 16 };
      bare = λ reads writes. eqb reads 0 && eqb writes 0;
      first_value = λ reads writes. reads;
      second_value = λ reads writes. writes;
      fits = λ reads writes. not (eqb reads 0 && eqb writes 0);
      first_element = λ reads writes. reads;
      second_element = λ reads writes. writes;
    }
