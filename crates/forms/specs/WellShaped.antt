-- Which texts are well-shaped, and which record one says (document 01, "Saved form"). Frames are looked for in the order of their numbers, those of
-- actions first: an 11 frame after a 12 frame, and numbers that don't strictly rise, are then left over, as is everything else of another shape.
use Rattle.std.specs.Prelude.{Bool, ◌&&◌, List, ℕ, zero, suc, ◌+◌, ◌*◌, ◌%◌, eqb, ltb, length, get_or, set, replicate, if◌then◌else◌}
use Rattle.std.proofs.Math.Option.{Option, none, some}
use Rattle.rules.specs.Tests.{all}
use Rattle.bench.specs.declared.Bench.{Bench}
pub use Rattle.digits.specs.Digits.{digit_of}
use Rattle.forms.specs.Kinds.{FrameShape, frame_digits, frame_size, Kind, action, instrument}

-- n digits stand in the text from place `at` on
unfoldable pub digits_at : List ℕ → ℕ → ℕ → Bool
digits_at text at n = all n (λ j. ltb (digit_of (get_or text (at + j) 0)) 16)

-- the number that they write
unfoldable pub number_at : List ℕ → ℕ → ℕ → ℕ
number_at text at zero = 0
number_at text at (suc n) = number_at text at n * 16 + digit_of (get_or text (at + n) 0) % 16

-- a frame of n digits and its 0a stand there
abbrev pub frame_at : List ℕ → ℕ → ℕ → Bool
frame_at text at n = digits_at text at n && eqb (get_or text (at + n) 0) 10

-- a frame of this shape and number stands there, and its two values
abbrev pub head_at : FrameShape → List ℕ → ℕ → ℕ → Bool
head_at f text at k = frame_at text at (frame_digits f) && eqb (number_at text at 2) f.code && eqb (number_at text (at + 2) 2) k

abbrev pub first_at : FrameShape → List ℕ → ℕ → ℕ
first_at f text at = number_at text (at + 4) f.first_digits

abbrev pub second_at : FrameShape → List ℕ → ℕ → ℕ
second_at f text at = number_at text (at + (4 + f.first_digits)) f.second_digits

-- The frame of number k stands there: digits and 0a, the code, k, and values that it may have.
unfoldable pub stands_at : Kind → List ℕ → ℕ → ℕ → Bool
stands_at K text at k = head_at K.shape text at k && K.fits (first_at K.shape text at) (second_at K.shape text at)

-- the two elements that it says
abbrev pub first_in : Kind → List ℕ → ℕ → ℕ
first_in K text at = K.first_element (first_at K.shape text at) (second_at K.shape text at)

abbrev pub second_in : Kind → List ℕ → ℕ → ℕ
second_in K text at = K.second_element (first_at K.shape text at) (second_at K.shape text at)

-- what has been read: up to which place of the text, and two arrays
pub record Taken : Type 0 where
  pub at : ℕ
  pub first : List ℕ
  pub second : List ℕ

-- a frame of so many bytes is passed, and the two elements of number k that it says stand in the arrays
abbrev pub entered : ℕ → ℕ → ℕ → ℕ → Taken → Taken
entered size k x y t = record { at = t.at + size; first = set t.first k x; second = set t.second k y }

-- the frame of number k, if it stands there: both arrays with what it says
abbrev pub take_of : Kind → List ℕ → ℕ → Taken → Taken
take_of K text k t =
    if stands_at K text t.at k then entered (frame_size K.shape) k (first_in K text t.at) (second_in K text t.at) t else t

-- n of them, from number k on
unfoldable pub take_from : (ℕ → Taken → Taken) → ℕ → ℕ → Taken → Taken
take_from take zero k t = t
take_from take (suc n) k t = take_from take n (suc k) (take k t)

-- nothing is taken yet of n numbers, from this place of the text on
abbrev pub none_taken : ℕ → ℕ → Taken
none_taken n at = record { at = at; first = replicate n 0; second = replicate n 0 }

-- the frames of actions from the text's start, and those of instruments behind them
unfoldable pub actions_in : List ℕ → Taken
actions_in text = take_from (take_of action text) 64 0 (none_taken 64 0)

unfoldable pub instruments_in : List ℕ → ℕ → Taken
instruments_in text at = take_from (take_of instrument text) 128 0 (none_taken 128 at)

-- The record that a well-shaped text says; none where something is left over.
unfoldable pub record_in : List ℕ → Option Bench
record_in text =
    let actions = actions_in text in
    let instruments = instruments_in text actions.at in
    if eqb instruments.at (length text)
    then some (record { parents = actions.first; states = actions.second; reads = instruments.first; writes = instruments.second })
    else none
