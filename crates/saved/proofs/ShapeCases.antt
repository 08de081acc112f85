-- Document 01's sentence "Load gives 8 for any other shape", clause by clause, with the states of document 02, order 2, computed on short texts that
-- differ little from well-shaped ones. Well-shaped texts that aren't sound get 7.
use mathlib.Core.Path.{◌≡◌, refl}
use mathlib.Core.Bool.{Bool, true, false, ◌&&◌}
use mathlib.Core.List.{List, [], ◌∷◌, ◌++◌}
use mathlib.Core.Option.{Option, none, some}
use Prim.Native.Nat.{ℕ}
use Prim.Native.Char.{code}
use Prim.Native.String as string
use Prim.Native.String.{String}
use lib.Dec.{eqb}
use lib.ListN.{replicate, set}
use Rattle.sets.specs.Sets.{member}
use Rattle.rules.specs.Tests.{all, any}
use Rattle.rules.specs.Owners.{stand_at, stand_somewhere}
use Rattle.rules.specs.Sound.{stands_nowhere, reaches_top, sound}
use Rattle.bench.specs.declared.Bench.{Bench}
use Rattle.saved.specs.declared.Loaded.{Loaded}
use Rattle.forms.specs.WellShaped.{digits_at, number_at, stands_at, take_from, actions_in, instruments_in, record_in}
use Rattle.saved.specs.Saved.{empty_record, load_of}

-- ---- texts, written as their lines

bytes_of : String → List ℕ
bytes_of string.[] = []
bytes_of (string.◌∷◌ c s) = code c ∷ bytes_of s

bytes : List String → List ℕ
bytes [] = []
bytes (line ∷ lines) = bytes_of line ++ bytes lines

-- what a text loads as
loads : List String → Loaded
unfolding bytes bytes_of record_in actions_in instruments_in take_from stands_at number_at digits_at all load_of sound reaches_top stands_nowhere stand_somewhere stand_at any member
loads lines = load_of (bytes lines)

-- each of these texts gets this answer
answers : ℕ → List (List String) → Bool
unfolding loads
answers n [] = true
answers n (text ∷ texts) = eqb (loads text).answer n && answers n texts

-- ---- well-shaped texts

empty_text : loads [] ≡ record { bench = empty_record; answer = 0 }
unfolding loads
empty_text = refl

one_action : loads ("110101ff\n" ∷ []) ≡ record { bench = record { parents = replicate 64 0; states = set (replicate 64 0) 1 1; reads = replicate 128 0; writes = replicate 128 0 }; answer = 0 }
unfolding loads
one_action = refl

-- action 5 below action 1, and instrument 127 read by 1 and written by 5
action_and_instrument : loads ("110101ff\n" ∷ "11050101\n" ∷ "127f00000000000000020000000000000020\n" ∷ []) ≡ record { bench = record { parents = set (replicate 64 0) 5 2; states = set (set (replicate 64 0) 1 1) 5 1; reads = set (replicate 128 0) 127 2; writes = set (replicate 128 0) 127 0x20 }; answer = 0 }
unfolding loads
action_and_instrument = refl

-- action 3 was aborted: 2 and 3 drain under it, and 2 still reads instrument 7
draining_group : loads ("11020303\n" ∷ "11030303\n" ∷ "120700000000000000040000000000000000\n" ∷ []) ≡ record { bench = record { parents = replicate 64 0; states = set (set (replicate 64 0) 2 6) 3 6; reads = set (replicate 128 0) 7 4; writes = replicate 128 0 }; answer = 0 }
unfolding loads
draining_group = refl

abbrev is_some : Option Bench → Bool
is_some none = false
is_some (some b) = true

-- each of these texts says a record
shaped : List (List String) → Bool
unfolding bytes bytes_of record_in actions_in instruments_in take_from stands_at number_at digits_at all
shaped [] = true
shaped (text ∷ texts) = is_some (record_in (bytes text)) && shaped texts

-- what the texts below come from by a small change
neighbours_shaped : shaped (("110501ff\n" ∷ []) ∷ ("113f01ff\n" ∷ []) ∷ ("1105013f\n" ∷ []) ∷ ("110502ff\n" ∷ []) ∷ ("110503ff\n" ∷ []) ∷ ("1105033f\n" ∷ []) ∷ ("110501ff\n" ∷ "110601ff\n" ∷ []) ∷ ("127f00000000000000020000000000000000\n" ∷ []) ∷ ("110501ff\n" ∷ "120700000000000000200000000000000000\n" ∷ []) ∷ ("120600000000000000200000000000000000\n" ∷ "120700000000000000200000000000000000\n" ∷ []) ∷ []) ≡ true
unfolding shaped
neighbours_shaped = refl

-- ---- any other shape: 8

-- for 0 a space, for ff a letter that is no digit and upper-case digits, and a carriage return before the 0a and for it
neither_newline_nor_digit : answers 8 (("1105 1ff\n" ∷ []) ∷ ("110501fg\n" ∷ []) ∷ ("110501FF\n" ∷ []) ∷ ("110501ff\r\n" ∷ []) ∷ ("110501ff\r" ∷ []) ∷ []) ≡ true
unfolding answers
neither_newline_nor_digit = refl

-- one digit more, one less, a whole byte more, a line cut in two; and a 12 frame with a digit more and one less
another_length : answers 8 (("110501ff0\n" ∷ []) ∷ ("110501f\n" ∷ []) ∷ ("110501ff00\n" ∷ []) ∷ ("1105\n" ∷ "01ff\n" ∷ []) ∷ ("1207000000000000000200000000000000020\n" ∷ []) ∷ ("12070000000000000002000000000000000\n" ∷ []) ∷ []) ≡ true
unfolding answers
another_length = refl

number_above_63 : answers 8 (("114001ff\n" ∷ []) ∷ ("11ff01ff\n" ∷ []) ∷ []) ≡ true
unfolding answers
number_above_63 = refl

instrument_above_127 : answers 8 (("128000000000000000020000000000000000\n" ∷ []) ∷ []) ≡ true
unfolding answers
instrument_above_127 = refl

parent_neither_below_64_nor_ff : answers 8 (("11050140\n" ∷ []) ∷ ("110501fe\n" ∷ []) ∷ ("11050340\n" ∷ []) ∷ []) ≡ true
unfolding answers
parent_neither_below_64_nor_ff = refl

state_neither_01_02_nor_03 : answers 8 (("110500ff\n" ∷ []) ∷ ("110504ff\n" ∷ []) ∷ ("11050405\n" ∷ []) ∷ []) ≡ true
unfolding answers
state_neither_01_02_nor_03 = refl

action_after_instrument : answers 8 (("120700000000000000200000000000000000\n" ∷ "110501ff\n" ∷ []) ∷ []) ≡ true
unfolding answers
action_after_instrument = refl

-- of actions and of instruments, a number twice and a number that falls
not_strictly_rising : answers 8 (("110501ff\n" ∷ "110501ff\n" ∷ []) ∷ ("110601ff\n" ∷ "110501ff\n" ∷ []) ∷ ("120700000000000000200000000000000000\n" ∷ "120700000000000000200000000000000000\n" ∷ []) ∷ ("120700000000000000200000000000000000\n" ∷ "120600000000000000200000000000000000\n" ∷ []) ∷ []) ≡ true
unfolding answers
not_strictly_rising = refl

both_sets_empty : answers 8 (("120700000000000000000000000000000000\n" ∷ []) ∷ []) ≡ true
unfolding answers
both_sets_empty = refl

missing_last_newline : answers 8 (("110501ff" ∷ []) ∷ ("110501ff\n" ∷ "110601ff" ∷ []) ∷ []) ≡ true
unfolding answers
missing_last_newline = refl

-- alone, before a frame and behind one
empty_line : answers 8 (("\n" ∷ []) ∷ ("\n" ∷ "110501ff\n" ∷ []) ∷ ("110501ff\n" ∷ "\n" ∷ []) ∷ []) ≡ true
unfolding answers
empty_line = refl

unknown_code : answers 8 (("100501ff\n" ∷ []) ∷ ("130501ff\n" ∷ []) ∷ ("130700000000000000200000000000000000\n" ∷ []) ∷ []) ≡ true
unfolding answers
unknown_code = refl

-- ---- well-shaped and not sound: 7

-- a committed top, a parent of itself, a parent that is free, a number that is free and stands in a read set
unsound : answers 7 (("113f02ff\n" ∷ []) ∷ ("113f013f\n" ∷ []) ∷ ("113f0100\n" ∷ []) ∷ ("120780000000000000000000000000000000\n" ∷ []) ∷ []) ≡ true
unfolding answers
unsound = refl

-- 5 reads instrument 7 and drains: under nobody, under a free number, under one that runs, under one that drains under another
no_head : answers 7 (("110503ff\n" ∷ "120700000000000000200000000000000000\n" ∷ []) ∷ ("11050304\n" ∷ "120700000000000000200000000000000000\n" ∷ []) ∷ ("110401ff\n" ∷ "11050304\n" ∷ "120700000000000000200000000000000000\n" ∷ []) ∷ ("11040306\n" ∷ "11050304\n" ∷ "11060306\n" ∷ "120700000000000000200000000000000040\n" ∷ []) ∷ []) ≡ true
unfolding answers
no_head = refl

-- a group that stands in no set, alone and beside one that does
stands_nowhere_lem : answers 7 (("11050305\n" ∷ []) ∷ ("11040305\n" ∷ "11050305\n" ∷ "11060306\n" ∷ "120700000000000000400000000000000000\n" ∷ []) ∷ []) ≡ true
unfolding answers
stands_nowhere_lem = refl

-- a number that runs and one that is committed, below one that drains
parent_drains : answers 7 (("11050305\n" ∷ "11060105\n" ∷ "120700000000000000200000000000000000\n" ∷ []) ∷ ("11050305\n" ∷ "11060205\n" ∷ "120700000000000000200000000000000000\n" ∷ []) ∷ []) ≡ true
unfolding answers
parent_drains = refl
