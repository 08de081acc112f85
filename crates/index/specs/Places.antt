-- Where numbers may stand. The owners' words are sorted into 64 places: place j has the read sets and the write sets of the instruments j and 64 + j, which are the words
-- j, 64 + j, 128 + j and 192 + j. Sets of places are words like sets of numbers.
use Rattle.std.specs.Prelude.{Bool, true, ◌&&◌, List, ◌≡◌, ℕ, suc, ◌+◌, ◌-◌, ◌%◌, ◌<◌, eqb, leb, ltb, length, get_or, if◌then◌else◌}
use Rattle.sets.specs.Sets.{member, union, difference, meet}
use Rattle.sets.specs.Words.{first_words}
use Rattle.rules.specs.Tests.{any}
use Rattle.steps.specs.Changes.{sets_left, set_of, group_in}

-- ---- what the index says

-- A word of all ones says nothing: as places they are all, and as a group it stands for one that has to be looked up.
abbrev pub unknown : ℕ
unknown = 18446744073709551615

-- the group of a, or `unknown`
abbrev pub group_at : List ℕ → ℕ → ℕ
group_at index a = get_or index (129 + a) 0

-- the places of k
abbrev pub places_at : List ℕ → ℕ → ℕ
places_at index k = get_or index (193 + k) 0

-- whose places have those of k: the head's where k drains, and else its own
abbrev pub keeper : List ℕ → ℕ → ℕ
keeper states k = if leb 3 (get_or states k 0) then get_or states k 0 - 3 else k

-- Every number stands at places of its keeper only, and the group of a head is the one that drains under it, where it is known.
pub record Placed (states owners index : List ℕ) : Type 0 where
  pub covers : (k word : ℕ) → k < 64 → word < 256 → member (get_or owners word 0) k ≡ true → member (places_at index (keeper states k)) (word % 64) ≡ true
  pub groups : (h : ℕ) → h < 64 → get_or states h 0 ≡ 3 + h → (group_at index h ≡ unknown → ⊥) → group_at index h ≡ group_in states h

-- the numbers that drain under a, from the index where it knows them
abbrev pub group_by : List ℕ → List ℕ → ℕ → ℕ
group_by states index a = if eqb (group_at index (a % 64)) unknown then group_in states a else group_at index (a % 64)

-- the places of all numbers of a set
abbrev pub places_of : List ℕ → ℕ → ℕ
places_of index numbers = set_of 64 (λ place. any 64 (λ k. member numbers k && member (places_at index k) place))

-- ---- looking there only

-- one of the numbers stands at a place
abbrev pub stand_in_place : List ℕ → ℕ → ℕ → Bool
stand_in_place owners numbers place =
    meet (union (union (get_or owners place 0) (get_or owners (64 + place) 0)) (union (get_or owners (128 + place) 0) (get_or owners (192 + place) 0))) numbers

-- Of the places, those from the first on at which one of the numbers stands. There is none where no number stands at any.
abbrev pub still_in : List ℕ → ℕ → ℕ → ℕ
still_in owners numbers places =
    set_of 64 (λ place. member places place && any (suc place) (λ first. member places first && stand_in_place owners numbers first))

-- the set of a word, where the numbers leave those of some places
abbrev pub left_word : ℕ → ℕ → List ℕ → ℕ → ℕ
left_word places gone owners word =
    if ltb word 256 && member places (word % 64) then difference (get_or owners word 0) gone else get_or owners word 0

abbrev pub left_places : ℕ → ℕ → List ℕ → List ℕ
left_places places gone owners = first_words (length owners) (left_word places gone owners)

-- the same, and all sets where nothing is known of the places
abbrev pub left_in : ℕ → ℕ → List ℕ → List ℕ
left_in places gone owners = if eqb places unknown then sets_left gone owners else left_places places gone owners
