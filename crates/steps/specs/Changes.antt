-- What requests change in the arrays, whatever they hold.
use Rattle.std.specs.Prelude.{Bool, true, false, List, [], ◌∷◌, map, ℕ, zero, suc, ◌+◌, ◌%◌, eqb, get_or, set, if◌then◌else◌}
use Rattle.sets.specs.Sets.{member, union, difference, meet, with}
use Rattle.tables.specs.OneWord.{left_at}
use Rattle.views.specs.Reach.{descends_known}
use Rattle.views.specs.Arrays.{frees_by}
use Rattle.steps.specs.Arrays.{Arrays, place_of}

-- ---- places of a list

-- the bytes of the numbers from k on, with another byte for those of a set
unfoldable pub bytes_from : ℕ → ℕ → ℕ → List ℕ → List ℕ
bytes_from k numbers new [] = []
bytes_from k numbers new (byte ∷ rest) = (if member numbers k then new else byte) ∷ bytes_from (suc k) numbers new rest

-- bytes with another byte for the numbers of a set
abbrev pub bytes_put : ℕ → ℕ → List ℕ → List ℕ
bytes_put numbers new bytes = bytes_from 0 numbers new bytes

-- bytes from which the numbers have gone
abbrev pub bytes_left : ℕ → List ℕ → List ℕ
bytes_left gone bytes = bytes_put gone 0 bytes

-- sets from which the numbers have gone
abbrev pub sets_left : ℕ → List ℕ → List ℕ
sets_left gone words = map (λ (word : ℕ). difference word gone) words

-- the sets with k in the one at a place; past the end there is none
abbrev pub joined_at : List ℕ → ℕ → ℕ → List ℕ
joined_at words at k = set words at (with 64 (get_or words at 0) k)

-- all numbers that stand in one of the sets
unfoldable pub standing_in : List ℕ → ℕ
standing_in [] = 0
standing_in (word ∷ rest) = union word (standing_in rest)

-- one of the numbers stands in one of the sets
abbrev pub stand_in : List ℕ → ℕ → Bool
stand_in words numbers = meet (standing_in words) numbers

-- ---- sets of numbers

-- the numbers below n of which a test holds
unfoldable pub set_of : ℕ → (ℕ → Bool) → ℕ
set_of zero test = 0
set_of (suc n) test = let below = set_of n test in if test n then with 64 below n else below

-- a and what leads to it going up
abbrev pub family_in : List ℕ → ℕ → ℕ
family_in parents a = set_of 64 (descends_known parents (a % 64))

-- the family that a commit or an abort of x takes out of the tree by its code, and nobody where it takes none
abbrev pub family_freed : ℕ → ℕ → List ℕ → ℕ
family_freed code x parents = if frees_by code (get_or parents (x % 64) 0) then family_in parents x else 0

-- the numbers that drain under a
abbrev pub group_in : List ℕ → ℕ → ℕ
group_in states a = set_of 64 (λ k. eqb (get_or states k 0) (3 + a % 64))

-- ---- what each request does where it is accepted

-- open top, or by code 2 open sub: x runs, and under y
abbrev pub opened : ℕ → ℕ → ℕ → Arrays → Arrays
opened code x y b =
    record {
      parents = if eqb code 2 then set b.parents (x % 64) (y % 64 + 1) else b.parents;
      states = set b.states (x % 64) 1;
      owners = b.owners;
    }

-- read or write: a joins the set of its mode at instrument i
abbrev pub asked : Bool → ℕ → ℕ → Arrays → Arrays
asked is_write a i b = record { parents = b.parents; states = b.states; owners = joined_at b.owners (place_of is_write i) (a % 64) }

-- the numbers that have gone become free and leave all sets
abbrev pub freed : ℕ → Arrays → Arrays
freed gone b = record { parents = bytes_left gone b.parents; states = bytes_left gone b.states; owners = sets_left gone b.owners }

-- the byte of numbers that are aborted with a: they drain under a where one of them stands in a set, and else become free
abbrev pub aborted_byte : Bool → ℕ → ℕ
aborted_byte stands a = if stands then 3 + a % 64 else 0

-- the numbers that are aborted with a leave the tree, and stay in the sets
abbrev pub aborted : ℕ → ℕ → Arrays → Arrays
aborted gone a b =
    record {
      parents = bytes_left gone b.parents;
      states = bytes_put gone (aborted_byte (stand_in b.owners gone) a) b.states;
      owners = b.owners;
    }

-- commit or abort of x: `gone` are aborted or freed, or x with its parent becomes committed
abbrev pub ended : ℕ → ℕ → ℕ → Arrays → Arrays
ended code gone x b =
    if eqb code 6 then aborted gone x b
    else if eqb (get_or b.parents (x % 64) 0) 0 then freed gone b
    else record { parents = b.parents; states = set b.states (x % 64) 2; owners = b.owners }

-- the owners' words where the numbers have left the sets of instrument i
abbrev pub left_instrument : List ℕ → ℕ → ℕ → List ℕ
left_instrument owners i gone = left_at (left_at owners (place_of false i) gone) (place_of true i) gone

-- states' bytes of numbers that become free unless one of them stands in a set
abbrev pub freed_unless : Bool → ℕ → List ℕ → List ℕ
freed_unless stands numbers states = if stands then states else bytes_left numbers states

-- the numbers leave the sets of instrument i, and become free where none of them is left in a set
abbrev pub released : ℕ → ℕ → Arrays → Arrays
released group i b =
    let owners = left_instrument b.owners i group in
    record {
      parents = b.parents;
      states = freed_unless (stand_in owners group) group b.states;
      owners = owners;
    }

-- quiet a, i: so do the numbers that drain under a
abbrev pub quieted : ℕ → ℕ → Arrays → Arrays
quieted a i b = released (group_in b.states a) i b
