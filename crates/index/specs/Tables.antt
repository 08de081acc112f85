-- The arrays of a bench, and the index, which is kept beside them so that no line looks through them. The index has 257 words: the children of each of the 64
-- numbers, then each number with its ancestors, then the running numbers, all as sets; then the group of each head, and last the places of each number.
use Rattle.std.specs.Prelude.{List, ◌∷◌, ◌++◌, ◌≡◌, ℕ, length, get_or, take, drop}
use Rattle.std.proofs.Math.Option.{Option}
use Rattle.rules.specs.Bench as rules
use Rattle.rules.specs.Requests.{Request}
use Rattle.tables.specs.Tree.{tree}
use Rattle.views.specs.Index.{Indexed}
use Rattle.steps.specs.Arrays.{Arrays, lent, SoundLists, SteppedTo}
use Rattle.index.specs.Places.{Placed}

-- ---- the index

-- its parts, one after the other
abbrev pub words_of : List ℕ → List ℕ → ℕ → List ℕ → List ℕ → List ℕ
words_of children lines running groups places = children ++ (lines ++ (running ∷ (groups ++ places)))

abbrev pub child_sets : List ℕ → List ℕ
child_sets index = take 64 index

abbrev pub line_sets : List ℕ → List ℕ
line_sets index = take 64 (drop 64 index)

abbrev pub running_set : List ℕ → ℕ
running_set index = get_or index 128 0

-- Its first parts are those of a bench.
pub record IndexOf (b : rules.Bench) (index : List ℕ) : Type 0 where
  pub long : length index ≡ 257
  pub sets : Indexed b (child_sets index) (line_sets index) (running_set index)

-- ---- the table

pub record Table : Type 0 where
  pub parents : List ℕ
  pub states : List ℕ
  pub owners : List ℕ
  pub index : List ℕ

-- four lists as they are lent
abbrev pub table : List ℕ → List ℕ → List ℕ → List ℕ → Table
table parents states owners index = record { parents = parents; states = states; owners = owners; index = index }

-- the arrays among them
abbrev pub arrays_in : Table → Arrays
arrays_in t = lent t.parents t.states t.owners

-- The index is that of the arrays.
pub record IndexIn (t : Table) : Type 0 where
  pub of_tree : IndexOf (tree t.parents t.states) t.index
  pub placed : Placed t.states t.owners t.index

-- The table is that of a sound bench.
pub record SoundTable (t : Table) : Type 0 where
  pub lists : SoundLists (arrays_in t)
  pub indexed : IndexIn t

-- One step of the rules, from the table of a sound bench to that of a sound bench: the answer and the arrays after it are those of the request, or 8 and no change
-- where there is none.
pub record TableStepped (r : Option Request) (before : Table) (answer : ℕ) (after : Table) : Type 0 where
  pub step : SteppedTo r (arrays_in before) answer (arrays_in after)
  pub indexed : IndexIn after
