-- A table in place: what it is known to be, and what a step does to it.
use Rattle.std.specs.Prelude.{Bool, true, false, ◌||◌, List, ◌≡◌, ℕ, ◌<◌, ◌%◌, eqb, length, get_or, if◌then◌else◌}
use Rattle.std.proofs.Math.Option.{Option}
use Rattle.rules.specs.Owners.{in_family}
use Rattle.rules.specs.Sound.{sound}
use Rattle.rules.specs.Requests.{Request, commit, abort, without, effect}
use Rattle.rules.specs.Answers.{Outcome, answered}
use Rattle.tables.specs.Table.{Layout, Table, view}
use Rattle.tables.specs.Tree.{tree}
use Rattle.tables.specs.Index.{KnowsFamily, Indexed}

-- The arrays are as long as the layout says.
pub record Long (layout : Layout) (t : Table) : Type 0 where
  pub parents_long : length t.parents ≡ layout.shape.actions
  pub states_long : length t.states ≡ layout.shape.actions
  pub sets_long : (m : ℕ) → m < layout.shape.modes → length (t.sets m) ≡ layout.words

-- Nobody stands in a set that the table doesn't have.
abbrev pub Bounded : Layout → Table → Type 0
Bounded layout t = (m i k : ℕ) → layout.holds (t.sets m) i k ≡ true → (m < layout.shape.modes) × (i < layout.shape.instruments)

-- The table of a sound bench.
pub record SoundTable (layout : Layout) (t : Table) : Type 0 where
  pub long : Long layout t
  pub is_sound : sound layout.shape (view layout t) ≡ true

-- A table of the layout's lengths, and whether it is that of a sound bench.
pub record KnownTable (layout : Layout) (is_sound : Bool) (t : Table) : Type 0 where
  pub long : Long layout t
  pub known : is_sound ≡ sound layout.shape (view layout t)

-- What a line does to a table: the answer and the table after it are those of its request, or 8 and no change where it has none.
abbrev pub OutcomeIs : Layout → Option Request → Table → ℕ → Table → Type 0
OutcomeIs layout q before answer after =
    ◌≡◌ {A = Outcome} (record { answer = answer; next = view layout after }) (answered layout.shape (view layout before) q)

-- One step: what the line does, and the table is again that of a sound bench.
pub record Stepped (layout : Layout) (q : Option Request) (before : Table) (answer : ℕ) (after : Table) : Type 0 where
  pub outcome : OutcomeIs layout q before answer after
  pub table : SoundTable layout after

-- A line has ended: what the line does, and lengths and soundness are as they were.
pub record LineEnded (layout : Layout) (is_sound : Bool) (q : Option Request) (before : Table) (answer : ℕ) (after : Table) : Type 0 where
  pub outcome : OutcomeIs layout q before answer after
  pub table : KnownTable layout is_sound after

-- Where the table is that of a sound bench, what is kept beside it is that bench's.
abbrev pub KnownIndex : ℕ → Bool → List ℕ → List ℕ → List ℕ → List ℕ → ℕ → Type 0
KnownIndex n is_sound parents states children lines running = is_sound ≡ true → Indexed n (tree parents states) children lines running

-- ---- an action ends

-- the commit or the abort of a
abbrev pub ending : Bool → ℕ → Request
ending aborts a = if aborts then abort a else commit a

-- Where it is accepted a family leaves the tree with it: an abort's, which may drain, or that of a top that commits, whose parent's byte is 0, which is freed.
abbrev pub frees_by : Bool → ℕ → Bool
frees_by aborts up = aborts || eqb up 0

-- What leaves the tree with the commit or the abort of x: the family of x where one does, and else nobody.
pub record FreedIn (n : ℕ) (parents states : List ℕ) (aborts : Bool) (x gone : ℕ) : Type 0 where
  pub family : frees_by aborts (get_or parents (x % n) 0) ≡ true → KnowsFamily n parents states x gone
  pub nobody : frees_by aborts (get_or parents (x % n) 0) ≡ false → gone ≡ 0

-- The family of a has left the table.
pub record Freed (layout : Layout) (a : ℕ) (before after : Table) : Type 0 where
  pub left : view layout after ≡ without (in_family layout.shape (view layout before) a) (view layout before)
  pub long : Long layout after

-- The family of a has been aborted: it drains under a where one of it stands in a set, and else it has left the table.
pub record Aborted (layout : Layout) (a : ℕ) (before after : Table) : Type 0 where
  pub left : view layout after ≡ effect layout.shape (view layout before) (abort a)
  pub long : Long layout after
