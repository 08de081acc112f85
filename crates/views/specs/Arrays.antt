-- Four arrays in place: what they are known to be, and what a step does to them.
use Rattle.std.specs.Prelude.{Bool, List, ℕ, eqb}
use Rattle.std.proofs.Math.Option.{Option}
use Rattle.rules.specs.Requests.{Request}
use Rattle.tables.specs.Steps as tables
use Rattle.views.specs.View.{layout, arrays}

-- The arrays of a sound bench.
abbrev pub SoundArrays : List ℕ → List ℕ → List ℕ → List ℕ → Type 0
SoundArrays parents states reads writes = tables.SoundTable layout (arrays parents states reads writes)

-- Arrays of a record's lengths, and whether they are those of a sound bench.
abbrev pub KnownArrays : Bool → List ℕ → List ℕ → List ℕ → List ℕ → Type 0
KnownArrays is_sound parents states reads writes = tables.KnownTable layout is_sound (arrays parents states reads writes)

-- One step: the answer and the arrays after it are those of the line's request, or 8 and no change where it has none; the arrays are again those of a
-- sound bench.
abbrev pub Stepped : Option Request → List ℕ → List ℕ → List ℕ → List ℕ → ℕ → List ℕ → List ℕ → List ℕ → List ℕ → Type 0
Stepped q parents states reads writes answer parents' states' reads' writes' =
    tables.Stepped layout q (arrays parents states reads writes) answer (arrays parents' states' reads' writes')

-- A line has ended: the answer and the arrays after it are those of its request, or 8 and no change where it has none; lengths and soundness are as they
-- were.
abbrev pub LineEnded : Bool → Option Request → List ℕ → List ℕ → List ℕ → List ℕ → ℕ → List ℕ → List ℕ → List ℕ → List ℕ → Type 0
LineEnded is_sound q parents states reads writes answer parents' states' reads' writes' =
    tables.LineEnded layout is_sound q (arrays parents states reads writes) answer (arrays parents' states' reads' writes')

-- Where the arrays are those of a sound bench, what is kept beside them is that bench's.
abbrev pub KnownIndex : Bool → List ℕ → List ℕ → List ℕ → List ℕ → ℕ → Type 0
KnownIndex = tables.KnownIndex 64

-- A family has left the arrays.
abbrev pub Freed : ℕ → List ℕ → List ℕ → List ℕ → List ℕ → List ℕ → List ℕ → List ℕ → List ℕ → Type 0
Freed a parents states reads writes parents' states' reads' writes' =
    tables.Freed layout a (arrays parents states reads writes) (arrays parents' states' reads' writes')

-- A family has been aborted: it drains or has left the arrays. No set changes.
abbrev pub Aborted : ℕ → List ℕ → List ℕ → List ℕ → List ℕ → List ℕ → List ℕ → Type 0
Aborted a parents states reads writes parents' states' =
    tables.Aborted layout a (arrays parents states reads writes) (arrays parents' states' reads writes)

-- ---- an action ends, by its frame's code: 5 for a commit, 6 for an abort

-- Where it is accepted a family leaves the tree with it: an abort's, or that of a top that commits, whose parent's byte is 0.
abbrev pub frees_by : ℕ → ℕ → Bool
frees_by code up = tables.frees_by (eqb code 6) up

-- What leaves the tree: the family of x where one does, and else nobody.
abbrev pub FreedIn : List ℕ → List ℕ → ℕ → ℕ → ℕ → Type 0
FreedIn parents states code x gone = tables.FreedIn 64 parents states (eqb code 6) x gone
