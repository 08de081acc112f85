-- On the arrays of a sound bench a request in place is the step of the rules, or 8 and no change: what it has to know is in the arrays. Assumes nothing.
use Rattle.std.specs.Prelude.{Option, Some, None}
use mathlib.Core.Path.{◌≡◌, refl, ◌∙◌}
use mathlib.Core.Bool.{Bool, true}
use mathlib.Core.List.{List}
use Prim.Native.Nat.{ℕ, ◌%◌}
use native.Mathlib.Omega.{arith}
use borrow.Author.Tests.{ltb-true, ltb-false, eqb-true, eqb-false}
use lib.Dec.{ltb, eqb}
use lib.ListN.{length, get_or}
use Rattle.rules.proofs.Tests.{by_bool}
use Rattle.views.specs.Tree.{SoundParents}
use Rattle.views.specs.View.{layout, arrays}
use Rattle.views.specs.Index.{KnowsChild, KnowsFamily}
use Rattle.views.specs.Reach.{descends_known}
use Rattle.tables.proofs.ViewLaws.{parents_sound}
use Rattle.tables.proofs.Rows.{looked_for_child}
use Rattle.tables.proofs.Descendants.{known_family}
use Rattle.views.specs.Arrays.{frees_by}
use Rattle.rules.specs.Frames.{framed}
use Rattle.rules.proofs.Frames.{framed_ask}
use Rattle.marks.specs.declared.requests.Request.{Request}
use Rattle.marks.specs.declared.requests.Request.TheVariants.{OpenTop, OpenSub, Read, Write, Commit, Abort, Quiet}
use Rattle.marks.specs.Requests.{meant_by, code_of, first_of, second_of}
use Rattle.steps.specs.Arrays.{Arrays, read_sets, write_sets, SoundLists, SteppedTo}
use Rattle.rows.specs.Rows.{busy_in}
use Rattle.steps.specs.Changes.{family_freed}
use Rattle.steps.specs.Steps.{Requested}
use Rattle.steps.proofs.Gathered.{set_members}
use Rattle.steps.proofs.Laws.{opened_steps}
use Rattle.steps.proofs.EndLaws.{end_steps}
use Rattle.steps.proofs.QuietLaws.{quieted_steps}
use Rattle.steps.proofs.AskLaws.{ask_steps}

-- The family that is freed is that of the rules.
pub freed_knows : (parents states : List ℕ) → SoundParents parents → length parents ≡ 64 → (code x : ℕ) → frees_by code (get_or parents (x % 64) 0) ≡ true →
    KnowsFamily parents states x (family_freed code x parents)
freed_knows parents states ok long code x frees known runs k =
    rw frees (set_members (descends_known parents (x % 64)) 64 (omega arith) k ∙ known_family 64 parents ok long x known k)

pub request_steps : {before : Arrays} → SoundLists before → {answer : ℕ} {after : Arrays} (code x y : ℕ) → Requested code x y before answer after →
    SteppedTo (framed code x y) before answer after
request_steps {before} ok {answer} {after} code x y d =
    by_bool (ltb code 3)
    (λ t. opened_steps ok code x y (ltb-true code 3 t) (rw t at d))
    (λ t. by_bool (eqb code 7)
    (λ v. let e = eqb-true code 7 v in rw e (quieted_steps ok x y (rw e at d)))
    (λ v. by_bool (ltb code 5)
    (λ u. rw (framed_ask code x y (ltb-false code 3 t) (ltb-true code 5 u))
    (ask_steps ok (eqb code 4) busy 0 x y child (λ known. absurd (known refl)) (rw (t, v, u) at d)))
    (λ u. end_steps ok code busy (family_freed code x before.parents) x y (ltb-false code 5 u) (eqb-false code 7 v) child
    (freed_knows before.parents before.states sound ok.table.long.parents_long code x) (rw (t, v, u) at d))))
  where
    busy : Bool
    busy = busy_in before.parents before.states x

    child : KnowsChild before.parents before.states x busy
    child = looked_for_child 64 before.parents before.states x busy refl

    sound : SoundParents before.parents
    sound = parents_sound layout (arrays before.parents before.states (read_sets before.owners) (write_sets before.owners)) ok.table.is_sound

-- ---- a request as code has it

-- Written as a frame, it is the rules' request.
pub framed_meant : (asked : Option Request) → framed (code_of asked) (first_of asked) (second_of asked) ≡ meant_by asked
framed_meant None = refl
framed_meant (Some (OpenTop n)) = refl
framed_meant (Some (OpenSub n p)) = refl
framed_meant (Some (Read a i)) = refl
framed_meant (Some (Write a i)) = refl
framed_meant (Some (Commit a)) = refl
framed_meant (Some (Abort a)) = refl
framed_meant (Some (Quiet a i)) = refl

pub asked_steps : {before : Arrays} → SoundLists before → {answer : ℕ} {after : Arrays} (asked : Option Request) → Requested (code_of asked) (first_of asked) (second_of asked) before answer after →
    SteppedTo (meant_by asked) before answer after
asked_steps ok asked d = rw (← framed_meant asked) (request_steps ok (code_of asked) (first_of asked) (second_of asked) d)
