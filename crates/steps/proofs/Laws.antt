-- On the arrays of a sound bench the steps are the steps of the rules: any step from its row and its change, and opens. Assumes nothing.
use Rattle.std.specs.Prelude.{if◌then◌else◌}
use mathlib.Core.Path.{◌≡◌, refl, sym, ◌∙◌, ap, subst}
use mathlib.Core.List.{List, []}
use mathlib.Core.Option.{Option, none, some}
use Prim.Native.Nat.{ℕ, ◌<◌}
use native.Mathlib.Omega.{arith}
use borrow.Author.Tests.{eqb-true, eqb-false}
use lib.Dec.{eqb}
use Rattle.rules.specs.Requests.{Request, open_top, open_sub}
use Rattle.rules.specs.Answers.{answer_of}
use Rattle.rules.specs.ReadWrite.{read_write}
use Rattle.rules.specs.Frames.{framed}
use Rattle.rules.proofs.Tests.{by_bool}
use Rattle.tables.proofs.InPlace.{refused_in_place, open_top_found, open_top_in_place, open_sub_found, open_sub_in_place}
use Rattle.steps.specs.Arrays.{Arrays, lent, view_of, SoundLists, SteppedTo}
use Rattle.rows.specs.Rows.{open_answer}
use Rattle.steps.specs.Changes.{opened}
use Rattle.steps.specs.Steps.{Took, Opened}
use Rattle.steps.proofs.Steps.{with_owners}

-- ---- any step

-- What a step of the rules leaves are again the arrays of a sound bench.
pub still_sound : {r : Option Request} {before : Arrays} {answer : ℕ} {after : Arrays} → SteppedTo r before answer after → SoundLists after
still_sound s = record { table = s.stepped.table; owners_long = s.owners_long }

-- A step is that of a request where its row is the request's answer, and what it changes where that is 0 is the request's effect.
pub took_steps : {before : Arrays} → SoundLists before → (q : Request) (first : ℕ) (changed : Arrays) {answer : ℕ} {after : Arrays} →
    first ≡ answer_of read_write (view_of before) q → (first ≡ 0 → SteppedTo (some q) before first changed) → Took first changed before answer after →
    SteppedTo (some q) before answer after
took_steps {before} ok q first changed {answer} {after} found granted d =
    subst (λ n. SteppedTo (some q) before n after) (sym d.answered)
    (by_bool (eqb first 0)
    (λ t. let e : after ≡ changed = left ∙ rw t in
    subst (λ b. SteppedTo (some q) before first b) (sym e) (granted (eqb-true first 0 t)))
    (λ t. let e : after ≡ before = left ∙ rw t in
    subst (λ b. SteppedTo (some q) before first b) (sym e)
    (record { stepped = refused_in_place ok.table q first found (eqb-false first 0 t); owners_long = ok.owners_long })))
  where
    left : after ≡ (if eqb first 0 then changed else before)
    left = d.left ∙ ap (λ (n : ℕ). if eqb n 0 then changed else before) d.answered

-- A step that answers 8 to a frame of no request changes nothing.
pub malformed_steps : {before : Arrays} → SoundLists before → (first : ℕ) (changed : Arrays) {answer : ℕ} {after : Arrays} → first ≡ 8 →
    Took first changed before answer after → SteppedTo none before answer after
malformed_steps {before} ok first changed {answer} {after} malformed d =
    let eight = d.answered ∙ malformed in
    subst (λ n. SteppedTo none before n after) (sym eight)
    (subst (λ b. SteppedTo none before 8 b) (sym (d.left ∙ ap (λ (n : ℕ). if eqb n 0 then changed else before) eight))
    (record { stepped = record { outcome = refl; table = ok.table }; owners_long = ok.owners_long }))

-- ---- opens

module _ {before : Arrays} (ok : SoundLists before) {after : Arrays} where
  pub opened_steps : {answer : ℕ} (code x y : ℕ) → code < 3 → Opened code x y before answer after → SteppedTo (framed code x y) before answer after
  opened_steps {answer} code x y below d =
      by_bool (eqb code 1)
      (λ t. let e = eqb-true code 1 t in rw e (top (rw e at d)))
      (λ t. by_bool (eqb code 2)
      (λ u. let e = eqb-true code 2 u in rw e (sub (rw e at d)))
      (λ u. let not1 = eqb-false code 1 t in let not2 = eqb-false code 2 u in
      let e : code ≡ 0 = omega arith in
      rw e (malformed_steps ok 8 (opened 0 x y before) refl (rw e at d))))
    where
      top : Opened 1 x y before answer after → SteppedTo (some (open_top x)) before answer after
      top d =
          let first = open_answer 1 x y before.states in
          let found = open_top_found ok.table x first refl in
          took_steps ok (open_top x) first (opened 1 x y before) found
          (λ z. record { stepped = open_top_in_place ok.table x first found z; owners_long = ok.owners_long }) d

      sub : Opened 2 x y before answer after → SteppedTo (some (open_sub x y)) before answer after
      sub d =
          let first = open_answer 2 x y before.states in
          let found = open_sub_found ok.table x y first refl in
          took_steps ok (open_sub x y) first (opened 2 x y before) found
          (λ z. record { stepped = open_sub_in_place ok.table x y first found z; owners_long = ok.owners_long }) d

-- the same from what is said of parents and states alone
pub open_steps : {parents states owners : List ℕ} → SoundLists (lent parents states owners) → {parents' states' : List ℕ} {answer : ℕ} (code x y : ℕ) → code < 3 →
    Opened code x y (lent parents states []) answer (lent parents' states' []) → SteppedTo (framed code x y) (lent parents states owners) answer (lent parents' states' owners)
open_steps {owners = owners} ok code x y below d = opened_steps ok code x y below (with_owners owners code x y d)
