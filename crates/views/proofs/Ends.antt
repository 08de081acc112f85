-- What the code of an accepted frame is, by what it isn't. Assumes nothing.
use mathlib.Core.Path.{◌≡◌, ap}
use mathlib.Core.Option.{none, some}
use Prim.Native.Nat.{ℕ, ◌<◌}
use native.Mathlib.Omega.{arith}
use borrow.Author.Tests.{eqb-true, eqb-false}
use lib.Dec.{eqb}
use Rattle.rules.specs.Answers.{Outcome}
use Rattle.rules.specs.Frames.{framed}
use Rattle.rules.proofs.Tests.{by_bool}
use Rattle.rules.proofs.Frames.{unframed}
use Rattle.tables.specs.Table.{Table}
use Rattle.tables.specs.Steps.{Stepped, ending}
use Rattle.views.specs.View.{layout}

module _ {before after : Table} {answer : ℕ} (code x y : ℕ) where
  -- a line without a request is not accepted
  never : framed code x y ≡ none → Stepped layout (framed code x y) before answer after → answer ≡ 0 → ⊥
  never malformed st z = let eight : answer ≡ 8 = ap (λ (o : Outcome). o.answer) (rw malformed at st.outcome) in omega arith

  -- a code below 3 whose line is accepted, and isn't 1, is 2
  pub second_code : code < 3 → (code ≡ 1 → ⊥) → Stepped layout (framed code x y) before answer after → answer ≡ 0 → code ≡ 2
  second_code low other st z =
      by_bool (eqb code 2) (eqb-true code 2)
      (λ t. let differs = eqb-false code 2 t in
      let zeroth : code ≡ 0 = omega arith in
      absurd (never (rw zeroth) st z))

  -- a code above 4 whose line is accepted, and isn't 7, is a commit's or an abort's
  pub ending_code : 4 < code → (code ≡ 7 → ⊥) → Stepped layout (framed code x y) before answer after → answer ≡ 0 →
      Stepped layout (some (ending (eqb code 6) x)) before answer after
  ending_code above other st z =
      by_bool (eqb code 6) (λ t. rw t (rw (eqb-true code 6 t) at st))
      (λ t. by_bool (eqb code 5) (λ u. rw t (rw (eqb-true code 5 u) at st))
      (λ u. let not6 = eqb-false code 6 t in
      let not5 = eqb-false code 5 u in
      let beyond : (code ≡ 7 → ⊥) → 7 < code = λ not7. omega arith in
      absurd (never (unframed code x y (beyond other)) st z)))

  -- a code above 6 whose line is accepted is 7
  pub quiet_code : 6 < code → Stepped layout (framed code x y) before answer after → answer ≡ 0 → code ≡ 7
  quiet_code above st z =
      by_bool (eqb code 7) (eqb-true code 7)
      (λ t. let not7 = eqb-false code 7 t in
      absurd (never (unframed code x y (omega arith)) st z))
