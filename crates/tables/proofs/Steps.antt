-- How answers and next benches make a step: the answer of an unsound bench, that of a sound one, and the outcome of a request that is accepted or
-- refused. Assumes nothing.
use mathlib.Core.Path.{◌≡◌, refl, sym, ◌∙◌}
use mathlib.Core.Bool.{Bool, true, false, not}
use Prim.Native.Nat.{ℕ}
use native.Mathlib.Omega.{arith}
use borrow.Author.Tests.{ne_eqb, not-true, not-false}
use Rattle.rules.specs.Bench.{Shape, Bench}
use Rattle.rules.specs.Owners.{granted}
use Rattle.rules.specs.Requests.{Request, effect}
use Rattle.rules.specs.Answers.{row, answer_of, Outcome, step}
use Rattle.rules.specs.Sound.{sound}
use Rattle.rules.proofs.Tests.{by_bool}
use Rattle.rules.proofs.Accepted.{Accepted, accepted}

module _ (sh : Shape) (b : Bench) (q : Request) where
  -- `ok` is what the soundness test found
  pub answer_unsound : (ok : Bool) → ok ≡ sound sh b → not ok ≡ true → 7 ≡ answer_of sh b q
  unfolding answer_of
  answer_unsound ok e h = rw (← e, not-true ok h)

  pub answer_sound : (ok : Bool) → ok ≡ sound sh b → not ok ≡ false → row sh b q ≡ answer_of sh b q
  unfolding answer_of
  answer_sound ok e h = rw (← e, not-false ok h)

  -- What an answer 0 says: the bench is sound, and what the request asks holds.
  pub record Granted : Type 0 where
    pub is_sound : sound sh b ≡ true
    pub facts : Accepted (granted sh b) sh b q

  pub granted_by : (a : ℕ) → a ≡ answer_of sh b q → a ≡ 0 → Granted
  granted_by a e z =
      by_bool (sound sh b)
      (λ ok. record { is_sound = ok; facts = accepted (granted sh b) sh b q (answer_sound true (sym ok) refl ∙ sym e ∙ z) })
      (λ broken. absurd (let seven : ◌≡◌ {A = ℕ} 7 0 = answer_unsound false (sym broken) refl ∙ sym e ∙ z in omega arith))

  pub step_accepted : (a : ℕ) (next : Bench) → a ≡ answer_of sh b q → a ≡ 0 → next ≡ effect sh b q → ◌≡◌ {A = Outcome} (record { answer = a; next = next }) (step sh b q)
  unfolding step
  step_accepted a next e z h = rw (← e, z, h)

  pub step_refused : (a : ℕ) → a ≡ answer_of sh b q → (a ≡ 0 → ⊥) → ◌≡◌ {A = Outcome} (record { answer = a; next = b }) (step sh b q)
  unfolding step
  step_refused a e nonzero = rw (← e, ne_eqb a 0 nonzero)
