-- How the soundness test and a row make an answer. Assumes nothing.
use mathlib.Core.Path.{◌≡◌, refl, sym}
use mathlib.Core.Bool.{true, cond}
use Prim.Native.Nat.{ℕ}
use native.Mathlib.Omega.{arith}
use Rattle.rules.specs.Bench.{Bench}
use Rattle.rules.specs.Requests.{Request}
use Rattle.rules.specs.Answers.{row, answer_of}
use Rattle.rules.specs.Sound.{sound}
use Rattle.rules.specs.ReadWrite.{read_write}
use Rattle.rules.proofs.Tests.{by_bool}
use Rattle.tables.proofs.Steps.{answer_sound}

module _ (b : Bench) where
  -- What the test lets through is sound.
  pub tested_sound : ◌≡◌ {A = ℕ} 0 (cond (sound read_write b) 0 7) → true ≡ sound read_write b
  tested_sound tells =
      by_bool (sound read_write b) (λ ok. sym ok) (λ bad. absurd (let seven : ◌≡◌ {A = ℕ} 0 7 = rw bad at tells in omega arith))

  -- What it refuses is answered by its number,
  pub refused_answer : (q : Request) {tested : ℕ} → tested ≡ cond (sound read_write b) 0 7 → (tested ≡ 0 → ⊥) → tested ≡ answer_of read_write b q
  unfolding answer_of
  refused_answer q tells nonzero =
      by_bool (sound read_write b) (λ ok. absurd (nonzero (rw ok at tells))) (λ bad. rw bad (rw bad at tells))

  -- and what it lets through by the row.
  pub row_answer : (q : Request) → ◌≡◌ {A = ℕ} 0 (cond (sound read_write b) 0 7) → row read_write b q ≡ answer_of read_write b q
  row_answer q tells = answer_sound read_write b q true (tested_sound tells) refl
