-- Reading frames into a list of two halves has one result: one place where they end, and one content of the list. Assumes nothing.
use mathlib.Core.Path.{◌≡◌, sym, ◌∙◌, ap}
use mathlib.Core.List.{List, ◌++◌}
use Prim.Native.Nat.{ℕ, ◌+◌}
use borrow.Author.Tests.{eqb-true, eqb-false}
use lib.Dec.{eqb}
use lib.ListN.{length, take-append-drop}
use Rattle.rules.proofs.Tests.{by_bool}
use Rattle.forms.specs.Kinds.{Kind}
use Rattle.forms.specs.WellShaped.{Taken}
use Rattle.loading.specs.Halves.{halves, ReadInto}

pub read_unique : (K : Kind) (n : ℕ) (text : List ℕ) (from : ℕ) (before : List ℕ) (x y : ℕ) (after₁ after₂ : List ℕ) → ReadInto K n text from before x after₁ → ReadInto K n text from before y after₂ → (x ≡ y) × (after₁ ≡ after₂)
read_unique K n text from before x y after₁ after₂ p q =
    by_bool (eqb (length before) (n + n))
    (λ h.
    let both = eqb-true (length before) (n + n) h in
    let same : halves n x after₁ ≡ halves n y after₂ = p.read both ∙ sym (q.read both) in
    (ap (λ (t : Taken). t.at) same, sym (take-append-drop n after₁) ∙ ap (λ (t : Taken). t.first ++ t.second) same ∙ take-append-drop n after₂))
    (λ h.
    let never = eqb-false (length before) (n + n) h in
    let a = p.other never in
    let b = q.other never in
    (a.0 ∙ sym b.0, a.1 ∙ sym b.1))
