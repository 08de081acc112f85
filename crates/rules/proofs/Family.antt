-- Families in a sound bench: an action and its descendants, told from the parent's family with no number of steps.
use mathlib.Core.Path.{◌≡◌, refl}
use mathlib.Core.Bool.{true, false, ◌||◌, or-false}
use mathlib.Core.Option.{none, some}
use Prim.Native.Nat.{ℕ, ◌<◌}
use lib.Dec.{eqb}
use borrow.Author.Tests.{eq-eqb}
use Rattle.rules.specs.Bench.{Shape, Bench}
use Rattle.rules.specs.Owners.{is_ancestor, in_family}
use Rattle.rules.specs.Sound.{sound}
use Rattle.rules.proofs.Tests.{clash, or_left, or_right, refuted}
use Rattle.rules.proofs.Walks.{ancestor_none, ancestor_up}

module _ (sh : Shape) (b : Bench) (ok : sound sh b ≡ true) where
  pub family_self : (a : ℕ) → in_family sh b a a ≡ true
  unfolding in_family
  family_self a = or_left (eqb a a) (is_ancestor sh b a a) (eq-eqb a a refl)

  pub family_top : (a k : ℕ) → b.parent k ≡ none → in_family sh b a k ≡ eqb k a
  unfolding in_family
  family_top a k e = rw (ancestor_none sh b ok a k e) (or-false (eqb k a))

  pub family_child : (a k p : ℕ) → k < sh.actions → b.parent k ≡ some p → in_family sh b a k ≡ (eqb k a || in_family sh b a p)
  unfolding in_family
  family_child a k p l e = rw (ancestor_up sh b ok a k p l e)

  -- a number outside a family has its parent outside it
  pub family_closed : (a k p : ℕ) → k < sh.actions → b.parent k ≡ some p → in_family sh b a k ≡ false → in_family sh b a p ≡ false
  family_closed a k p l e out =
      refuted (in_family sh b a p)
      (λ h. clash (in_family sh b a k) (rw (family_child a k p l e) (or_right (eqb k a) (in_family sh b a p) h)) out)
