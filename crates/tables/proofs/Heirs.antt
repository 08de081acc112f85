-- The nearest running number, met by going up from a number of any bytes; and on a sound bench, that it is the heir. Assumes nothing.
use Rattle.std.specs.Prelude.{if◌then◌else◌}
use mathlib.Core.Path.{◌≡◌, refl, ap}
use mathlib.Core.Bool.{Bool, false, or-false}
use mathlib.Core.List.{List}
use mathlib.Core.Option.{Option, none, some}
use Prim.Native.Nat.{ℕ, zero, suc, ◌<◌}
use borrow.Author.Tests.{eqb-true, eqb-false}
use lib.Dec.{eqb}
use lib.ListN.{get_or}
use Rattle.rules.specs.Tests.{from}
use Rattle.rules.specs.Bench.{is_running}
use Rattle.rules.specs.Owners.{nearest, heir}
use Rattle.rules.proofs.Tests.{by_bool, by_parent, from_cong}
use Rattle.rules.proofs.Facts.{SoundNumber, sound_facts}
use Rattle.tables.specs.Tree.{up_of, tree, tree_state_of, SoundTree, known_up, nearest_from, tree_shape}
use Rattle.tables.specs.Reach.{reaches, waits_for}
use Rattle.tables.proofs.States.{tree_headless}
use Rattle.tables.proofs.Lines.{up_known}

-- a byte that isn't 1 isn't that of a running number
pub not_running : (s : ℕ) → (s ≡ 1 → ⊥) → is_running (tree_state_of s) ≡ false
not_running zero h = refl
not_running (suc zero) h = absurd (h refl)
not_running (suc (suc zero)) h = refl
not_running (suc (suc (suc s))) h = refl

-- Where of the numbers of some kind, to which their parents belong too, only running ones are hit, and those by a test, one is met going up exactly if the
-- test holds of the nearest running one.
module _ (n : ℕ) (parents states : List ℕ) (hit test : ℕ → Bool) (Kind : ℕ → Type 0) (up : (k p : ℕ) → Kind k → known_up n parents k ≡ some p → Kind p)
    (runs : (k : ℕ) → Kind k → get_or states k 0 ≡ 1 → hit k ≡ test k) (waits : (k : ℕ) → Kind k → (get_or states k 0 ≡ 1 → ⊥) → hit k ≡ false) where
  pub met_nearest : (reach k : ℕ) → Kind k →
      reaches reach hit (waits_for n parents states) k ≡ from (nearest (suc reach) (λ j. tree_state_of (get_or states j 0)) (known_up n parents) k) false test
  unfolding reaches nearest
  met_nearest zero k of_kind =
      by_bool (eqb (get_or states k 0) 1) (λ t. let e = eqb-true (get_or states k 0) 1 t in rw e (runs k of_kind e))
      (λ t. let e = eqb-false (get_or states k 0) 1 t in rw (not_running (get_or states k 0) e, waits k of_kind e) (nobody (known_up n parents k)))
    where
      nobody : (o : Option ℕ) → false ≡ from {A = Bool} (from {A = Option ℕ} o none (λ p. none)) false test
      nobody none = refl
      nobody (some p) = refl
  met_nearest (suc reach) k of_kind =
      by_bool (eqb (get_or states k 0) 1) (λ t. let e = eqb-true (get_or states k 0) 1 t in rw (e, runs k of_kind e) (or-false (test k)))
      (λ t. let e = eqb-false (get_or states k 0) 1 t in
      rw (not_running (get_or states k 0) e, waits k of_kind e, t)
      (by_parent (known_up n parents k) (λ top. rw top) (λ p above. rw above (met_nearest reach p (up k p of_kind above)))))

module _ (n : ℕ) (parents states : List ℕ) (ok : SoundTree n parents states) where
  facts : (k : ℕ) → k < n → SoundNumber (tree_shape n) (tree parents states) k
  facts = sound_facts (tree_shape n) (tree parents states) ok

  -- on a sound bench the nearest running one is the heir
  pub nearest_heir : (k : ℕ) → k < n → nearest_from n parents states k ≡ heir (tree_shape n) (tree parents states) k
  unfolding heir nearest
  nearest_heir k l = rw (tree_headless (get_or states k 0)) (within n k l)
    where
      within : (left x : ℕ) → x < n → nearest left (λ j. tree_state_of (get_or states j 0)) (known_up n parents) x ≡ nearest left (λ j. tree_state_of (get_or states j 0)) (up_of parents) x
      within zero x lx = refl
      within (suc left) x lx =
          rw (up_known n parents (states, ok) x lx)
          (ap (λ o. if is_running (tree_state_of (get_or states x 0)) then some x else o)
          (from_cong (up_of parents x) none (λ p o. o)
          (nearest left (λ j. tree_state_of (get_or states j 0)) (known_up n parents))
          (nearest left (λ j. tree_state_of (get_or states j 0)) (up_of parents))
          (λ p e. within left p ((facts x lx).parent_known p e))))
