-- A pass over a list that joins the test of each element tells whether it holds of all, or of any. Assumes nothing.
use Prim.Native.Nat.{ℕ, zero, suc, ◌+◌, ◌≤◌}
use mathlib.Core.Bool.{Bool, true, false, ◌&&◌, ◌||◌}
use mathlib.Core.List.{List}
use mathlib.Core.Path.{◌≡◌, refl, sym, ◌∙◌, ap}
use native.Mathlib.Numerals.{add-one}
use native.Mathlib.Omega.{arith}
use denote.Param.Members.{Mut}
use lib.ListN.{length, get_or, take}
use Rattle.std.specs.Prelude.{Option}
use Rattle.std.specs.Fn.{Called}
use Rattle.std.specs.Iterator.{Drains}
use Rattle.std.specs.List.{fold, FoldsTo}
use Rattle.std.proofs.lemmas.Iterator.{YieldsList}
use Rattle.std.proofs.lemmas.Iterator.Consumers.{fold_from_yields_List}
use Rattle.std.proofs.lemmas.List.{take_all}
use Rattle.std.proofs.lemmas.List.Sums.{fold_more}
use Rattle.rules.specs.Tests.{all, any}
use Rattle.rules.proofs.Tests.{all_more, any_more}

-- ---- what a fold says of its list: `says` reads it off what was joined, and each element joins its test to it

module _ {A C : Type 0} (says : C → Bool) (join : C → A → C) (start : C) (test : A → Bool) (missing : A) where
  -- the fold of the first elements, and of one more
  one_more : (n : ℕ) (xs : List A) → suc n ≤ length xs → fold join start (take (suc n) xs) ≡ join (fold join start (take n xs)) (get_or xs n missing)
  one_more n xs l =
      let step : fold join start (take (n + 1) xs) ≡ join (fold join start (take n xs)) (get_or xs n missing) = fold_more join start xs n missing (omega arith) in
      rw add-one at step

  all_taken : says start ≡ true → ((c : C) (x : A) → says (join c x) ≡ (says c && test x)) → (n : ℕ) (xs : List A) → n ≤ length xs →
      says (fold join start (take n xs)) ≡ all n (λ k. test (get_or xs k missing))
  unfolding all
  all_taken first next zero xs l = first
  all_taken first next (suc n) xs l =
      ap says (one_more n xs l) ∙ next (fold join start (take n xs)) (get_or xs n missing)
      ∙ ap (λ ok. ok && test (get_or xs n missing)) (all_taken first next n xs (omega arith)) ∙ sym (all_more n (λ k. test (get_or xs k missing)))

  any_taken : says start ≡ false → ((c : C) (x : A) → says (join c x) ≡ (says c || test x)) → (n : ℕ) (xs : List A) → n ≤ length xs →
      says (fold join start (take n xs)) ≡ any n (λ k. test (get_or xs k missing))
  unfolding any
  any_taken first next zero xs l = first
  any_taken first next (suc n) xs l =
      ap says (one_more n xs l) ∙ next (fold join start (take n xs)) (get_or xs n missing)
      ∙ ap (λ found. found || test (get_or xs n missing)) (any_taken first next n xs (omega arith)) ∙ sym (any_more n (λ k. test (get_or xs k missing)))

  pub all_folded : (n : ℕ) (xs : List A) → length xs ≡ n → says start ≡ true → ((c : C) (x : A) → says (join c x) ≡ (says c && test x)) →
      says (fold join start xs) ≡ all n (λ k. test (get_or xs k missing))
  all_folded n xs long first next = ap (λ ys. says (fold join start ys)) (sym (take_all n xs (omega arith))) ∙ all_taken first next n xs (omega arith)

  pub any_folded : (n : ℕ) (xs : List A) → length xs ≡ n → says start ≡ false → ((c : C) (x : A) → says (join c x) ≡ (says c || test x)) →
      says (fold join start xs) ≡ any n (λ k. test (get_or xs k missing))
  any_folded n xs long first next = ap (λ ys. says (fold join start ys)) (sym (take_all n xs (omega arith))) ∙ any_taken first next n xs (omega arith)

-- ---- what a call of `fold` gives whose closure joins a test by `&` or by `|`

module _ {S X A F : Type 0} {steps : S → Option X → S → Type 0} {v : X → A} {s : S} {xs : List A} (g : Mut F (Bool × (X × Unit {0})) Bool) (test : A → Bool) (missing : A) {n : ℕ} {f : F} (r : Bool) where
  pub all_passed : ((seen : List X) × (q : F) × Drains steps s seen × FoldsTo {P = F × Bool} (λ a x b. Called g a.0 (a.1, (x, tt)) b.1 b.0) (f, true) seen (q, r)) → YieldsList steps v s xs →
      length xs ≡ n → ((ok : Bool) (x : X) (b : Bool) (q : F) → Called g f (ok, (x, tt)) b q → (q ≡ f) × (b ≡ (ok && test (v x)))) → r ≡ all n (λ k. test (get_or xs k missing))
  all_passed ran yields long one =
      fold_from_yields_List g (λ ok x. ok && test x) true r ran yields one
      ∙ all_folded (λ ok. ok) (λ ok x. ok && test x) true test missing n xs long refl (λ ok x. refl)

  pub any_passed : ((seen : List X) × (q : F) × Drains steps s seen × FoldsTo {P = F × Bool} (λ a x b. Called g a.0 (a.1, (x, tt)) b.1 b.0) (f, false) seen (q, r)) → YieldsList steps v s xs →
      length xs ≡ n → ((found : Bool) (x : X) (b : Bool) (q : F) → Called g f (found, (x, tt)) b q → (q ≡ f) × (b ≡ (found || test (v x)))) → r ≡ any n (λ k. test (get_or xs k missing))
  any_passed ran yields long one =
      fold_from_yields_List g (λ found x. found || test x) false r ran yields one
      ∙ any_folded (λ found. found) (λ found x. found || test x) false test missing n xs long refl (λ found x. refl)
