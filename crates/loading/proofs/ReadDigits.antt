-- What n digits write: the number lies below 16 to the n, and one digit more, as a loop that counts up adds it. And the bytes of a part of a text.
use mathlib.Core.Path.{◌≡◌, refl, ◌∙◌}
use mathlib.Core.List.{List, [], ◌∷◌}
use mathlib.Core.Bool.{Bool, ◌&&◌, and_comm, and_assoc, and-true}
use Prim.Native.Nat.{ℕ, zero, suc, ◌+◌, ◌-◌, ◌*◌, ◌%◌, ◌^◌, ◌<◌, ◌≤◌}
use native.Mathlib.Nat.{pow-le-pow_right}
use native.Mathlib.Numerals.{add-one}
use native.Mathlib.Omega.{arith}
use lib.Dec.{ltb}
use lib.ListN.{length, get_or, take, drop, length-drop}
use lib.Seq.{take-suc}
use Rattle.std.specs.List.{fold, list_all}
use Rattle.std.proofs.lemmas.Grind.{common_steps}
use borrow.Author.Rules.{rules}
use Rattle.std.proofs.lemmas.List.{get_or-take, get_or-drop}
use Rattle.std.proofs.lemmas.List.Folds.{list_all-append}
use Rattle.rules.specs.Tests.{all}
use Rattle.forms.specs.WellShaped.{digit_of, digits_at, number_at}
use Rattle.forms.proofs.Hex.{number_fits}

-- a pass that joins the test of each element tells whether all meet it
pub all_joined : {A : Type 0} (test : A → Bool) (ok : Bool) (xs : List A) → fold (λ b x. b && test x) ok xs ≡ (ok && list_all test xs)
all_joined test ok [] = rw and-true
all_joined test ok (x ∷ xs) = rw (all_joined test (ok && test x) xs, and_assoc)

module _ (text : List ℕ) (at : ℕ) where
  -- the part of n bytes from `at` on, and its bytes
  pub part_long : (n : ℕ) → at + n ≤ length text → length (take (at + n - at) (drop at text)) ≡ n
  part_long n l = search (rules, common_steps)

  pub part_byte : (n j : ℕ) → j < n → get_or (take (at + n - at) (drop at text)) j 0 ≡ get_or text (at + j) 0
  part_byte n j l = get_or-take (at + n - at) (drop at text) j 0 (omega arith) ∙ get_or-drop at text j 0

  pub number_more : (n : ℕ) → number_at text at (n + 1) ≡ number_at text at n * 16 + digit_of (get_or text (at + n) 0) % 16
  unfolding number_at
  number_more n = rw add-one

  -- a further digit leaves the number within a word
  pub number_in_word : (n : ℕ) → n < 16 → number_at text at n < 16 ^ 15
  number_in_word n l = let h = number_fits n text at in let p = pow-le-pow_right {n = 16} (omega arith) {i = n} {j = 15} (omega arith) in omega arith

  pub digits_part : (n : ℕ) → at + n ≤ length text → list_all (λ c. ltb (digit_of c) 16) (take n (drop at text)) ≡ digits_at text at n
  unfolding digits_at all
  digits_part zero l = refl
  digits_part (suc n) l =
      rw (take-suc (drop at text) n 0 (rw length-drop (omega arith)), list_all-append, get_or-drop, digits_part n (omega arith), and-true)
      (and_comm (digits_at text at n) (ltb (digit_of (get_or text (at + n) 0)) 16))
