-- Whom an answer names by the request that a frame makes is whom it names by the frame's code and numbers. Assumes nothing.
use Rattle.std.specs.Prelude.{if◌then◌else◌, Option, Some, None, unwrap_or}
use mathlib.Core.Path.{◌≡◌, refl, sym, ◌∙◌}
use mathlib.Core.Bool.{Bool, true, false, ◌&&◌}
use mathlib.Core.List.{List}
use Prim.Native.Nat.{ℕ, zero, suc, ◌<◌}
use native.Mathlib.Omega.{arith}
use borrow.Author.Tests.{ne_eqb}
use lib.Dec.{eqb}
use Rattle.rules.specs.Frames.{framed}
use Rattle.rules.specs.Reasons.{smallest}
use Rattle.rules.proofs.Frames.{unframed}
use Rattle.marks.specs.declared.requests.Request.{Request}
use Rattle.marks.specs.declared.requests.Request.TheVariants.{OpenTop, OpenSub, Read, Write, Commit, Abort, Quiet}
use Rattle.marks.specs.Requests.{meant_by, code_of, first_of, second_of}
use Rattle.marks.proofs.Unique.{requests_told}
use Rattle.naming.specs.declared.Reason.{Reason}
use Rattle.naming.specs.Blocking.{offending_in, named_in}

-- no instrument is told of a frame that has none
alone : (answer y x : ℕ) → (if eqb answer 2 && false then y else x) ≡ x
alone answer y x = by_test (eqb answer 2)
  where
    by_test : (t : Bool) → (if t && false then y else x) ≡ x
    by_test true = refl
    by_test false = refl

module _ (parents states : List ℕ) (readers writers x y answer : ℕ) where
  abbrev by_numbers : ℕ → ℕ → Reason
  by_numbers code second = named_in parents states readers writers code x second answer

  -- A request of these numbers names whom the code names.
  named_alike : (code code' y' : ℕ) → eqb code' 4 ≡ eqb code 4 → offending_in code' x y' answer ≡ offending_in code x y answer → by_numbers code' y' ≡ by_numbers code y
  unfolding smallest
  named_alike code code' y' writes offends = rw (offends, writes)

  abbrev by_request : Request → Reason
  by_request r = named_in parents states readers writers (code_of (Some r)) (first_of (Some r)) (second_of (Some r)) answer

  abbrev NamedByCode : ℕ → Option Request → Type 0
  NamedByCode code asked = by_request (unwrap_or asked (Commit x)) ≡ by_numbers code y

  no_second : (if eqb answer 2 && false then 0 else x) ≡ (if eqb answer 2 && false then y else x)
  no_second = alone answer 0 x ∙ sym (alone answer y x)

  above : (code : ℕ) → 7 < code → NamedByCode code None
  above code l =
      named_alike code 5 0 (sym (ne_eqb code 4 (λ e. omega arith)))
      (rw (ne_eqb code 2 (λ e. omega arith), ne_eqb code 3 (λ e. omega arith), ne_eqb code 4 (λ e. omega arith), ne_eqb code 7 (λ e. omega arith)) no_second)

  -- The request that a frame makes, and a commit of its first number where it makes none, names whom its code names.
  pub named_alike_by_code : (code : ℕ) (asked : Option Request) → meant_by asked ≡ framed code x y → NamedByCode code asked
  named_alike_by_code zero asked e = rw (requests_told asked None e) (named_alike 0 5 0 refl no_second)
  named_alike_by_code (suc zero) asked e = rw (requests_told asked (Some (OpenTop x)) e) (named_alike 1 1 0 refl no_second)
  named_alike_by_code (suc (suc zero)) asked e = rw (requests_told asked (Some (OpenSub x y)) e) refl
  named_alike_by_code (suc (suc (suc zero))) asked e = rw (requests_told asked (Some (Read x y)) e) refl
  named_alike_by_code (suc (suc (suc (suc zero)))) asked e = rw (requests_told asked (Some (Write x y)) e) refl
  named_alike_by_code (suc (suc (suc (suc (suc zero))))) asked e = rw (requests_told asked (Some (Commit x)) e) (named_alike 5 5 0 refl no_second)
  named_alike_by_code (suc (suc (suc (suc (suc (suc zero)))))) asked e = rw (requests_told asked (Some (Abort x)) e) (named_alike 6 6 0 refl no_second)
  named_alike_by_code (suc (suc (suc (suc (suc (suc (suc zero))))))) asked e = rw (requests_told asked (Some (Quiet x y)) e) refl
  named_alike_by_code (suc (suc (suc (suc (suc (suc (suc (suc n)))))))) asked e =
      let high : 7 < suc (suc (suc (suc (suc (suc (suc (suc n))))))) = omega arith in
      rw (requests_told asked None (e ∙ unframed (suc (suc (suc (suc (suc (suc (suc (suc n)))))))) x y high)) (above (suc (suc (suc (suc (suc (suc (suc (suc n)))))))) high)
