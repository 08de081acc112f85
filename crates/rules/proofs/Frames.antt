-- What a frame's code says of its request. Assumes nothing.
use mathlib.Core.Path.{◌≡◌, refl}
use mathlib.Core.Bool.{true, false, ◌||◌}
use mathlib.Core.Option.{none, some}
use Prim.Native.Nat.{ℕ, zero, suc, ◌≤◌, ◌<◌}
use native.Mathlib.Omega.{arith}
use borrow.Author.Tests.{eqb-true, eqb-false, eq-eqb, ne_eqb}
use lib.Dec.{eqb}
use Rattle.rules.specs.Requests.{Request, open_top, open_sub, ask, commit, abort, quiet}
use Rattle.rules.specs.ReadWrite.{mode_of, read, write}
use Rattle.rules.specs.Frames.{framed}
use Rattle.rules.proofs.Tests.{by_bool, by_or, clash, or_left, or_right}

-- Codes 1 to 7 have a request, and no other code has one.
pub request_of : (code x y : ℕ) → (code ≡ 0 → ⊥) → code ≤ 7 → (q : Request) × (framed code x y ≡ some q)
request_of zero x y nonzero small = absurd (nonzero refl)
request_of (suc zero) x y nonzero small = (open_top x, refl)
request_of (suc (suc zero)) x y nonzero small = (open_sub x y, refl)
request_of (suc (suc (suc zero))) x y nonzero small = (read x y, refl)
request_of (suc (suc (suc (suc zero)))) x y nonzero small = (write x y, refl)
request_of (suc (suc (suc (suc (suc zero))))) x y nonzero small = (commit x, refl)
request_of (suc (suc (suc (suc (suc (suc zero)))))) x y nonzero small = (abort x, refl)
request_of (suc (suc (suc (suc (suc (suc (suc zero))))))) x y nonzero small = (quiet x y, refl)
request_of (suc (suc (suc (suc (suc (suc (suc (suc code)))))))) x y nonzero small = absurd (omega arith)

pub unframed : (code x y : ℕ) → 7 < code → framed code x y ≡ none
unframed code x y l =
    rw (
      ne_eqb code 1 (λ e. omega arith),
      ne_eqb code 2 (λ e. omega arith),
      ne_eqb code 3 (λ e. omega arith),
      ne_eqb code 4 (λ e. omega arith),
      ne_eqb code 5 (λ e. omega arith),
      ne_eqb code 6 (λ e. omega arith),
      ne_eqb code 7 (λ e. omega arith),
    )

-- Codes 3 and 4 are asks: to read, and to write.
pub framed_ask : (code x y : ℕ) → 3 ≤ code → code < 5 → framed code x y ≡ some (ask (mode_of (eqb code 4)) x y)
framed_ask code x y low high =
    by_bool (eqb code 4)
    (λ t. rw (eqb-true code 4 t))
    (λ t. let three : code ≡ 3 = (let differs = eqb-false code 4 t in omega arith) in rw three)

-- what a look for codes 3 and 4 says of the code
pub ask_code : (code : ℕ) → (eqb code 3 || eqb code 4) ≡ true → (3 ≤ code) × (code < 5)
ask_code code h =
    by_or (eqb code 3) (eqb code 4) h
    (λ t. let three = eqb-true code 3 t in (omega arith, omega arith))
    (λ t. let four = eqb-true code 4 t in (omega arith, omega arith))

pub end_code : (code : ℕ) → (eqb code 3 || eqb code 4) ≡ false → 3 ≤ code → 4 < code
end_code code h low =
    let no_three : code ≡ 3 → ⊥ = (λ e. clash (eqb code 3 || eqb code 4) (or_left (eqb code 3) (eqb code 4) (eq-eqb code 3 e)) h) in
    let no_four : code ≡ 4 → ⊥ = (λ e. clash (eqb code 3 || eqb code 4) (or_right (eqb code 3) (eqb code 4) (eq-eqb code 4 e)) h) in
    omega arith
