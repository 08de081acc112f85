-- What a frame's code says of its request. Assumes nothing.
use Rattle.std.specs.Prelude.{if◌then◌else◌}
use mathlib.Core.Path.{◌≡◌, refl, sym, ◌∙◌}
use mathlib.Core.Bool.{Bool, true, false, ◌&&◌}
use mathlib.Core.Option.{Option, none, some, none-ne-some}
use Prim.Native.Nat.{ℕ, zero, suc}
use native.Mathlib.Omega.{arith}
use lib.Dec.{eqb}
use Rattle.rules.specs.Bench as rules
use Rattle.rules.specs.Requests.{Request, open_top, open_sub, ask, commit, abort, quiet}
use Rattle.rules.specs.Answers.{answer_of}
use Rattle.rules.specs.ReadWrite.{read_write, mode_of, read, write}
use Rattle.rules.specs.Reasons.{offending, child, reason_for, reason_of}
use Rattle.rules.proofs.Tests.{clash}
use Rattle.rules.proofs.Reasons.{acting}
use Rattle.rules.specs.Frames.{framed}
use Rattle.rules.proofs.Frames.{unframed}
use Rattle.naming.specs.Blocking.{offending_in}

-- ---- codes

-- What holds of each code and its request holds of every frame's.
by_code : (x y : ℕ) (P : ℕ → Request → Type 0) → P 1 (open_top x) → P 2 (open_sub x y) → P 3 (read x y) → P 4 (write x y) → P 5 (commit x) → P 6 (abort x) → P 7 (quiet x y) → (code : ℕ) (q : Request) → framed code x y ≡ some q → P code q
by_code x y P top sub reads writes commits aborts quiets code q e = cases code e
  where
    is : {r : Request} → some r ≡ some q → r ≡ q
    is h = cc

    cases : (code : ℕ) → framed code x y ≡ some q → P code q
    cases zero e = absurd (none-ne-some q e)
    cases (suc zero) e = rw (is e) at top
    cases (suc (suc zero)) e = rw (is e) at sub
    cases (suc (suc (suc zero))) e = rw (is e) at reads
    cases (suc (suc (suc (suc zero)))) e = rw (is e) at writes
    cases (suc (suc (suc (suc (suc zero))))) e = rw (is e) at commits
    cases (suc (suc (suc (suc (suc (suc zero)))))) e = rw (is e) at aborts
    cases (suc (suc (suc (suc (suc (suc (suc zero))))))) e = rw (is e) at quiets
    cases (suc (suc (suc (suc (suc (suc (suc (suc n)))))))) e =
        absurd (none-ne-some q (sym (unframed (suc (suc (suc (suc (suc (suc (suc (suc n)))))))) x y (omega arith)) ∙ e))

pub offending_framed : (x y answer code : ℕ) (q : Request) → framed code x y ≡ some q → offending_in code x y answer ≡ offending read_write q answer
unfolding offending
offending_framed x y answer =
    by_code x y (λ code q. offending_in code x y answer ≡ offending read_write q answer) (other (eqb answer 2)) refl (asked (eqb answer 2)) (asked (eqb answer 2))
    (other (eqb answer 2))
    (other (eqb answer 2))
    (asked (eqb answer 2))
  where
    other : (t : Bool) → (if t && false then y else x) ≡ x
    other true = refl
    other false = refl

    asked : (t : Bool) → (if t && true then y else x) ≡ (if t then y else x)
    asked true = refl
    asked false = refl

-- who has a child named is the first in the frame
pub child_framed : (b : rules.Bench) (k x y code : ℕ) (q : Request) → framed code x y ≡ some q → child read_write b q ≡ some k → acting q ≡ x
unfolding child
child_framed b k x y =
    by_code x y (λ code q. child read_write b q ≡ some k → acting q ≡ x) (λ e. refl) (λ e. absurd (none-ne-some k e)) (λ e. refl) (λ e. refl) (λ e. refl)
    (λ e. refl)
    (λ e. refl)

-- a frame that asks asks in its mode for its two numbers
pub asked_framed : (x y code m a i : ℕ) → framed code x y ≡ some (ask m a i) → ask m a i ≡ ask (mode_of (eqb code 4)) x y
asked_framed x y code m a i e =
    by_code x y (λ code q. is_ask q ≡ true → q ≡ ask (mode_of (eqb code 4)) x y) (λ h. clash false h refl) (λ h. clash false h refl) (λ h. refl) (λ h. refl) (λ h. clash false h refl)
    (λ h. clash false h refl)
    (λ h. clash false h refl)
    code
    (ask m a i)
    e
    refl
  where
    is_ask : Request → Bool
    is_ask (open_top n) = false
    is_ask (open_sub n p) = false
    is_ask (ask m a i) = true
    is_ask (commit a) = false
    is_ask (abort a) = false
    is_ask (quiet a i) = false

-- ---- answers

-- an answer other than 8 is a request's
pub is_request : (b : rules.Bench) (q : Option Request) (n : ℕ) → n ≡ (reason_of read_write b q).answer → (n ≡ 8 → ⊥) → (r : Request) × (q ≡ some r) × (answer_of read_write b r ≡ n)
unfolding reason_of reason_for
is_request b none n e other = absurd (other e)
is_request b (some r) n e other = (r, refl, sym e)
