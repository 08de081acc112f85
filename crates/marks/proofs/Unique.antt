-- No two answers have one number, and no two requests are one of the rules' requests: a contract that gives the number, or the rules' request, gives the result. Each is told
-- by what can be read back. Assumes nothing.
use mathlib.Core.Path.{◌≡◌, refl, sym, ◌∙◌, ap}
use Prim.Native.Nat.{ℕ, zero, suc, ◌≤◌, ◌<◌}
use native.Mathlib.Omega.{arith}
use Rattle.std.proofs.Math.Option as math
use Rattle.std.specs.Prelude.{⊤, ◌⊎◌, Result, Ok, Err, Option, Some, None, eqb, if◌then◌else◌}
use Rattle.rules.specs.Requests as rules
use Rattle.marks.specs.declared.answers.Refusal.{Refusal}
use Rattle.marks.specs.declared.answers.Refusal.TheVariants.{NoSuchAction, NoSuchInstrument, NotFree, NotRunning, HasRunningChild, NotGranted, Unsound, Malformed, NoRoom, NotDraining, TooLong}
use Rattle.marks.specs.declared.answers.NoRefusal.{NoRefusal}
use Rattle.marks.specs.declared.requests.Request.{Request}
use Rattle.marks.specs.declared.requests.Request.TheVariants.{OpenTop, OpenSub, Read, Write, Commit, Abort, Quiet}
use Rattle.marks.specs.Answers.{refusal_number, answer_number, Decodes}
use Rattle.marks.specs.Requests.{meant_by}

-- the answer of a number
abbrev answer_of : ℕ → Result ⊤ Refusal
answer_of zero = Ok tt
answer_of (suc zero) = Err NoSuchAction
answer_of (suc (suc zero)) = Err NoSuchInstrument
answer_of (suc (suc (suc zero))) = Err NotFree
answer_of (suc (suc (suc (suc zero)))) = Err NotRunning
answer_of (suc (suc (suc (suc (suc zero))))) = Err HasRunningChild
answer_of (suc (suc (suc (suc (suc (suc zero)))))) = Err NotGranted
answer_of (suc (suc (suc (suc (suc (suc (suc zero))))))) = Err Unsound
answer_of (suc (suc (suc (suc (suc (suc (suc (suc zero)))))))) = Err Malformed
answer_of (suc (suc (suc (suc (suc (suc (suc (suc (suc zero))))))))) = Err NoRoom
answer_of (suc (suc (suc (suc (suc (suc (suc (suc (suc (suc zero)))))))))) = Err NotDraining
answer_of (suc (suc (suc (suc (suc (suc (suc (suc (suc (suc (suc n))))))))))) = Err TooLong

answer_back : (answer : Result ⊤ Refusal) → answer_of (answer_number answer) ≡ answer
answer_back (Ok u) = refl
answer_back (Err NoSuchAction) = refl
answer_back (Err NoSuchInstrument) = refl
answer_back (Err NotFree) = refl
answer_back (Err NotRunning) = refl
answer_back (Err HasRunningChild) = refl
answer_back (Err NotGranted) = refl
answer_back (Err Unsound) = refl
answer_back (Err Malformed) = refl
answer_back (Err NoRoom) = refl
answer_back (Err NotDraining) = refl
answer_back (Err TooLong) = refl

pub answers_told : (a b : Result ⊤ Refusal) → answer_number a ≡ answer_number b → a ≡ b
answers_told a b e = sym (answer_back a) ∙ ap answer_of e ∙ answer_back b

refusals_told : (r s : Refusal) → refusal_number r ≡ refusal_number s → r ≡ s
refusals_told r s e = let same : ◌≡◌ {A = Result ⊤ Refusal} (Err r) (Err s) = answers_told (Err r) (Err s) e in cc

-- the numbers of refusals are those from 1 to 11
number_within : (refusal : Refusal) → (1 ≤ refusal_number refusal) × (refusal_number refusal ≤ 11)
number_within NoSuchAction = (omega arith, omega arith)
number_within NoSuchInstrument = (omega arith, omega arith)
number_within NotFree = (omega arith, omega arith)
number_within NotRunning = (omega arith, omega arith)
number_within HasRunningChild = (omega arith, omega arith)
number_within NotGranted = (omega arith, omega arith)
number_within Unsound = (omega arith, omega arith)
number_within Malformed = (omega arith, omega arith)
number_within NoRoom = (omega arith, omega arith)
number_within NotDraining = (omega arith, omega arith)
number_within TooLong = (omega arith, omega arith)

no_refusal : (refusal : Refusal) (number : ℕ) → refusal_number refusal ≡ number → (number ≡ 0) ⊎ (11 < number) → ⊥
no_refusal refusal number e outside = let within = number_within refusal in omega arith

-- no second result is what `try_from` gives for a number
pub refusal_unique : (number : ℕ) (r s : Result Refusal NoRefusal) → Decodes number r → Decodes number s → r ≡ s
refusal_unique number (Ok r) (Ok s) er es = ap Ok (refusals_told r s (er ∙ sym es))
refusal_unique number (Ok r) (Err s) er es = absurd (no_refusal r number er es.1)
refusal_unique number (Err r) (Ok s) er es = absurd (no_refusal s number es er.1)
refusal_unique number (Err r) (Err s) er es = ap (λ n. Err (record { 0 = n })) (er.0 ∙ sym es.0)

-- the request of a request of the rules; their modes are 0 to read and 1 to write
abbrev request_of : math.Option rules.Request → Option Request
request_of math.none = None
request_of (math.some (rules.open_top n)) = Some (OpenTop n)
request_of (math.some (rules.open_sub n p)) = Some (OpenSub n p)
request_of (math.some (rules.ask m a i)) = Some (if eqb m 0 then Read a i else Write a i)
request_of (math.some (rules.commit a)) = Some (Commit a)
request_of (math.some (rules.abort a)) = Some (Abort a)
request_of (math.some (rules.quiet a i)) = Some (Quiet a i)

request_back : (asked : Option Request) → request_of (meant_by asked) ≡ asked
request_back None = refl
request_back (Some (OpenTop n)) = refl
request_back (Some (OpenSub n p)) = refl
request_back (Some (Read a i)) = refl
request_back (Some (Write a i)) = refl
request_back (Some (Commit a)) = refl
request_back (Some (Abort a)) = refl
request_back (Some (Quiet a i)) = refl

pub requests_told : (a b : Option Request) → meant_by a ≡ meant_by b → a ≡ b
requests_told a b e = sym (request_back a) ∙ ap request_of e ∙ request_back b
