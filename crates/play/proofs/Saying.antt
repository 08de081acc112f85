-- A text that is copied into a buffer: an answer's, a digit, or an answer's reason's. Assumes nothing.
use Rattle.std.specs.Prelude.{⊤, Result, Ok, Err}
use borrow.Rule.Slice.PartMut.{put_mid}
use mathlib.Core.Path.{◌≡◌, refl, sym, ◌∙◌, ap}
use mathlib.Core.List.{List}
use Prim.Native.Nat.{ℕ, ◌+◌, ◌-◌, ◌≤◌, ◌<◌}
use native.Mathlib.Omega.{arith}
use lib.ListN.{length, take}
use lib.Seq.{sets}
use Rattle.copies.proofs.CopyLaws.{put_part}
use Rattle.marks.specs.declared.answers.Refusal.{Refusal}
use Rattle.marks.specs.declared.answers.Refusal.TheVariants.{NoSuchAction, NoSuchInstrument, NotFree, NotRunning, HasRunningChild, NotGranted, Unsound, Malformed, NoRoom, NotDraining, TooLong}
use Rattle.marks.specs.Answers.{refusal_number, answer_number}
use Rattle.naming.specs.declared.Reason.{Reason}
use Rattle.naming.specs.declared.text.Text.{Text}
use Rattle.naming.specs.Text.{longest, reason_text, text_of}
use Rattle.naming.proofs.Texts.{text_short, text_front}
use Rattle.play.specs.Feeding.{PutAs}
use Rattle.play.specs.Telling.{PutWithin}

-- so much of a buffer holds the text that was copied there
pub text_put : {out new text said : List ℕ} {at n : ℕ} → n ≡ length text → at + n ≤ length out → new ≡ text → text ≡ said → PutAs said out at (put_mid at (at + n - at) out new) (at + n)
text_put {out} {new} {text} {said} {at} size room same is =
    let fits : at + length text ≤ length out = rw (← size) room in
    record {
      wrote = rw size (put_part out text new at fits same) ∙ ap (sets out at) is;
      up_to = rw size (ap (λ (t : List ℕ). at + length t) is);
    }

-- the bytes of a reason's text
pub text_small : (r : Reason) (text : Text) → text ≡ text_of r → text.size ≤ longest
text_small r text e = rw e (text_short r)

pub text_bytes : (r : Reason) (text : Text) → text ≡ text_of r → take text.size text.bytes ≡ reason_text r
text_bytes r text e = rw e (text_front r)

pub text_size : (r : Reason) (text : Text) → text ≡ text_of r → text.size ≡ length (take text.size text.bytes)
text_size r text e = ap (λ (t : Text). t.size) e ∙ ap length (sym (text_bytes r text e))

-- the room for a text, and none
pub put_within : {width : ℕ} {text out out' : List ℕ} {at at' : ℕ} → at + width ≤ length out → PutAs text out at out' at' → PutWithin width text out at out' at'
put_within room put = record { put = λ _. put; kept = λ none. absurd (omega arith) }

pub none_put : {width : ℕ} {text out : List ℕ} {at : ℕ} → length out < at + width → PutWithin width text out at out at
none_put none = record { put = λ room. absurd (omega arith); kept = λ _. (refl, refl) }

-- an answer's number is a digit
refusal_small : (refusal : Refusal) → refusal_number refusal < 16
refusal_small NoSuchAction = omega arith
refusal_small NoSuchInstrument = omega arith
refusal_small NotFree = omega arith
refusal_small NotRunning = omega arith
refusal_small HasRunningChild = omega arith
refusal_small NotGranted = omega arith
refusal_small Unsound = omega arith
refusal_small Malformed = omega arith
refusal_small NoRoom = omega arith
refusal_small NotDraining = omega arith
refusal_small TooLong = omega arith

pub answer_small : (answer : Result ⊤ Refusal) → answer_number answer < 16
answer_small (Ok u) = omega arith
answer_small (Err refusal) = refusal_small refusal
