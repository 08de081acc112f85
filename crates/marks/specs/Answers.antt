-- The numbers of answers: 0 for a request that is accepted, and one for each reason why it is refused.
use Rattle.std.specs.Prelude.{⊤, ◌≡◌, ◌⊎◌, ℕ, ◌<◌, Result, MatchResult, Ok, Err}
use Rattle.marks.specs.declared.answers.Refusal.{Refusal}
use Rattle.marks.specs.declared.answers.NoRefusal.{NoRefusal}
use Rattle.marks.specs.declared.answers.Refusal.TheVariants.{NoSuchAction, NoSuchInstrument, NotFree, NotRunning, HasRunningChild, NotGranted, Unsound, Malformed, NoRoom, NotDraining, TooLong}

-- the number of a refusal
abbrev pub refusal_number : Refusal → ℕ
refusal_number NoSuchAction = 1
refusal_number NoSuchInstrument = 2
refusal_number NotFree = 3
refusal_number NotRunning = 4
refusal_number HasRunningChild = 5
refusal_number NotGranted = 6
refusal_number Unsound = 7
refusal_number Malformed = 8
refusal_number NoRoom = 9
refusal_number NotDraining = 10
refusal_number TooLong = 11

-- the number of an answer
abbrev pub answer_number : Result ⊤ Refusal → ℕ
answer_number (Ok _) = 0
answer_number (Err refusal) = refusal_number refusal

-- The result is the refusal with this number, or hands back a number that no refusal has.
abbrev pub Decodes : ℕ → Result Refusal NoRefusal → Type 0
Decodes number r =
    MatchResult r (λ refusal. refusal_number refusal ≡ number) (λ e. (e.0 ≡ number) × ((number ≡ 0) ⊎ (11 < number)))
