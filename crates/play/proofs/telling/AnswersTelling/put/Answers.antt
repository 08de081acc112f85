-- `put` of an answer meets its contract. Assumes nothing.
use mathlib.Core.Path.{◌≡◌, refl, sym, ◌∙◌, ap}
use mathlib.Core.List.{[], ◌∷◌}
use Prim.Native.Nat.{ℕ, ◌%◌}
use native.Mathlib.Nat.{mod-eq_of_lt}
use borrow.Author.Tests.{leb-true, leb-false}
use Rattle.digits.specs.Digits.{hex_digit}
use Rattle.marks.specs.Answers.{answer_number}
use Rattle.play.proofs.Saying.{text_put, put_within, none_put, answer_small}
use Rattle.play.proofs.telling.AnswersTelling.put.Goals as goal

pub returns-then-not-has_room : goal.returns-then-not-has_room
returns-then-not-has_room c = none_put (leb-false _ _ (sym c.has_room.ensures ∙ c.if-not-has_room.true))

pub returns : goal.returns
returns c =
    let a = c.args in
    let room = leb-true _ _ (sym c.has_room.ensures ∙ c.if-not-has_room.false) in
    let digit : c.character.result ≡ hex_digit (answer_number a.answer) = c.character.ensures ∙ ap hex_digit (ap (λ n. n % 16) c.number.ensures ∙ mod-eq_of_lt (answer_small a.answer)) in
    put_within room (text_put refl room c.copy_from_slice.ensures.after (ap (λ (d : ℕ). 48 ∷ d ∷ 10 ∷ []) digit))
