-- `put` of a reason meets its contract. Assumes nothing.
use mathlib.Core.Path.{sym, ◌∙◌, ap}
use Prim.Native.Nat.{◌+◌, ◌≤◌, ◌^◌, ◌<◌}
use native.Mathlib.Omega.{arith}
use borrow.Author.Rules.{rules}
use borrow.Author.Tests.{leb-true, leb-false}
use lib.ListN.{length}
use Rattle.naming.specs.Text.{reason_text}
use Rattle.play.proofs.Saying.{text_put, text_small, text_bytes, text_size, put_within, none_put}
use Rattle.play.proofs.telling.ReasonsTelling.put.Goals as goal

pub returns-then-not-has_room : goal.returns-then-not-has_room
returns-then-not-has_room c = none_put (leb-false _ _ (sym c.has_room.ensures ∙ c.if-not-has_room.true))

pub overflow_add-end : goal.overflow_add-end
overflow_add-end c =
    let a = c.args in
    let room : a.at + 23 ≤ length a.out.now = leb-true _ _ (sym c.has_room.ensures ∙ c.if-not-has_room.false) in
    let small = text_small c.named_of_request.result c.text_of-text.result c.text_of-text.ensures in
    let known : length a.out.now < 2 ^ 64 = search rules in
    record { fits = omega arith }

pub returns : goal.returns
returns c =
    let a = c.args in
    let text = c.text_of-text.result in
    let told = c.text_of-text.ensures in
    let small = text_small c.named_of_request.result text told in
    let fits : a.at + 23 ≤ length a.out.now = leb-true _ _ (sym c.has_room.ensures ∙ c.if-not-has_room.false) in
    let room : a.at + text.size ≤ length a.out.now = omega arith in
    put_within fits
    (text_put (text_size c.named_of_request.result text told) room c.copy_from_slice.ensures.after
    (text_bytes c.named_of_request.result text told ∙ ap reason_text (c.named_of_request.ensures ∙ rw c.instrument_of-i.ensures)))
