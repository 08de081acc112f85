-- What is written for a line, from the arrays that it left, is what is said of the bench before it: the laws of `Answers` and of `Reasons`. Assumes nothing.
use Rattle.std.specs.Prelude.{ℕ, ◌+◌, ◌%◌, ◌<◌, get_or}
use Rattle.std.proofs.Common.{sym, ap, ◌∙◌, subst, mod-lt, lit≤}
use Rattle.rules.specs.Frames.{framed}
use Rattle.marks.specs.Requests.{code_of, first_of, second_of}
use Rattle.views.specs.Arrays.{LineEnded}
use Rattle.lines.specs.Lines.{answer_text, answer_line}
use Rattle.steps.specs.Arrays.{read_sets, write_sets}
use Rattle.steps.proofs.Halves.{read_set_at, write_set_at}
use Rattle.steps.proofs.RequestLaws.{framed_meant}
use Rattle.naming.specs.Blocking.{named_in}
use Rattle.naming.specs.Text.{reason_text, reason_line}
use Rattle.naming.proofs.Telling.{told_after}
use Rattle.play.specs.Known.{feeding_in}
use Rattle.play.specs.Telling.{answer_after, reason_after, TextSaid}

pub answer_said : TextSaid answer_after answer_line
answer_said is_sound before parents states owners index asked answer done = ap (λ o. answer_text o.answer) done.ended.outcome

pub reason_said : TextSaid reason_after reason_line
reason_said is_sound before parents states owners index asked answer done =
    ap (λ readers. reason_text (named_in parents states readers (get_or owners (128 + i) 0) code x y answer)) (sym (read_set_at owners i known))
    ∙ ap (λ writers. reason_text (named_in parents states (get_or (read_sets owners) i 0) writers code x y answer)) (sym (write_set_at owners i known))
    ∙ ap reason_text (told_after code x y ended)
    ∙ ap (reason_line (feeding_in before 0 0).bench) (framed_meant asked)
  where
    code : ℕ
    code = code_of asked

    x : ℕ
    x = first_of asked

    y : ℕ
    y = second_of asked

    i : ℕ
    i = y % 128

    known : i < 128
    known = mod-lt y (lit≤ tt)

    ended : LineEnded is_sound (framed code x y) before.parents before.states (read_sets before.owners) (write_sets before.owners) answer parents states (read_sets owners) (write_sets owners)
    ended =
        subst (λ q. LineEnded is_sound q before.parents before.states (read_sets before.owners) (write_sets before.owners) answer parents states (read_sets owners) (write_sets owners))
        (sym (framed_meant asked))
        done.ended
