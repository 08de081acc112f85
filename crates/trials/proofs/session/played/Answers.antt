use Rattle.std.proofs.Common.{sym, ◌∙◌, arith, ◌≡◌, length}
use Rattle.std.proofs.lemmas.Result.{IfOk-weaker}
use Rattle.bench.specs.Record.{viewed}
use Rattle.trials.proofs.Texts.{text_more, text_ended}
use Rattle.trials.proofs.session.played.Goals as goal

pub loop-c-preserved : goal.loop-c-preserved
loop-c-preserved g c =
    rw (c.in_ok-b.ensures, c.read_on-reading.ensures, ← text_more (viewed c.loop-c.b) c.loop-c.reading c.args.text.now c.loop-c.c-index c.loop-c-test.true)
    c.loop-c.invariant

-- at the end nothing is left of the text
pub returns : goal.returns
returns g c =
    let text = c.args.text.now in
    let e : c.loop-c.c-index ≡ length text = omega arith in
    IfOk-weaker c.after_read.result _ _
    (λ last done. done ∙ sym (text_ended (viewed c.loop-c.b) c.loop-c.reading text) ∙ (rw e at c.loop-c.invariant))
    c.after_read.ensures
