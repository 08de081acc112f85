-- From what the methods ensure: every request on a sound record leaves a sound record, and the empty record is sound. Assumes nothing.
use mathlib.Core.Path.{◌≡◌, ap, ◌∙◌}
use mathlib.Core.Bool.{true}
use Rattle.rules.specs.Requests.{Request}
use Rattle.rules.specs.Sound.{sound}
use Rattle.rules.specs.ReadWrite.{read_write}
use Rattle.rules.proofs.Kept.{empty_sound, step_keeps_sound}
use Rattle.bench.specs.declared.Bench.{Bench}
use Rattle.bench.specs.declared.Reply.{Reply}
use Rattle.bench.specs.Record.{viewed}
use Rattle.bench.specs.Plays.{IsEmpty, Returns}

pub reply_keeps_sound : (b : Bench) (r : Reply) (q : Request) → sound read_write (viewed b) ≡ true → Returns b q r → sound read_write (viewed r.bench) ≡ true
reply_keeps_sound b r q ok e = ap (λ o. sound read_write o.next) e ∙ step_keeps_sound read_write (viewed b) q ok

pub empty_record_sound : (r : Bench) → IsEmpty r → sound read_write (viewed r) ≡ true
empty_record_sound r e = ap (sound read_write) e ∙ empty_sound read_write
