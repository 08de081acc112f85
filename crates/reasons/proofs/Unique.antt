-- `explain` has one result for each record and frame. Assumes nothing.
use mathlib.Core.Path.{◌≡◌, sym, ◌∙◌}
use Prim.Native.Nat.{ℕ}
use Rattle.rules.specs.ReadWrite.{read_write}
use Rattle.rules.specs.Reasons.{reason_of}
use Rattle.rules.specs.Frames.{framed}
use Rattle.bench.specs.declared.Bench.{Bench}
use Rattle.bench.specs.Record.{viewed}
use Rattle.naming.specs.declared.Reason.{Reason}
use Rattle.naming.specs.Told.{told}

-- r is what `explain` ensures
abbrev pub Explains : Bench → ℕ → ℕ → ℕ → Reason → Type 0
Explains b code x y r = r ≡ told (reason_of read_write (viewed b) (framed code x y))

pub explain_unique : (b : Bench) (code x y : ℕ) (r s : Reason) → Explains b code x y r → Explains b code x y s → r ≡ s
explain_unique b code x y r s er es = er ∙ sym es
