-- `digit` meets its contract: a shift by four bits a digit is a division by a power of 16. Assumes nothing.
use native.Mathlib.Nat.{mod-mod}
use Rattle.saving.proofs.WrittenDigits.{shift_digits}
use Rattle.saving.proofs.cells.digit.Goals as goal

pub returns : goal.returns
returns c = rw (c.character.ensures, shift_digits, mod-mod)
