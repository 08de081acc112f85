-- `character` meets its contract: 48 on for a digit below ten, and 87 on for the others. Assumes nothing.
use native.Mathlib.Omega.{arith}
use Prim.Native.Nat.{◌%◌}
use borrow.Author.Tests.{lt-ltb, le-ltb}
use Rattle.digits.proofs.character.Goals as goal

pub returns-then-low-lt10 : goal.returns-then-low-lt10
returns-then-low-lt10 c = rw (lt-ltb (c.args.d % 16) 10 (omega arith))

pub returns-else-low-lt10 : goal.returns-else-low-lt10
returns-else-low-lt10 c = rw (le-ltb (c.args.d % 16) 10 (omega arith))
