-- `parent_in` meets its contract. Assumes nothing.
use Prim.Native.Nat.{◌+◌}
use mathlib.Core.Path.{ap}
use Rattle.tables.proofs.Adopting.{parent_digit}
use native.Mathlib.Omega.{arith}
use Rattle.family.proofs.parent_in.Goals as goal

pub returns : goal.returns
returns c =
    parent_digit 64 c.args.set c.args.up (c.from-ahead.result + 63) (omega arith) c.requires (ap (λ n. n + 63) c.from-ahead.ensures)
