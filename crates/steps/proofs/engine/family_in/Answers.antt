-- `family_in` meets its contract: the word that is gathered is the set of the family. Assumes nothing.
use mathlib.Core.Path.{◌≡◌}
use Prim.Native.Nat.{◌%◌}
use native.Mathlib.Omega.{arith}
use borrow.Author.Rules.{rules}
use Rattle.steps.proofs.Gathered.{family_found}
use Rattle.steps.proofs.engine.family_in.Goals as goal

pub returns : goal.returns
returns c =
    let args = c.args in
    let e : args.a % 64 % 64 ≡ args.a % 64 = omega arith in
    family_found args.parents.now args.a c.family_of.result (search rules) (λ k. rw e at (c.family_of.ensures k))
