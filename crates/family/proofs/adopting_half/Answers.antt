use Prim.Native.Nat.{◌≤◌, ◌<◌}
use native.Mathlib.Omega.{arith}
use borrow.Author.Rules.{rules}
use borrow.Author.Tests.{leb-true}
use lib.Dec.{leb}
use lib.ListN.{get_or}
use Rattle.rules.proofs.Tests.{all_at}
use Rattle.tables.proofs.Descendants.{gathered_more}
use Rattle.family.proofs.adopting_half.Goals as goal

pub adopting-grown-requires : goal.adopting-grown-requires
adopting-grown-requires c =
    -- the parent of the number at hand lies below it
    let lower : c.loop-k.k < 64 → get_or c.args.parents.now c.loop-k.k 0 ≤ c.loop-k.k = λ inside. let parents = c.args.parents.now in
    leb-true (get_or parents c.loop-k.k 0) c.loop-k.k (all_at 64 (λ k. leb (get_or parents k 0) k) c.requires.1 c.loop-k.k inside) in
    let inside : c.loop-k.k < 64 = omega arith in
    let low = lower inside in
    (inside, omega arith)

pub loop-k-preserved : goal.loop-k-preserved
loop-k-preserved c =
    -- the parent of the number at hand lies below it
    let lower : c.loop-k.k < 64 → get_or c.args.parents.now c.loop-k.k 0 ≤ c.loop-k.k = λ inside. let parents = c.args.parents.now in
    leb-true (get_or parents c.loop-k.k 0) c.loop-k.k (all_at 64 (λ k. leb (get_or parents k 0) k) c.requires.1 c.loop-k.k inside) in
    let inside : c.loop-k.k < 64 = omega arith in (
      search rules,
      λ a g.
          rw c.adopting-grown.ensures
          (gathered_more 64 c.args.parents.now a c.loop-k.grown c.loop-k.k inside (lower inside) (c.loop-k.invariant.1 a g)),
    )
