use Prim.Native.Nat.{◌-◌, ◌<◌}
use borrow.Author.Rules.{rules}
use mathlib.Core.Bool.{true, false}
use mathlib.Core.Option.{some}
use mathlib.Core.Path.{◌≡◌, refl, sym, ◌∙◌}
use native.Mathlib.Nat.{mod-eq_of_lt}
use native.Mathlib.Omega.{arith}
use Rattle.sets.specs.Sets.{member, without}
use Rattle.sets.proofs.Laws.{without_falls}
use Rattle.rules.proofs.Tests.{clash}
use Rattle.tables.specs.Table.{parent_of}
use Rattle.tables.specs.Tree.{up_of}
use Rattle.tables.proofs.Bytes.{parents_known, names_one}
use Rattle.tables.proofs.Taken.{taken_least}
use Rattle.tables.proofs.Climbs.{climbing_start, climbing_turn, climbing_ends, climbing_ring}
use Rattle.soundness.proofs.chains.climb.Goals as goal

pub bounds-parents-least : goal.bounds-parents-least
bounds-parents-least c =
    -- the number that the climb starts from
    let first = taken_least 64 c.args.rest c.least.result c.least.ensures (search rules) c.requires.0 in
    first.known

pub loop-up-init : goal.loop-up-init
loop-up-init c =
    -- the number that the climb starts from
    let first = taken_least 64 c.args.rest c.least.result c.least.ensures (search rules) c.requires.0 in
    let parents = c.args.parents.now in
    let rest = c.args.rest in
    let k = c.least.result in
    let known = first.known in
    rw (c.from-up.ensures, c.without_least-left.ensures, ← c.least.ensures) (
      c.requires.1 k known,
      without_falls 64 rest k known first.was,
      climbing_turn 64 (up_of parents) rest (parents_known 64 parents c.requires.1) rest k (climbing_start 64 (up_of parents) rest k known),
    )

pub loop-up-smaller : goal.loop-up-smaller
loop-up-smaller c =
    -- the number that the climb has come to, and which is left
    let next : (0 < c.loop-up.up) × (member c.loop-up.left (c.loop-up.up - 1) ≡ true) × (parent_of c.loop-up.up ≡ some (c.loop-up.up - 1)) = names_one (member c.loop-up.left) c.loop-up.up (sym c.names_one.ensures ∙ c.loop-up-test.true) in
    let next_known : c.loop-up.up - 1 < 64 = c.loop-up.invariant.2.known (c.loop-up.up - 1) next.2 in
    -- the set that is left after a turn
    let left_next : c.without-left.result ≡ without 64 c.loop-up.left (c.loop-up.up - 1) = rw (mod-eq_of_lt next_known) at c.without-left.ensures in
    let falls : c.without-left.result < c.loop-up.left = rw left_next (without_falls 64 c.loop-up.left (c.loop-up.up - 1) next_known next.1) in
    falls

pub loop-up-preserved : goal.loop-up-preserved
loop-up-preserved c =
    -- the number that the climb has come to, and which is left
    let next : (0 < c.loop-up.up) × (member c.loop-up.left (c.loop-up.up - 1) ≡ true) × (parent_of c.loop-up.up ≡ some (c.loop-up.up - 1)) = names_one (member c.loop-up.left) c.loop-up.up (sym c.names_one.ensures ∙ c.loop-up-test.true) in
    let next_known : c.loop-up.up - 1 < 64 = c.loop-up.invariant.2.known (c.loop-up.up - 1) next.2 in
    -- the set that is left after a turn
    let left_next : c.without-left.result ≡ without 64 c.loop-up.left (c.loop-up.up - 1) = rw (mod-eq_of_lt next_known) at c.without-left.ensures in
    let falls : c.without-left.result < c.loop-up.left = rw left_next (without_falls 64 c.loop-up.left (c.loop-up.up - 1) next_known next.1) in
    let parents = c.args.parents.now in
    let known = next_known in
    let part = c.loop-up.invariant.1 in
    let less = falls in
    rw (c.from-up-in-loop-up.ensures, mod-eq_of_lt known) (
      c.requires.1 (c.loop-up.up - 1) known,
      omega arith,
      rw left_next
          (climbing_turn 64 (up_of parents) c.args.rest (parents_known 64 parents c.requires.1) c.loop-up.left (c.loop-up.up - 1)
          (rw next.2 at c.loop-up.invariant.2)),
    )

pub returns-then-names_one : goal.returns-then-names_one
returns-then-names_one c =
    record {
      fewer = λ t. clash false t refl;
      endless = λ t.
          climbing_ring 64 (up_of c.args.parents.now) c.args.rest c.loop-up.left (parent_of c.loop-up.up) c.loop-up.invariant.2
          (sym c.names_one.ensures ∙ c.loop-up-test.false)
          (sym c.names_one-2.ensures ∙ c.if-names_one.true);
    }

pub returns : goal.returns
returns c =
    record {
      fewer = λ t. (
        c.loop-up.invariant.1,
        climbing_ends 64 (up_of c.args.parents.now) c.args.rest c.loop-up.left (parent_of c.loop-up.up) c.loop-up.invariant.2 c.requires.2
            (sym c.names_one-2.ensures ∙ c.if-names_one.false),
      );
      endless = λ t. clash true refl t;
    }
