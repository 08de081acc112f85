use Prim.Native.Nat.{◌-◌, ◌^◌}
use mathlib.Core.Path.{refl, sym, ◌∙◌}
use Rattle.tables.specs.Tree.{up_of}
use Rattle.tables.proofs.Bytes.{parents_known}
use Rattle.tables.proofs.Climbs.{lower_chains, higher_chains, none_known, chains_end, chain_endless}
use Rattle.tables.proofs.Descendants.{member_ones}
use Rattle.soundness.proofs.chains.chains_end.Goals as goal

pub returns-then-parents_lower : goal.returns-then-parents_lower
returns-then-parents_lower c = sym (lower_chains 64 c.args.parents.now (sym c.parents_lower.ensures ∙ c.if-parents_lower.true))

pub returns-then-parents_higher : goal.returns-then-parents_higher
returns-then-parents_higher c =
    sym (higher_chains 64 c.args.parents.now c.requires (sym c.parents_higher.ensures ∙ c.if-parents_higher.true))

pub loop-rest-init : goal.loop-rest-init
loop-rest-init c = none_known 64 (up_of c.args.parents.now) (2 ^ 64 - 1) (member_ones 64)

pub returns-in_default : goal.returns-in_default
returns-in_default c =
    let endless = c.in_default.ensures.endless refl in
    sym (chain_endless 64 (up_of c.args.parents.now) endless.0 endless.1 endless.2)

pub returns : goal.returns
returns c =
    let parents = c.args.parents.now in
    sym (chains_end 64 (up_of parents) (parents_known 64 parents c.requires) (rw c.loop-rest-test.false at c.loop-rest.invariant))
