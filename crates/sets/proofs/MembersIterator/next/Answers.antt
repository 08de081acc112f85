-- `next` meets its contract: a set falls with its least member. Assumes nothing.
use Rattle.std.proofs.Common.{rules, ◌<◌, arith}
use Rattle.sets.specs.Sets.{without, least}
use Rattle.sets.proofs.Laws.{without_falls, least_member, least_inside}
use Rattle.sets.proofs.MembersIterator.next.Goals as goal

pub returns-clause-goes : goal.returns-clause-goes
returns-clause-goes c =
    let s = c.args.self.now.0 in
    let falls : without 64 s (least 64 s) < s = without_falls 64 s (least 64 s) (least_inside 64 s (omega arith) c.if-self-eq0.false) (least_member 64 s (omega arith) c.if-self-eq0.false) in
    search rules
