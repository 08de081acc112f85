-- `sets::member` meets its contract: below 64 the digit that the shift leads to is k's, and a word has no member at 64 or above. Assumes nothing.
use Rattle.std.proofs.Common.{◌≡◌, ◌%◌, ◌≤◌, sym, ◌∙◌, arith, le-ltb}
use Rattle.sets.specs.Sets.{member}
use Rattle.sets.proofs.Laws.{member_outside}
use Rattle.sets.proofs.member.Goals as goal

pub returns-then-k-lt64 : goal.returns-then-k-lt64
unfolding member
returns-then-k-lt64 c =
    let place : c.args.k % 64 ≡ c.args.k = omega arith in
    rw place

pub returns-else-k-lt64 : goal.returns-else-k-lt64
returns-else-k-lt64 c =
    let past : 64 ≤ c.args.k = omega arith in
    le-ltb c.args.k 64 past ∙ sym (member_outside 64 c.args.s c.args.k (omega arith) past)
