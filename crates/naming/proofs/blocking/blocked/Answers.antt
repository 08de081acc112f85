-- `blocked` meets its contract: the least of the blocking set, with the sets of heirs that it stands in. Assumes nothing.
use mathlib.Core.Path.{◌≡◌}
use Prim.Native.Nat.{ℕ, ◌%◌}
use native.Mathlib.Omega.{arith}
use borrow.Author.Rules.{rules}
use Rattle.marks.specs.Requests.{code_of, first_of}
use Rattle.naming.proofs.Blockers.{blocked_in_lem}
use Rattle.naming.proofs.blocking.blocked.Goals as goal

pub returns : goal.returns
returns c =
    let a = c.args in
    let first : ℕ = first_of a.asked in
    let same : first % 64 % 64 ≡ first % 64 = omega arith in
    blocked_in_lem a.parents.now a.states.now a.readers a.writers (code_of a.asked) (first % 64) c.owners_of-reading.result c.owners_of-writing.result c.line_of-line.result
    c.conflicting.result
    c.difference.result
    (record {
      readers_are = c.owners_of-reading.ensures;
      writers_are = c.owners_of-writing.ensures;
      line_is = rw (c.first_number.ensures, same) at c.line_of-line.ensures;
      conflicting_is = rw c.writes.ensures at c.conflicting.ensures;
      blocking_is = c.difference.ensures;
      fits = search rules;
      reading_fits = search rules;
      writing_fits = search rules;
    })
    c.least-blocker.result
    c.member.result
    c.member-2.result
    c.drains.result
    c.least-blocker.ensures
    c.member.ensures
    c.member-2.ensures
    c.drains.ensures
