-- `named_of_request` meets its contract: 5 names the smallest running child. Assumes nothing.
use Prim.Native.Nat.{ℕ, ◌+◌, ◌%◌}
use Rattle.marks.specs.Requests.{first_of}
use Rattle.naming.proofs.Blockers.{child_number}
use Rattle.naming.proofs.named_of_request.Goals as goal

pub returns-in-HasRunningChild : goal.returns-in-HasRunningChild
returns-in-HasRunningChild c =
    let a = c.args in
    let child = c.first_child in
    let parent : ℕ = first_of a.asked % 64 + 1 in
    let found = rw c.first_number.ensures at child.ensures in
    rw (c.naming-in-HasRunningChild.ensures, c.number_alone.ensures, c.unwrap_or-child.ensures, c.in-Err.is, c.in-HasRunningChild.is, child_number a.parents.now a.states.now parent child.result found.is found.first found.none)
