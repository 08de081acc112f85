-- `stand_well` meets its contract: where nobody drains the numbers in sets decide, and else the table of the states' bytes. Assumes nothing.
use borrow.Author.Tests.{ne_eqb}
use lib.Dec.{leb}
use lib.ListN.{get_or}
use mathlib.Core.Bool.{◌&&◌, and-true}
use mathlib.Core.Path.{sym, ◌∙◌, ap}
use native.Mathlib.Omega.{arith}
use Rattle.rules.proofs.Tests.{or_left, all_at, all_by}
use Rattle.sets.specs.Sets.{member}
use Rattle.tables.proofs.Told.{none_with_free, bytes_decide}
use Rattle.tables.specs.Owners.{of_members}
use Rattle.tables.specs.Soundness.{drain_fits}
use Rattle.tables.specs.Tree.{in_use}
use Rattle.soundness.proofs.draining.stand_well.Goals as goal

pub returns-then-nobody_drains : goal.returns-then-nobody_drains
returns-then-nobody_drains c =
    let states = c.args.states.now in
    let numbers = c.args.numbers in
    let nobody = sym c.nobody_drains.ensures ∙ c.if-nobody_drains.true in
    c.none_free.ensures
    ∙ sym (ap (λ u. of_members 64 numbers (in_use states) && u)
    (all_by 64 (drain_fits 64 states (member numbers)) (λ k l. or_left (leb (get_or states k 0) 2) _ (all_at 64 (λ j. leb (get_or states j 0) 2) nobody k l)))
    ∙ and-true (of_members 64 numbers (in_use states)))

pub returns-then-absent-eq0 : goal.returns-then-absent-eq0
returns-then-absent-eq0 c =
    rw (none_with_free 64 c.args.states.now c.args.numbers, ← c.missing-absent.ensures 0 (omega arith), c.if-absent-eq0.true)

pub returns : goal.returns
returns c =
    let states = c.args.states.now in
    let absent = c.missing-absent.result in
    rw (none_with_free 64 states c.args.numbers, ← c.missing-absent.ensures 0 (omega arith), ne_eqb (get_or absent 0 0) 0 c.if-absent-eq0.false)
    (c.all_zero.ensures ∙ bytes_decide 64 states absent c.misfits-table.result c.args.numbers c.requires c.missing-absent.ensures c.misfits-table.ensures)
