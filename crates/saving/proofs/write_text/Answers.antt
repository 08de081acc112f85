-- `write_text` meets its contract: the part of the text that numbers add and the part behind it that instruments add make the text. Assumes nothing.
use Rattle.bench.specs.declared.Bench.{Bench}
use Rattle.saving.proofs.WrittenText.{actions_room, instruments_room, text_written}
use Rattle.saving.proofs.write_text.Goals as goal

pub write_cells-at-requires : goal.write_cells-at-requires
write_cells-at-requires c =
    -- the record whose text is written
    let bench : Bench = let a = c.args in record { parents = a.parents.now; states = a.states.now; reads = a.reads.now; writes = a.writes.now } in
    actions_room bench c.args.out.now c.requires

pub write_cells-requires : goal.write_cells-requires
write_cells-requires c =
    -- the record whose text is written
    let bench : Bench = let a = c.args in record { parents = a.parents.now; states = a.states.now; reads = a.reads.now; writes = a.writes.now } in
    instruments_room bench c.write_cells-at.ensures c.requires

pub returns : goal.returns
returns c =
    -- the record whose text is written
    let bench : Bench = let a = c.args in record { parents = a.parents.now; states = a.states.now; reads = a.reads.now; writes = a.writes.now } in
    text_written bench c.write_cells-at.ensures c.write_cells.ensures
