-- `store_text` meets its contract: a buffer that is too short is left alone, and else the text is written. Assumes nothing.
use Prim.Native.Nat.{◌≤◌}
use native.Mathlib.Omega.{arith}
use lib.ListN.{length}
use Rattle.bench.specs.declared.Bench.{Bench}
use Rattle.forms.specs.Text.{text_of}
use Rattle.saving.proofs.WrittenText.{too_short, stored_whole}
use Rattle.saving.proofs.store_text.Goals as goal

pub returns-then-out-text_length : goal.returns-then-out-text_length
returns-then-out-text_length c =
    -- the record whose text is stored
    let bench : Bench = let a = c.args in record { parents = a.parents.now; states = a.states.now; reads = a.reads.now; writes = a.writes.now } in
    let n = c.text_length.ensures c.args.parents.now in too_short bench c.args.out.now (omega arith)

pub write_text-requires : goal.write_text-requires
write_text-requires c =
    -- the record whose text is stored
    let bench : Bench = let a = c.args in record { parents = a.parents.now; states = a.states.now; reads = a.reads.now; writes = a.writes.now } in
    -- there is room for the text
    let room : length (text_of bench) ≤ length c.args.out.now = let n = c.text_length.ensures c.args.parents.now in omega arith in
    room

pub returns : goal.returns
returns c =
    -- the record whose text is stored
    let bench : Bench = let a = c.args in record { parents = a.parents.now; states = a.states.now; reads = a.reads.now; writes = a.writes.now } in
    -- there is room for the text
    let room : length (text_of bench) ≤ length c.args.out.now = let n = c.text_length.ensures c.args.parents.now in omega arith in
    stored_whole bench room c.write_text.ensures
