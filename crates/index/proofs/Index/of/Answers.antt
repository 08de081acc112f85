-- `Index::of` meets its contract: the children, the lines and the running numbers are those of the bytes, and of groups and places nothing is said. Assumes nothing.
use mathlib.Core.Path.{◌≡◌, ◌∙◌}
use Prim.Native.Nat.{ℕ}
use lib.ListN.{length, replicate, length-replicate, get_or-replicate}
use Rattle.index.specs.Places.{unknown}
use Rattle.index.specs.Tables.{words_of}
use Rattle.index.proofs.IndexParts.{Parts, parts_of, group_read, place_read}
use Rattle.index.proofs.Index.of.Goals as goal

pub returns : goal.returns
returns c =
    let children = c.children_in.result in
    let lines = c.lines_in.result in
    let running = c.running_in.result in
    let children_long = c.children_in.ensures.0 in
    let lines_long = c.lines_in.ensures.0 in
    let blank = replicate {A = ℕ} 64 unknown in
    let blank_long : length blank ≡ 64 = length-replicate {A = ℕ} 64 unknown in
    let parts : Parts (words_of children lines running blank blank) children lines running = parts_of children lines running blank blank children_long lines_long blank_long blank_long in
    record {
      long = parts.long;
      of_children = rw parts.of_children c.children_in.ensures.1;
      of_lines = rw parts.of_lines c.lines_in.ensures.1;
      of_running = rw parts.of_running c.running_in.ensures;
      of_groups = λ k l. group_read children lines running blank blank children_long lines_long blank_long k l ∙ get_or-replicate {A = ℕ} 64 k unknown 0 l;
      of_places = λ k l. place_read children lines running blank blank children_long lines_long blank_long k ∙ get_or-replicate {A = ℕ} 64 k unknown 0 l;
    }
