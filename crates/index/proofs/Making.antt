-- The index as it is first made, of the bytes of a sound bench, is that of the bench. Assumes nothing.
use mathlib.Core.Bool.{true}
use mathlib.Core.Path.{◌≡◌}
use mathlib.Core.List.{List}
use Prim.Native.Nat.{ℕ, ◌+◌, ◌-◌, ◌%◌, ◌<◌}
use native.Mathlib.Omega.{arith}
use borrow.Author.Tests.{leb-true}
use lib.Dec.{leb}
use lib.ListN.{length, get_or, drop, length-drop}
use lib.Seq.{length-take-le}
use Rattle.rules.specs.ReadWrite.{read_write}
use Rattle.rules.specs.Sound.{sound}
use Rattle.rules.proofs.Tests.{by_bool}
use Rattle.tables.specs.Tree.{tree}
use Rattle.tables.proofs.EachLine.{lines_sound}
use Rattle.tables.proofs.Knowing.{indexed_built}
use Rattle.tables.proofs.ViewLaws.{tree_sound}
use Rattle.views.specs.Tree.{SoundTree}
use Rattle.views.specs.View.{view, arrays, layout}
use Rattle.index.specs.Places.{keeper, Placed}
use Rattle.index.specs.Tables.{child_sets, line_sets, running_set, IndexOf, table, IndexIn}
use Rattle.index.specs.Making.{MadeOf}
use Rattle.index.proofs.Leaving.{unknown_has}
use Rattle.index.proofs.SoundBytes.{head_known_lem}
use Rattle.index.proofs.IndexParts.{own_parts, index_by}

pub children_long : (index : List ℕ) → length index ≡ 257 → length (child_sets index) ≡ 64
children_long index long = length-take-le 64 index (omega arith)

pub lines_long : (index : List ℕ) → length index ≡ 257 → length (line_sets index) ≡ 64
lines_long index long = length-take-le 64 (drop 64 index) (rw (length-drop 64 index, long) (omega arith))

made_indexed : {parents states index : List ℕ} → SoundTree parents states → MadeOf parents states index → IndexOf (tree parents states) index
made_indexed {parents} {states} {index} ok made =
    index_by (own_parts index made.long)
    (indexed_built 64 parents states ok (child_sets index) (line_sets index) (running_set index)
    (children_long index made.long, made.of_children)
    (lines_long index made.long, lines_sound 64 parents (states, ok) (line_sets index) made.of_lines)
    made.of_running)

-- Of groups and places nothing is known, which is never wrong. Heads are numbers of the table.
made_placed : {parents states index : List ℕ} (owners : List ℕ) → ((k h : ℕ) → k < 64 → get_or states k 0 ≡ 3 + h → h < 64) → MadeOf parents states index →
    Placed states owners index
made_placed {states = states} owners head_known made =
    record {
      covers = λ k word lk lw m. rw (made.of_places (keeper states k) (keeper_known k lk)) (unknown_has (word % 64) (omega arith));
      groups = λ h l e known. absurd (known (made.of_groups h l));
    }
  where
    keeper_known : (k : ℕ) → k < 64 → keeper states k < 64
    keeper_known k l =
        by_bool (leb 3 (get_or states k 0))
        (λ t. let high = leb-true 3 (get_or states k 0) t in rw t (head_known k (get_or states k 0 - 3) l (omega arith)))
        (λ t. rw t l)

-- So it is the index of the arrays, whatever the words of the owners are.
pub made_table : {parents states index : List ℕ} (reads writes owners : List ℕ) → sound read_write (view parents states reads writes) ≡ true → MadeOf parents states index →
    IndexIn (table parents states owners index)
made_table {parents} {states} reads writes owners ok made =
    record {
      of_tree = made_indexed (tree_sound layout (arrays parents states reads writes) ok) made;
      placed = made_placed owners (head_known_lem parents states reads writes ok) made;
    }
