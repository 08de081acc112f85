-- What a load gives, from what the two loops took: 8 where something of the text is left over, else what the soundness of the record says.
use mathlib.Core.Path.{◌≡◌}
use mathlib.Core.List.{List}
use Prim.Native.Nat.{ℕ}
use lib.ListN.{length}
use borrow.Author.Tests.{eq-eqb, ne_eqb}
use Rattle.forms.specs.WellShaped.{Taken, actions_in, instruments_in, record_in}
use Rattle.saved.specs.Saved.{empty_record, if_sound, load_of}

module _ (text : List ℕ) {actions instruments : Taken} (a : actions ≡ actions_in text) (i : instruments ≡ instruments_in text actions.at) where
  pub left_over : (instruments.at ≡ length text → ⊥) → load_of text ≡ record { bench = empty_record; answer = 8 }
  unfolding load_of record_in
  left_over h = rw (← a, ← i, ne_eqb instruments.at (length text) h)

  pub read_whole : instruments.at ≡ length text → load_of text ≡ if_sound (record { parents = actions.first; states = actions.second; reads = instruments.first; writes = instruments.second })
  unfolding load_of record_in
  read_whole h = rw (← a, ← i, eq-eqb instruments.at (length text) h)
