-- What storing a text hands back and leaves in the buffer: where it is too short, and where the whole text is written.
use mathlib.Core.Path.{◌≡◌, ◌∙◌}
use mathlib.Core.List.{List}
use Prim.Native.Nat.{ℕ, ◌+◌, ◌<◌, ◌≤◌}
use native.Mathlib.Nat.{zero-add}
use native.Mathlib.Omega.{arith}
use borrow.Author.Tests.{lt-ltb, le-ltb}
use lib.ListN.{length, length-append}
use lib.Seq.{sets, length-sets, sets-eq}
use Rattle.bench.specs.declared.Bench.{Bench}
use Rattle.forms.specs.Kinds.{action}
use Rattle.forms.specs.Text.{cell_of, cells_from, actions_text, instruments_text, text_of}
use Rattle.saving.specs.Written.{Written}
use Rattle.saving.specs.Stored.{Stores}
use Rattle.forms.proofs.RoundTrips.{text_rows}
use Rattle.saving.proofs.WrittenFrames.{sets_append}
use Rattle.saving.proofs.WrittenCells.{bare_at, cell_sized, same_long}

pub text_length : (b : Bench) → length (text_of b) ≡ length (actions_text b) + length (instruments_text b)
text_length b = rw (text_rows b) (length-append (actions_text b) (instruments_text b))

-- parents have no say in how long what the numbers add is
pub parents_silent : (parents parents' states : List ℕ) → length (cells_from (cell_of action parents states) 64 0) ≡ length (cells_from (cell_of action parents' states) 64 0)
parents_silent parents parents' states =
    same_long (cell_of action parents states) (cell_of action parents' states) (bare_at action parents states) 9 (cell_sized action parents states) (cell_sized action parents' states) 64 0

module _ (b : Bench) where
  -- what storing a text is, where the buffer is too short
  pub too_short : (out : List ℕ) → length out < length (text_of b) → Stores b out (record { answer = 9; count = 0 }) out
  too_short out short = let less = lt-ltb (length out) (length (text_of b)) short in (rw less, rw less)

  -- and where the text is written
  pub stored_whole : {out after : List ℕ} {count : ℕ} → length (text_of b) ≤ length out → Written out 0 (text_of b) after count
      → Stores b out (record { answer = 0; count = count }) after
  stored_whole {out} room w =
      let enough = le-ltb (length out) (length (text_of b)) room in
      let fits : 0 + length (text_of b) ≤ length out = rw zero-add room in
      (rw (enough, w.ends, zero-add), rw (enough, w.stored) (sets-eq (text_of b) out 0 fits ∙ rw zero-add))

-- where there is room for the text, there is room for each part of it
pub actions_room : (b : Bench) (out : List ℕ) → length (text_of b) ≤ length out → 0 + length (actions_text b) ≤ length out
actions_room b out room = omega (arith, text_length b)

module _ (b : Bench) {out middle : List ℕ} {at : ℕ} (actions : Written out 0 (actions_text b) middle at) where
  pub instruments_room : length (text_of b) ≤ length out → at + length (instruments_text b) ≤ length middle
  instruments_room room =
      let next : at ≡ 0 + length (actions_text b) = actions.ends in
      let long : length middle ≡ length out = rw (actions.stored, length-sets) in omega (arith, text_length b)

  -- numbers and instruments in a row are the text
  pub text_written : {after : List ℕ} {count : ℕ} → Written middle at (instruments_text b) after count → Written out 0 (text_of b) after count
  text_written {after} {count} instruments =
      record {
        stored = stored;
        ends =
            (let first : at ≡ 0 + length (actions_text b) = actions.ends in
            let second : count ≡ at + length (instruments_text b) = instruments.ends in omega (arith, text_length b));
      }
    where
      stored : after ≡ sets out 0 (text_of b)
      stored = rw (instruments.stored, actions.stored, actions.ends, ← sets_append, ← text_rows b)
