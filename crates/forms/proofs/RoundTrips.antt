-- The round trips of the saved form: the text of a sound bench says that bench, and a text that says a record is that record's text. No text is longer
-- than 5312 bytes, and one is as long.
use mathlib.Core.Path.{◌≡◌, refl, sym, ◌∙◌, ap}
use mathlib.Core.Bool.{true, false}
use mathlib.Core.Logic.{◌↔◌}
use mathlib.Core.List.{List, [], ◌++◌, append_assoc, append-nil}
use mathlib.Core.Option.{Option, none, some, none-ne-some}
use Prim.Native.Nat.{ℕ, zero, suc, ◌-◌, ◌≤◌, ◌<◌}
use native.Mathlib.Nat.{zero-add}
use native.Mathlib.Omega.{arith}
use borrow.Author.Tests.{ltb-true, eqb-true, eqb-false, eq-eqb}
use lib.Dec.{eqb}
use lib.ListN.{length, get_or, drop, replicate, length-append, length-replicate}
use lib.Seq.{drop-length, drop-append_seam}
use Rattle.rules.specs.Tests.{all}
use Rattle.rules.specs.Sound.{stands_nowhere, reaches_top, sound}
use Rattle.rules.specs.ReadWrite.{read_write}
use Rattle.rules.proofs.Tests.{by_bool}
use Rattle.rules.proofs.Facts.{SoundNumber, sound_facts}
use Rattle.bench.specs.declared.Bench.{Bench}
use Rattle.views.specs.View.{parent_of}
use Rattle.bench.specs.Record.{viewed}
use Rattle.tables.proofs.Bytes.{none_byte}
use Rattle.tables.proofs.States.{free_byte, means_byte, byte_head}
use Rattle.bench.proofs.Unique.{Fits}
use Rattle.forms.specs.Kinds.{action, instrument}
use Rattle.forms.specs.Text.{hex_of, cell_of, cells_from, actions_text, instruments_text, text_of}
use Rattle.forms.specs.WellShaped.{stands_at, none_taken, actions_in, instruments_in, record_in}
use Rattle.forms.proofs.FrameKinds.{ShapedAction, ShapedSets, action_laws, instrument_laws, frame_other, frame_none}
use Rattle.forms.proofs.Rows.{Untaken, row_refutes, row_short, row_said, taken_row, taken_length, taken_shaped}

-- ---- a record's text says the record

-- A record that has a text: state bytes and parent bytes as the text has them, and sets of 64 bits.
pub record Shaped (b : Bench) : Type 0 where
  pub fits : Fits b
  pub actions : (k : ℕ) → k < 64 → ShapedAction (get_or b.parents k 0) (get_or b.states k 0)

-- its text is made of two rows
pub text_rows : (b : Bench) → text_of b ≡ actions_text b ++ instruments_text b
unfolding text_of
text_rows b = refl

module _ (b : Bench) (shaped : Shaped b) (text : List ℕ) (e : text ≡ actions_text b ++ instruments_text b) where
  actions_said : actions_in text ≡ record { at = length (actions_text b); first = b.parents; second = b.states }
  unfolding actions_in
  actions_said =
      row_said action action_laws b.parents b.states text (instruments_text b)
      (let l = f.parents_long in omega arith) (f.parents_long ∙ sym f.states_long)
      (λ k l. shaped.actions k (rw f.parents_long at l))
      none_behind 64 0 (sym f.parents_long) e
      ∙ rw (zero-add (length (actions_text b)))
    where
      f : Fits b
      f = shaped.fits

      none_behind : (at j : ℕ) → drop at text ≡ instruments_text b → stands_at action text at j ≡ false
      none_behind at j h =
          row_refutes instrument instrument_laws b.reads b.writes (stands_at action text at j) text [] at 128 0
          (λ i r l u.
          frame_other instrument instrument_laws action text r at i (get_or b.reads i 0) (get_or b.writes i 0) j (omega arith)
          (λ same here. omega arith))
          (frame_none action text at j)
          (h ∙ sym (append-nil (instruments_text b)))

  instruments_said : instruments_in text (length (actions_text b)) ≡ record { at = length text; first = b.reads; second = b.writes }
  unfolding instruments_in
  instruments_said =
      row_said instrument instrument_laws b.reads b.writes text []
      (let l = f.reads_long in omega arith) (f.reads_long ∙ sym f.writes_long)
      (λ i l. record { reads_fit = f.reads_fit i (rw f.reads_long at l); writes_fit = f.writes_fit i (rw f.reads_long at l) })
      (frame_none instrument text) 128 (length (actions_text b)) (sym f.reads_long)
      (ap (drop (length (actions_text b))) e ∙ drop-append_seam (actions_text b) (instruments_text b) ∙ sym (append-nil (instruments_text b)))
      ∙ (λ i. record { at = sym (ap length e ∙ length-append (actions_text b) (instruments_text b)) i; first = b.reads; second = b.writes })
    where
      f : Fits b
      f = shaped.fits

-- The text of a record that has one says that record.
pub text_says_shaped : (b : Bench) → Shaped b → record_in (text_of b) ≡ some b
unfolding record_in
text_says_shaped b shaped =
    rw (actions_said b shaped (text_of b) (text_rows b), instruments_said b shaped (text_of b) (text_rows b), eq-eqb (length (text_of b)) (length (text_of b)) refl)

-- a sound record has a text
sound_shaped : (b : Bench) → Fits b → sound read_write (viewed b) ≡ true → Shaped b
sound_shaped b fits ok =
    record {
      fits = fits;
      actions = λ k l.
          let f = sound_facts read_write (viewed b) ok k l in
          let s = get_or b.states k 0 in
          let known = ltb-true s 67 (sym (means_byte 64 s) ∙ f.means) in
          record {
            parent_known = known_parent (get_or b.parents k 0) f.parent_known;
            state_known = omega arith;
            parent_in_tree = λ not_running not_committed. none_byte (get_or b.parents k 0) (outside k f known not_running not_committed);
          };
    }
  where
    known_parent : (x : ℕ) → ((p : ℕ) → parent_of x ≡ some p → p < 64) → x ≤ 64
    known_parent zero h = omega arith
    known_parent (suc p) h = h p refl

    -- who is neither running nor committed is free or drains, and has no parent
    outside : (k : ℕ) → SoundNumber read_write (viewed b) k → let s = get_or b.states k 0 in
        s < 67 → (s ≡ 1 → ⊥) → (s ≡ 2 → ⊥) → (viewed b).parent k ≡ none
    outside k f known not_running not_committed =
        let s = get_or b.states k 0 in
        by_bool (eqb s 0) (λ free. f.free_has_no_parent (free_byte 64 s ∙ free))
        (λ used. let above = eqb-false s 0 used in (f.drains (s - 3) (byte_head 64 s (s - 3) (omega arith) (omega arith))).no_parent)

-- The text of a sound record says that record.
pub text_says_record : (b : Bench) → Fits b → sound read_write (viewed b) ≡ true → record_in (text_of b) ≡ some b
text_says_record b fits ok = text_says_shaped b (sound_shaped b fits ok)

-- ---- a text that says a record is the record's text

zeros_read : (n j : ℕ) → ◌≡◌ {A = ℕ} (get_or (replicate n 0) j 0) 0
zeros_read zero j = refl
zeros_read (suc n) zero = refl
zeros_read (suc n) (suc j) = zeros_read n j

zeros_untaken : (n at : ℕ) → Untaken n 0 (none_taken n at)
zeros_untaken n at =
    record {
      first_long = rw (length-replicate {A = ℕ} n 0) (omega arith);
      second_long = rw (length-replicate {A = ℕ} n 0) (omega arith);
      first_zeros = λ j l. zeros_read n j;
      second_zeros = λ j l. zeros_read n j;
    }

-- the record that is read, whether or not something is left over
abbrev read_from : List ℕ → Bench
read_from text =
    let actions = actions_in text in
    let instruments = instruments_in text actions.at in
    record { parents = actions.first; states = actions.second; reads = instruments.first; writes = instruments.second }

-- it writes the text, up to what is left over
read_writes : (text : List ℕ) → text ≡ text_of (read_from text) ++ drop (instruments_in text (actions_in text).at).at text
unfolding actions_in instruments_in
read_writes text =
    taken_row action action_laws text 64 0 (none_taken 64 0) (zeros_untaken 64 0)
    ∙ ap (λ l. actions_text b ++ l)
    (taken_row instrument instrument_laws text 128 0 (none_taken 128 between) (zeros_untaken 128 between))
    ∙ sym (ap (λ l. l ++ drop end text) (text_rows b) ∙ append_assoc (actions_text b) (instruments_text b) (drop end text))
  where
    b : Bench
    b = read_from text

    between : ℕ
    between = (actions_in text).at

    end : ℕ
    end = (instruments_in text between).at

-- a text says what is read from it, where nothing is left over
said_read : (text : List ℕ) (b : Bench) → record_in text ≡ some b → (read_from text ≡ b) × ((instruments_in text (actions_in text).at).at ≡ length text)
unfolding record_in
said_read text b e =
    by_bool (eqb end (length text))
    (λ h. let said : some (read_from text) ≡ some b = rw h at e in (cc, eqb-true end (length text) h))
    (λ h. absurd (none-ne-some b (rw h at e)))
  where
    end : ℕ
    end = (instruments_in text (actions_in text).at).at

-- A text that says a record is that record's text.
pub record_writes_text : (text : List ℕ) (b : Bench) → record_in text ≡ some b → text_of b ≡ text
record_writes_text text b e =
    let said = said_read text b e in
    rw (← said.0) (sym (read_writes text ∙ rw (said.1, drop-length text, append-nil (text_of (read_from text)))))

-- A record that a text says has a text.
pub said_shaped : (text : List ℕ) (b : Bench) → record_in text ≡ some b → Shaped b
unfolding actions_in instruments_in
said_shaped text b e = rw (← (said_read text b e).0) (record { fits = fits; actions = λ k l. actions k })
  where
    between : ℕ
    between = (actions_in text).at

    actions : (k : ℕ) → ShapedAction (get_or (read_from text).parents k 0) (get_or (read_from text).states k 0)
    actions =
        taken_shaped action action_laws text 64 0 (none_taken 64 0) (zeros_untaken 64 0)
        (λ j. rw (zeros_read 64 j) (record { parent_known = omega arith; state_known = omega arith; parent_in_tree = λ not_running not_committed. refl }))

    sets : (i : ℕ) → ShapedSets (get_or (read_from text).reads i 0) (get_or (read_from text).writes i 0)
    sets =
        taken_shaped instrument instrument_laws text 128 0 (none_taken 128 between) (zeros_untaken 128 between)
        (λ j. rw (zeros_read 128 j) (record { reads_fit = omega arith; writes_fit = omega arith }))

    fits : Fits (read_from text)
    fits =
        record {
          parents_long = (taken_length action action_laws text 64 0 (none_taken 64 0)).0 ∙ length-replicate {A = ℕ} 64 0;
          states_long = (taken_length action action_laws text 64 0 (none_taken 64 0)).1 ∙ length-replicate {A = ℕ} 64 0;
          reads_long = (taken_length instrument instrument_laws text 128 0 (none_taken 128 between)).0 ∙ length-replicate {A = ℕ} 128 0;
          writes_long = (taken_length instrument instrument_laws text 128 0 (none_taken 128 between)).1 ∙ length-replicate {A = ℕ} 128 0;
          reads_fit = λ i l. (sets i).reads_fit;
          writes_fit = λ i l. (sets i).writes_fit;
        }

-- The well-shaped texts are the texts of such records and no others: a text says a record if and only if it is that record's text.
pub says_exactly : (text : List ℕ) (b : Bench) → (record_in text ≡ some b) ↔ (Shaped b × (text_of b ≡ text))
says_exactly text b = (
  λ e. (said_shaped text b e, record_writes_text text b e),
  λ p. ap record_in (sym p.1) ∙ text_says_shaped b p.0,
)

-- And it says none, so that it loads as 8, if and only if no such record has that text.
pub says_nothing : (text : List ℕ) → (record_in text ≡ none) ↔ ((b : Bench) → Shaped b → text_of b ≡ text → ⊥)
says_nothing text = (
  λ e b shaped t. none_some (sym e ∙ (says_exactly text b).1 (shaped, t)),
  λ never. one_of (record_in text) (λ b e. let p = (says_exactly text b).0 e in never b p.0 p.1),
)
  where
    none_some : {b : Bench} → none ≡ some b → ⊥
    none_some e = let z : ◌≡◌ {A = ℕ} 0 1 = cc in omega arith

    one_of : (o : Option Bench) → ((b : Bench) → o ≡ some b → ⊥) → o ≡ none
    one_of none h = refl
    one_of (some b) h = absurd (h b refl)

-- ---- the longest text

-- 64 frames of 9 bytes and 128 of 37
pub longest_text : (b : Bench) → length (text_of b) ≤ 5312
longest_text b =
    rw (text_rows b, length-append (actions_text b) (instruments_text b))
    (omega (arith, row_short action action_laws b.parents b.states 64 0, row_short instrument instrument_laws b.reads b.writes 128 0))

-- no longer text says anything
pub said_short : (text : List ℕ) (b : Bench) → record_in text ≡ some b → length text ≤ 5312
said_short text b e = rw (← record_writes_text text b e) (longest_text b)

-- a record whose text is that long: all actions run as tops, and action 0 reads every instrument
abbrev fullest : Bench
fullest = record { parents = replicate 64 0; states = replicate 64 1; reads = replicate 128 1; writes = replicate 128 0 }

-- The longest text is that of a sound record.
pub longest_reached : (sound read_write (viewed fullest) ≡ true) × (length (text_of fullest) ≡ 5312)
unfolding text_of cells_from cell_of hex_of sound all reaches_top stands_nowhere
longest_reached = (refl, refl)
