-- The round trips of the definitions, and of what `save` and `load` return: what is saved into a buffer loads as the bench, what loads saves as the text, and a refused load gives the
-- empty bench. Assumes nothing.
use mathlib.Core.Path.{◌≡◌, refl, sym, ◌∙◌, ap}
use mathlib.Core.Bool.{true}
use mathlib.Core.List.{List, ◌++◌}
use mathlib.Core.Option.{Option, none, some}
use Prim.Native.Nat.{ℕ, ◌≤◌}
use native.Mathlib.Omega.{arith}
use borrow.Author.Tests.{le-ltb}
use lib.Dec.{ltb}
use lib.ListN.{length, take, drop}
use lib.Seq.{take_at}
use Rattle.rules.specs.Sound.{sound}
use Rattle.rules.specs.ReadWrite.{read_write}
use Rattle.rules.proofs.Tests.{by_bool}
use Rattle.bench.specs.declared.Bench.{Bench}
use Rattle.bench.specs.Record.{viewed}
use Rattle.bench.specs.Plays.{IsEmpty}
use Rattle.bench.proofs.Unique.{Fits, zeros_fit, empty_unique}
use Rattle.views.proofs.Words.{empty_shown}
use Rattle.saving.specs.declared.Saved.{Saved}
use Rattle.saved.specs.declared.Loaded.{Loaded}
use Rattle.forms.specs.Text.{text_of}
use Rattle.forms.specs.WellShaped.{record_in}
use Rattle.saved.specs.Saved.{saved_as, buffer_after, empty_record, loaded_from, load_of, Saves, Loads}
use Rattle.forms.proofs.RoundTrips.{text_says_record, record_writes_text}

-- ---- of the definitions

-- A saved sound bench loads as itself.
pub saved_loads : (b : Bench) → Fits b → sound read_write (viewed b) ≡ true → load_of (text_of b) ≡ record { bench = b; answer = 0 }
unfolding load_of
saved_loads b fits ok = rw (text_says_record b fits ok, ok)

-- where a text loads, it says the record, and the record is sound
loads_sound : (o : Option Bench) (b : Bench) → loaded_from o ≡ record { bench = b; answer = 0 } → (o ≡ some b) × (sound read_write (viewed b) ≡ true)
loads_sound none b e = absurd (let z : ◌≡◌ {A = ℕ} 8 0 = ap (λ l. l.answer) e in omega arith)
loads_sound (some c) b e =
    by_bool (sound read_write (viewed c))
    (λ h. let same : c ≡ b = ap (λ l. l.bench) (rw h at e) in (ap some same, ap (λ x. sound read_write (viewed x)) (sym same) ∙ h))
    (λ h. absurd (let z : ◌≡◌ {A = ℕ} 7 0 = ap (λ l. l.answer) (rw h at e) in omega arith))

-- An accepted text saves as itself, into any buffer that has room.
pub loaded_saves : (text out : List ℕ) (b : Bench) → load_of text ≡ record { bench = b; answer = 0 } → length text ≤ length out → (saved_as b (length out) ≡ record { answer = 0; count = length text }) × (buffer_after b out ≡ text ++ drop (length text) out)
unfolding load_of saved_as buffer_after
loaded_saves text out b e room =
    let loaded = loads_sound (record_in text) b e in
    rw (loaded.1, record_writes_text text b loaded.0, le-ltb (length out) (length text) room) (refl, refl)

-- ---- of what the functions return

-- where a save is accepted, the bench is sound, and its text stands at the buffer's start and is as long as the count says
record Accepted (b : Bench) (out : List ℕ) (r : Saved) (after : List ℕ) : Type 0 where
  is_sound : sound read_write (viewed b) ≡ true
  count : r.count ≡ length (text_of b)
  text : take r.count after ≡ text_of b

accepted : (b : Bench) (out after : List ℕ) (r : Saved) → Saves b out r after → r.answer ≡ 0 → Accepted b out r after
unfolding saved_as buffer_after
accepted b out after r saves granted =
    by_bool (sound read_write (viewed b))
    (λ ok. by_bool (ltb (length out) (length (text_of b)))
    (λ short. absurd (let nine : ◌≡◌ {A = ℕ} 9 0 = sym (ap (λ x. x.answer) (rw (ok, short) at saves.0)) ∙ granted in omega arith))
    (λ room. let count : r.count ≡ length (text_of b) = ap (λ x. x.count) (rw (ok, room) at saves.0) in
    record {
      is_sound = ok;
      count = count;
      text = ap (take r.count) (rw (ok, room) at saves.1) ∙ take_at (text_of b) (drop (length (text_of b)) out) r.count (sym count);
    }))
    (λ broken. absurd (let seven : ◌≡◌ {A = ℕ} 7 0 = sym (ap (λ x. x.answer) (rw broken at saves.0)) ∙ granted in omega arith))

-- What `save` puts into a buffer, as many bytes as it counts, `load` reads as the bench.
pub save_then_load : (b : Bench) (out after : List ℕ) (r : Saved) (l : Loaded) → Fits b → Saves b out r after → r.answer ≡ 0 → Loads (take r.count after) l → l ≡ record { bench = b; answer = 0 }
save_then_load b out after r l fits saves granted loads =
    let a = accepted b out after r saves granted in
    loads ∙ ap load_of a.text ∙ saved_loads b fits a.is_sound

-- What `load` accepts `save` writes, given room: the text and its length, and the bytes behind it as they were.
pub load_then_save : (text out after : List ℕ) (l : Loaded) (r : Saved) → Loads text l → l.answer ≡ 0 → length text ≤ length out → Saves l.bench out r after → (r ≡ record { answer = 0; count = length text }) × (after ≡ text ++ drop (length text) out)
load_then_save text out after l r loads granted room saves =
    let loaded : load_of text ≡ record { bench = l.bench; answer = 0 } = sym loads ∙ (λ j. record { bench = l.bench; answer = granted j }) in
    let both = loaded_saves text out l.bench loaded room in
    (saves.0 ∙ both.0, saves.1 ∙ both.1)

-- a load that is refused gives arrays of zeros
pub refused_zeros : (o : Option Bench) → ((loaded_from o).answer ≡ 0 → ⊥) → (loaded_from o).bench ≡ empty_record
refused_zeros none never = refl
refused_zeros (some b) never =
    by_bool (sound read_write (viewed b)) (λ ok. absurd (never (rw ok))) (λ broken. rw broken)

-- A refused load's bench is the one that `Bench::empty` gives.
pub refused_load_empty : (text : List ℕ) (l : Loaded) (e : Bench) → Loads text l → (l.answer ≡ 0 → ⊥) → Fits e → IsEmpty e → l.bench ≡ e
unfolding load_of
refused_load_empty text l e loads never fits is =
    ap (λ x. x.bench) loads ∙ refused_zeros (record_in text) (λ z. never (ap (λ x. x.answer) loads ∙ z)) ∙ sym (empty_unique e empty_record fits zeros_fit is empty_shown)
