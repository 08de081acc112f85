-- The saved form of a lent image: what is told of it, written from it and read into it is that of its record. Assumes nothing.
use mathlib.Core.Path.{◌≡◌, refl, sym, ◌∙◌, ap}
use mathlib.Core.Bool.{Bool, true, false, not}
use mathlib.Core.List.{List, ◌++◌}
use mathlib.Core.Option.{none, some}
use Prim.Native.Nat.{ℕ}
use native.Mathlib.Omega.{arith}
use borrow.Author.Tests.{eq-eqb, not-true, not-false}
use lib.ListN.{length, take, drop, replicate, length-append, replicate-append-replicate, take-append-drop}
use lib.Seq.{take_at, drop_at}
use Rattle.rules.specs.Sound.{sound}
use Rattle.rules.specs.ReadWrite.{read_write}
use Rattle.rules.proofs.Tests.{by_bool, and_left, and_right}
use Rattle.bench.specs.declared.Bench.{Bench}
use Rattle.bench.specs.Record.{viewed}
use Rattle.bench.proofs.Unique.{Fits, zeros_fit}
use Rattle.image.specs.Image.{is_image, image_view, sound_image, empty_record, record_of, StoredAs}
use Rattle.image.proofs.Images.{image_long, second_half}
use Rattle.forms.specs.Kinds.{action, instrument}
use Rattle.forms.specs.WellShaped.{actions_in, instruments_in, record_in}
use Rattle.forms.specs.Text.{text_of}
use Rattle.forms.proofs.RoundTrips.{said_shaped}
use Rattle.loading.specs.Halves.{halves, ReadInto}
use Rattle.saving.specs.declared.Saved.{Saved}
use Rattle.saving.specs.Stored.{Stores}
use Rattle.saved.specs.Saved.{saved_as, buffer_after, if_sound, loaded_from, load_of}
use Rattle.saved.specs.InPlace.{size_of_image, SavesImage, ReadFrom, LoadsInto}
use Rattle.saved.proofs.SaidByText.{left_over, read_whole}
use Rattle.saved.proofs.SaveAndLoad.{refused_zeros}

-- the two halves of an image's bytes and of its words, as a record
abbrev pub halves_of : List ℕ → List ℕ → Bench
halves_of actions owners =
    record { parents = take 64 actions; states = drop 64 actions; reads = take 128 owners; writes = drop 128 owners }

module _ (actions owners : List ℕ) where
  -- ---- told and written

  -- the test refused it: there is no image, or its record isn't sound
  pub unsound_size : (ok : Bool) → ok ≡ sound_image actions owners → not ok ≡ true → record { answer = 7; count = 0 } ≡ size_of_image actions owners
  unsound_size ok e refused =
      let broken = sym e ∙ not-true ok refused in
      by_bool (is_image actions owners) (λ image. rw (image, rw image at broken)) (λ other. rw other)

  pub unsound_saved : (ok : Bool) (out : List ℕ) → ok ≡ sound_image actions owners → not ok ≡ true → SavesImage actions owners out (record { answer = 7; count = 0 }) out
  unfolding saved_as buffer_after
  unsound_saved ok out e refused =
      let broken = sym e ∙ not-true ok refused in
      by_bool (is_image actions owners)
      (λ image. let unsound = rw image at broken in record { told = rw (image, unsound); buffer = rw (image, unsound) })
      (λ other. record { told = rw other; buffer = rw other })

  module _ (ok : Bool) (e : ok ≡ sound_image actions owners) (t : not ok ≡ false) where
    both : sound_image actions owners ≡ true
    both = sym e ∙ not-false ok t

    pub sound_is_image : is_image actions owners ≡ true
    sound_is_image = and_left (is_image actions owners) (sound read_write (image_view actions owners)) both

    is_sound : sound read_write (image_view actions owners) ≡ true
    is_sound = and_right (is_image actions owners) (sound read_write (image_view actions owners)) both

    pub sound_long : (length actions ≡ 128) × (length owners ≡ 256)
    sound_long = image_long actions owners sound_is_image

    -- as two facts, which the bounds of its parts follow from
    pub sound_bytes : length actions ≡ 128
    sound_bytes = sound_long.0

    pub sound_words : length owners ≡ 256
    sound_words = sound_long.1

    -- the four parts of the image that are lent
    abbrev parts : Bench
    parts = record { parents = take 64 actions; states = take 64 (drop 64 actions); reads = take 128 owners; writes = take 128 (drop 128 owners) }

    parts_halves : parts ≡ halves_of actions owners
    parts_halves = rw (second_half 64 actions sound_long.0, second_half 128 owners sound_long.1)

    pub sound_size : {count : ℕ} → count ≡ length (text_of parts) → record { answer = 0; count = count } ≡ size_of_image actions owners
    sound_size c = rw (sound_is_image, is_sound, c, parts_halves)

    pub sound_saved : {out after : List ℕ} {r : Saved} → Stores parts out r after → SavesImage actions owners out r after
    unfolding saved_as buffer_after
    sound_saved {out} {after} {r} s =
        let stored : Stores (halves_of actions owners) out r after = rw parts_halves at s in
        record { told = rw (sound_is_image, is_sound) stored.0; buffer = rw (sound_is_image, is_sound) stored.1 }

-- ---- read

-- the lengths say that it is an image
pub long_image : (actions owners : List ℕ) → length actions ≡ 128 → length owners ≡ 256 → is_image actions owners ≡ true
long_image actions owners a o = rw (eq-eqb (length actions) 128 a, eq-eqb (length owners) 256 o)

-- A text read into zeros: the place behind the actions' frames, the place behind all, and the image then.
module _ (text : List ℕ) {zeros zeros' actions owners : List ℕ} {behind end : ℕ} (bytes : zeros ≡ replicate 128 0) (words : zeros' ≡ replicate 256 0)
    (a : ReadInto action 64 text 0 zeros behind actions) (o : ReadInto instrument 128 text behind zeros' end owners) where
  bytes_long : length actions ≡ 128
  bytes_long = a.long ∙ ap length bytes

  words_long : length owners ≡ 256
  words_long = o.long ∙ ap length words

  actions_taken : halves 64 behind actions ≡ actions_in text
  unfolding actions_in
  actions_taken = rw bytes at (a.read (ap length bytes))

  instruments_taken : halves 128 end owners ≡ instruments_in text behind
  unfolding instruments_in
  instruments_taken = rw words at (o.read (ap length words))

  pub read_malformed : (end ≡ length text → ⊥) → ReadFrom text 8 actions owners
  read_malformed left =
      record {
        told = sym (ap (λ l. l.answer) (left_over text actions_taken instruments_taken left));
        bytes_long = bytes_long;
        words_long = words_long;
        bytes = λ z. absurd (omega arith);
        words = λ z. absurd (omega arith);
      }

  module _ (whole : end ≡ length text) where
    said : load_of text ≡ if_sound (halves_of actions owners)
    said = read_whole text actions_taken instruments_taken whole

    tested : (ok : Bool) → ok ≡ sound_image actions owners → ok ≡ sound read_write (viewed (halves_of actions owners))
    tested ok e = e ∙ rw (long_image actions owners bytes_long words_long)

    pub read_unsound : (ok : Bool) → ok ≡ sound_image actions owners → not ok ≡ true → ReadFrom text 7 actions owners
    read_unsound ok e refused =
        let broken = sym (tested ok e) ∙ not-true ok refused in
        let given : load_of text ≡ record { bench = empty_record; answer = 7 } = said ∙ rw broken in
        record {
          told = sym (ap (λ l. l.answer) given);
          bytes_long = bytes_long;
          words_long = words_long;
          bytes = λ z. absurd (omega arith);
          words = λ z. absurd (omega arith);
        }

    pub read_sound : (ok : Bool) → ok ≡ sound_image actions owners → not ok ≡ false → ReadFrom text 0 actions owners
    read_sound ok e held =
        let right = sym (tested ok e) ∙ not-false ok held in
        let given : load_of text ≡ record { bench = halves_of actions owners; answer = 0 } = said ∙ rw right in
        record {
          told = sym (ap (λ l. l.answer) given);
          bytes_long = bytes_long;
          words_long = words_long;
          bytes = λ z. rw given (sym (take-append-drop 64 actions));
          words = λ z. rw given (sym (take-append-drop 128 owners));
        }

-- ---- loaded

-- a refused text gives an empty bench
refused_empty : (text : List ℕ) → ((load_of text).answer ≡ 0 → ⊥) → (load_of text).bench ≡ empty_record
unfolding load_of
refused_empty text never = refused_zeros (record_in text) never

module _ (text actions owners : List ℕ) where
  pub none_loaded : is_image actions owners ≡ false → LoadsInto text actions owners 7 actions owners
  none_loaded other = record { told = rw other; stored = record { bytes = rw other; words = rw other } }

  module _ (image : is_image actions owners ≡ true) where
    -- an image that is cleared holds zeros
    pub cleared_zeros : {actions' owners' : List ℕ} → StoredAs empty_record actions owners actions' owners' → (actions' ≡ replicate 128 0) × (owners' ≡ replicate 256 0)
    cleared_zeros s = (
      s.bytes ∙ rw image (replicate-append-replicate {A = ℕ} 64 64 0),
      s.words ∙ rw image (replicate-append-replicate {A = ℕ} 128 128 0),
    )

    module _ {answer : ℕ} {actions' owners' : List ℕ} (r : ReadFrom text answer actions' owners') where
      pub accepted_loaded : answer ≡ 0 → LoadsInto text actions owners answer actions' owners'
      accepted_loaded z =
          record { told = rw image r.told; stored = record { bytes = rw image (r.bytes z); words = rw image (r.words z) } }

      pub refused_loaded : {cleared cleared' : List ℕ} → (answer ≡ 0 → ⊥) → StoredAs empty_record actions' owners' cleared cleared' → LoadsInto text actions owners answer cleared cleared'
      refused_loaded n s =
          let there = long_image actions' owners' r.bytes_long r.words_long in
          let none = refused_empty text (λ z. n (r.told ∙ z)) in
          record { told = rw image r.told; stored = record { bytes = rw (image, none) (rw there at s.bytes); words = rw (image, none) (rw there at s.words) } }

-- ---- by value

-- the bench that a load gives has arrays of the record's lengths
loaded_fits : (text : List ℕ) → Fits (load_of text).bench
unfolding load_of
loaded_fits text = of_said (record_in text) refl
  where
    of_said : (o : _) → record_in text ≡ o → Fits (loaded_from o).bench
    of_said none e = zeros_fit
    of_said (some b) e = by_bool (sound read_write (viewed b)) (λ ok. rw ok (said_shaped text b e).fits) (λ broken. rw broken zeros_fit)

-- What was loaded into an image of zeros, read out of it.
pub loaded_record : (text actions owners : List ℕ) (answer : ℕ) (b : Bench) → LoadsInto text (replicate 128 0) (replicate 256 0) answer actions owners → b ≡ record_of actions owners → record { bench = b; answer = answer } ≡ load_of text
loaded_record text actions owners answer b l e =
    let f = loaded_fits text in
    let x = (load_of text).bench in
    let ea : actions ≡ x.parents ++ x.states = l.stored.bytes in
    let eo : owners ≡ x.reads ++ x.writes = l.stored.words in
    let there = long_image actions owners
    (rw (ea, length-append x.parents x.states, f.parents_long, f.states_long))
    (rw (eo, length-append x.reads x.writes, f.reads_long, f.writes_long)) in
    rw (e, there, ea, eo, take_at x.parents x.states 64 f.parents_long, drop_at x.parents x.states 64 f.parents_long, take_at x.reads x.writes 128 f.reads_long, drop_at x.reads x.writes 128 f.reads_long, l.told)
