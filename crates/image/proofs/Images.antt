-- A bench's image: its lengths, the parents and states read out of it, the image that they are put into, and what a request leaves. Assumes nothing.
use Rattle.std.specs.Prelude as code
use mathlib.Core.Path.{◌≡◌, refl, sym, ◌∙◌}
use mathlib.Core.Bool.{Bool, true, false, not, false≢true}
use mathlib.Core.List.{List, ◌++◌}
use mathlib.Core.Option.{Option}
use Prim.Native.Nat.{ℕ, ◌+◌, ◌≤◌}
use native.Mathlib.Omega.{arith}
use borrow.Author.Tests.{eq-eqb, eqb-true, eqb-false, ltb-true, ltb-false, not-true, not-false}
use lib.Dec.{eqb, ltb}
use lib.ListN.{length, get_or, take, drop, length-append, length-drop}
use lib.Seq.{take_all, take_at, drop_at, length-take-le}
use Rattle.sets.specs.Sets.{member}
use Rattle.copies.specs.Copies.{words_from}
use Rattle.copies.proofs.CopyLaws.{all_taken}
use Rattle.rules.specs.Tests.{any}
use Rattle.rules.specs.Bench as rules
use Rattle.rules.specs.Requests.{Request}
use Rattle.rules.specs.Answers.{Outcome, answered}
use Rattle.rules.specs.Sound.{sound}
use Rattle.rules.specs.ReadWrite.{read_write}
use Rattle.rules.proofs.Tests.{by_bool, and_left, and_right}
use Rattle.bench.specs.declared.Bench.{Bench}
use Rattle.views.specs.View.{view, layout, arrays}
use Rattle.views.specs.Owners.{Standing}
use Rattle.views.specs.Soundness.{sound_with}
use Rattle.views.proofs.Words.{sound_with_lem, arrays_long}
use Rattle.rules.specs.Frames.{framed}
use Rattle.marks.specs.declared.requests.Request as marks
use Rattle.marks.specs.Requests.{meant_by, code_of, first_of, second_of}
use Rattle.steps.specs.Arrays.{Arrays, lent, view_of, read_sets, write_sets, SoundLists, SteppedTo}
use Rattle.steps.specs.Steps as steps
use Rattle.steps.proofs.Standing.{standing_members, standing_halves}
use Rattle.steps.proofs.RequestLaws.{framed_meant, asked_steps}
use Rattle.tables.specs.Steps.{Long}
use Rattle.tables.proofs.Steps.{answer_unsound, step_refused}
use Rattle.rules.proofs.Frames.{request_of, unframed}
use Rattle.image.specs.declared.Actions.{Actions}
use Rattle.image.specs.Image.{is_image, image_view, sound_image, record_of, StoredAs, actions_in, unsound_answer, Requested}

-- what the test of the lengths found, on each way on from it
pub was_image : {t : Bool} (found : Bool) → found ≡ t → not found ≡ false → t ≡ true
was_image found e h = sym e ∙ not-false found h

pub was_none : {t : Bool} (found : Bool) → found ≡ t → not found ≡ true → t ≡ false
was_none found e h = sym e ∙ not-true found h

-- the lengths of an image
pub image_long : (actions owners : List ℕ) → is_image actions owners ≡ true → (length actions ≡ 128) × (length owners ≡ 256)
image_long actions owners image =
    let bytes : Bool = eqb (length actions) 128 in
    let words : Bool = eqb (length owners) 256 in
    (eqb-true (length actions) 128 (and_left bytes words image), eqb-true (length owners) 256 (and_right bytes words image))

-- the second half of a list
pub second_half : (n : ℕ) (l : List ℕ) → length l ≡ n + n → take n (drop n l) ≡ drop n l
second_half n l long = take_all n (drop n l) (rw (length-drop n l) (omega arith))

-- the two halves that are taken out of a list
pub first_taken : (n : ℕ) (l : List ℕ) → length l ≡ n + n → words_from n 0 l 0 ≡ take n l
first_taken n l long = all_taken n 0 l 0 (omega arith)

pub second_taken : (n : ℕ) (l : List ℕ) → length l ≡ n + n → words_from n 0 l n ≡ drop n l
second_taken n l long = all_taken n 0 l n (omega arith) ∙ second_half n l long

-- an image that four arrays were put into, read as a bench
pub put_view : (parents states reads writes : List ℕ) → length parents ≡ 64 → length reads ≡ 128 → image_view (parents ++ states) (reads ++ writes) ≡ view parents states reads writes
put_view parents states reads writes lp lr =
    rw (take_at parents states 64 lp, drop_at parents states 64 lp, take_at reads writes 128 lr, drop_at reads writes 128 lr)

-- the record of an image
pub image_record : (actions owners parents states reads writes : List ℕ) → is_image actions owners ≡ true → parents ≡ words_from 64 0 actions 0 → states ≡ words_from 64 0 actions 64 → reads ≡ words_from 128 0 owners 0 → writes ≡ words_from 128 0 owners 128 → ◌≡◌ {A = Bench} (record { parents = parents; states = states; reads = reads; writes = writes }) (record_of actions owners)
image_record actions owners parents states reads writes image p s r w =
    let long = image_long actions owners image in
    rw (image, p, s, r, w, first_taken 64 actions long.0, second_taken 64 actions long.0, first_taken 128 owners long.1, second_taken 128 owners long.1)

-- the parents and states of an image's bytes
pub image_actions : (actions parents states : List ℕ) → length actions ≡ 128 → parents ≡ words_from 64 0 actions 0 → states ≡ words_from 64 0 actions 64 → ◌≡◌ {A = Actions} (record { parents = parents; states = states }) (actions_in actions)
image_actions actions parents states long p s = rw (eq-eqb (length actions) 128 long, p, s, first_taken 64 actions long, second_taken 64 actions long)

-- slices that are no image stay as they are
pub none_stored : (b : Bench) (actions owners : List ℕ) → is_image actions owners ≡ false → StoredAs b actions owners actions owners
none_stored b actions owners other = record { bytes = rw other; words = rw other }

-- ---- a request

-- what a bench that isn't sound answers
framed_unsound : (b : rules.Bench) (code x y : ℕ) → sound read_write b ≡ false →
    ◌≡◌ {A = Outcome} (record { answer = unsound_answer code; next = b }) (answered read_write b (framed code x y))
framed_unsound b code x y broken =
    by_bool (eqb code 0) (λ t. rw (t, eqb-true code 0 t))
    (λ f. by_bool (ltb 7 code) (λ t. rw (f, t, unframed code x y (ltb-true 7 code t)))
    (λ g. let found = request_of code x y (eqb-false code 0 f) (ltb-false 7 code g) in
    rw (f, g, found.1) (step_refused read_write b found.0 7 (answer_unsound read_write b found.0 false (sym broken) refl) (λ z. omega arith))))

pub unsound_answered : (b : rules.Bench) (asked : code.Option marks.Request) → sound read_write b ≡ false →
    ◌≡◌ {A = Outcome} (record { answer = unsound_answer (code_of asked); next = b }) (answered read_write b (meant_by asked))
unsound_answered b asked broken = rw (← framed_meant asked) (framed_unsound b (code_of asked) (first_of asked) (second_of asked) broken)

module _ (actions owners : List ℕ) (image : is_image actions owners ≡ true) where
  -- the room that each half of an image has
  pub bytes_room : (at : ℕ) → at ≤ 64 → at + 64 ≤ length actions
  bytes_room at low = let long = (image_long actions owners image).0 in omega arith

  pub words_room : (at : ℕ) → at ≤ 128 → at + 128 ≤ length owners
  words_room at low = let long = (image_long actions owners image).1 in omega arith

-- ---- the numbers that stand in a set

-- those of all words are those of the read sets and the write sets
standing_read : (owners : List ℕ) (numbers : ℕ) → length owners ≡ 256 → ((k : ℕ) → member numbers k ≡ any (length owners) (λ i. member (get_or owners i 0) k)) → Standing (read_sets owners) (write_sets owners) numbers
standing_read owners numbers long gathered k = gathered k ∙ sym (standing_members owners k) ∙ standing_halves owners long k

-- Parents and states that were read out of an image, whose words are used in place.
pub record ReadOut (actions owners parents states : List ℕ) : Type 0 where
  pub image : is_image actions owners ≡ true
  pub is_parents : parents ≡ take 64 actions
  pub is_states : states ≡ take 64 (drop 64 actions)

-- So are the arrays of an image that is lent in two halves.
pub halves_read : (parents states owners : List ℕ) → length parents ≡ 64 → length states ≡ 64 → length owners ≡ 256 → ReadOut (parents ++ states) owners parents states
halves_read parents states owners p s o =
    record {
      image = rw (eq-eqb (length (parents ++ states)) 128 (rw (length-append parents states) (omega arith)), eq-eqb (length owners) 256 o);
      is_parents = sym (take_at parents states 64 p);
      is_states = rw (drop_at parents states 64 p) (sym (take_all 64 states (omega arith)));
    }

module _ {actions owners parents states : List ℕ} (out : ReadOut actions owners parents states) where
  abbrev before : Arrays
  before = lent parents states owners

  long : (length actions ≡ 128) × (length owners ≡ 256)
  long = image_long actions owners out.image

  pub read_view : view_of before ≡ image_view actions owners
  read_view = rw (out.is_parents, out.is_states, second_half 64 actions long.0, second_half 128 owners long.1)

  -- what the soundness test finds
  pub read_sound : (numbers : ℕ) {ok : Bool} → ((k : ℕ) → member numbers k ≡ any (length owners) (λ i. member (get_or owners i 0) k)) → ok ≡ sound_with parents states numbers → ok ≡ sound read_write (view_of before)
  read_sound numbers gathered e = e ∙ sound_with_lem parents states (read_sets owners) (write_sets owners) numbers (standing_read owners numbers long.1 gathered)

  pub sound_image_lem : (numbers : ℕ) {ok : Bool} → ((k : ℕ) → member numbers k ≡ any (length owners) (λ i. member (get_or owners i 0) k)) → ok ≡ sound_with parents states numbers → ok ≡ sound_image actions owners
  sound_image_lem numbers gathered e = rw (out.image, ← read_view) (read_sound numbers gathered e)

  pub read_long : Long layout (arrays parents states (read_sets owners) (write_sets owners))
  read_long =
      let bytes = bytes_room actions owners out.image in
      let words = words_room actions owners out.image in
      arrays_long (rw out.is_parents (length-take-le 64 actions (bytes 0 (omega arith))))
      (rw out.is_states (length-take-le 64 (drop 64 actions) (rw (length-drop 64 actions) (let room = bytes 64 (omega arith) in omega arith))))
      (length-take-le 128 owners (words 0 (omega arith)))
      (length-take-le 128 (drop 128 owners) (rw (length-drop 128 owners) (let room = words 128 (omega arith) in omega arith)))

  pub read_arrays : (ok : Bool) → ok ≡ sound read_write (view_of before) → not ok ≡ false → SoundLists before
  read_arrays ok e t = record { table = record { long = read_long; is_sound = sym e ∙ not-false ok t }; owners_long = long.1 }

  -- ---- what a request leaves

  unchanged : (q : Option Request) (answer : ℕ) →
      ◌≡◌ {A = Outcome} (record { answer = answer; next = image_view actions owners }) (answered read_write (image_view actions owners) q) →
      Requested q actions owners answer actions owners
  unchanged q answer e =
      record { bytes_long = refl; words_long = refl; outcome = λ yes. e; no_image = λ no. absurd (false≢true (sym no ∙ out.image)) }

  pub unsound_requested : (ok : Bool) (asked : code.Option marks.Request) (answer : ℕ) → ok ≡ sound read_write (view_of before) → not ok ≡ true → answer ≡ unsound_answer (code_of asked) →
      Requested (meant_by asked) actions owners answer actions owners
  unsound_requested ok asked answer e broken is =
      rw is (unchanged (meant_by asked) (unsound_answer (code_of asked)) (unsound_answered (image_view actions owners) asked (rw (← read_view) (sym e ∙ not-true ok broken))))

  module _ (asked : code.Option marks.Request) {answer : ℕ} {parents' states' owners' : List ℕ} (took : steps.Requested (code_of asked) (first_of asked) (second_of asked) before answer (lent parents' states' owners'))
      (sound_before : SoundLists before) where
    stepped : SteppedTo (meant_by asked) before answer (lent parents' states' owners')
    stepped = asked_steps sound_before asked took

    -- what a request leaves of the image, accepted or not
    pub stepped_requested : {actions' : List ℕ} → actions' ≡ parents' ++ states' → Requested (meant_by asked) actions owners answer actions' owners'
    stepped_requested ea =
        let after = stepped.stepped.table in
        let words = stepped.owners_long in
        let l = long in
        record {
          bytes_long = rw (ea, length-append parents' states') (let p = after.long.parents_long in let s = after.long.states_long in omega arith);
          words_long = (omega arith);
          outcome = λ yes.
              rw (ea, take_at parents' states' 64 after.long.parents_long, drop_at parents' states' 64 after.long.parents_long, ← second_half 128 owners' words, ← read_view)
              stepped.stepped.outcome;
          no_image = λ no. absurd (false≢true (sym no ∙ out.image));
        }
