-- Numbers that leave the sets of some places: place by place, and where they stand at no others they leave all sets. Assumes nothing.
use Rattle.std.specs.Prelude.{if◌then◌else◌}
use mathlib.Core.Path.{◌≡◌, refl, sym, ◌∙◌, ap}
use mathlib.Core.Bool.{true, false, and-true, and-false}
use mathlib.Core.List.{List}
use Prim.Native.Nat.{ℕ, ◌+◌, ◌%◌, ◌<◌}
use native.Mathlib.Omega.{arith}
use borrow.Author.Tests.{eqb-true, eqb-false, eq-eqb, ne_eqb, ltb-true, ltb-false, lt-ltb}
use lib.Dec.{eqb, ltb}
use lib.ListN.{length, get_or, length-set}
use lib.Seq.{ext_get_or, get_or-set_same, get_or-set_other}
use Rattle.sets.specs.Sets.{member, difference}
use Rattle.sets.proofs.Laws.{member_empty, member_difference, same_members, difference_fits, below_pow}
use Rattle.sets.proofs.WordPlaces.{length_first, word_first}
use Rattle.rules.specs.Tests.{all}
use Rattle.rules.proofs.Tests.{by_bool, all_at}
use Rattle.tables.specs.OneWord.{left_at}
use Rattle.tables.proofs.Taken.{Taken}
use Rattle.steps.specs.Changes.{sets_left}
use Rattle.steps.proofs.Clears.{sets_left_lem}
use Rattle.index.specs.Places.{unknown, left_word, left_places, left_in}

-- where nothing is known, every place may be one
pub unknown_has : (place : ℕ) → place < 64 → member unknown place ≡ true
unfolding all member
unknown_has place l = all_at 64 (member unknown) refl place l

-- no number leaves a set that has none of them
pub apart_stays : (s gone : ℕ) → ((k : ℕ) → member s k ≡ true → member gone k ≡ false) → difference s gone ≡ s
apart_stays s gone apart =
    same_members s (difference s gone) s (difference_fits s s gone (below_pow s)) (below_pow s)
    (λ k l. member_difference s gone k
    ∙ by_bool (member s k) (λ m. rw (m, apart k m)) (λ m. rw m))

-- ---- words, by places

-- words that are the same at each place
left_by : (places gone : ℕ) (owners words : List ℕ) → length words ≡ length owners →
    ((word : ℕ) → word < length owners → get_or words word 0 ≡ left_word places gone owners word) → words ≡ left_places places gone owners
left_by places gone owners words long each =
    ext_get_or 0 words (left_places places gone owners) (long ∙ sym (length_first (length owners) (left_word places gone owners)))
    (λ word l. let known : word < length owners = rw (sym long) l in
    each word known ∙ sym (word_first (length owners) (left_word places gone owners) word known))

pub left_nowhere : (gone : ℕ) (owners : List ℕ) (places : ℕ) → places ≡ 0 → owners ≡ left_places places gone owners
left_nowhere gone owners places e = left_by places gone owners owners refl (λ word l. rw (e, member_empty (word % 64), and-false (ltb word 256)))

-- Numbers that stand at no other places leave all sets.
pub left_all : (places gone : ℕ) (owners : List ℕ) → length owners ≡ 256 →
    ((word : ℕ) → word < 256 → member places (word % 64) ≡ false → (k : ℕ) → member (get_or owners word 0) k ≡ true → member gone k ≡ false) →
    left_in places gone owners ≡ sets_left gone owners
left_all places gone owners long apart =
    let left = sets_left_lem gone owners in
    by_bool (eqb places unknown) (λ t. rw t)
    (λ t. rw t
    (sym (left_by places gone owners (sets_left gone owners) left.long
    (λ word l. let known : word < 256 = rw (sym long) l in
    left.each word l
    ∙ by_bool (member places (word % 64)) (λ m. rw (m, lt-ltb word 256 known))
    (λ m. rw (m, and-false (ltb word 256)) (apart_stays (get_or owners word 0) gone (apart word known m)))))))

-- ---- one place

module _ (place gone : ℕ) (owners : List ℕ) where
  -- the four sets of the place are left
  abbrev pub left_place : List ℕ
  left_place = left_at (left_at (left_at (left_at owners place gone) (64 + place) gone) (128 + place) gone) (192 + place) gone

  -- a word, when numbers leave the one at i
  abbrev left_one : ℕ → ℕ → ℕ → ℕ
  left_one word i s = if eqb word i then difference s gone else s

  one_left : (words : List ℕ) (i word : ℕ) → word < length words → get_or (left_at words i gone) word 0 ≡ left_one word i (get_or words word 0)
  one_left words i word l =
      by_bool (eqb word i) (λ e. let same = eqb-true word i e in rw (e, ← same) (get_or-set_same words word (difference (get_or words word 0) gone) 0 l))
      (λ e. rw e (get_or-set_other words i word (difference (get_or words i 0) gone) 0 (eqb-false word i e)))

  one_long : (words : List ℕ) (i : ℕ) → length (left_at words i gone) ≡ length words
  one_long words i = length-set words i (difference (get_or words i 0) gone)

  abbrev first : List ℕ
  first = left_at owners place gone

  abbrev second : List ℕ
  second = left_at first (64 + place) gone

  abbrev third : List ℕ
  third = left_at second (128 + place) gone

  second_long : length second ≡ length owners
  second_long = one_long first (64 + place) ∙ one_long owners place

  third_long : length third ≡ length owners
  third_long = one_long second (128 + place) ∙ second_long

  pub left_place_long : length left_place ≡ length owners
  left_place_long = one_long third (192 + place) ∙ third_long

  four_left : (word : ℕ) → word < length owners →
      get_or left_place word 0 ≡ left_one word (192 + place) (left_one word (128 + place) (left_one word (64 + place) (left_one word place (get_or owners word 0))))
  four_left word l =
      one_left third (192 + place) word (rw third_long l)
      ∙ ap (left_one word (192 + place))
      (one_left second (128 + place) word (rw second_long l)
      ∙ ap (left_one word (128 + place))
      (one_left first (64 + place) word (rw (one_long owners place) l) ∙ ap (left_one word (64 + place)) (one_left owners place word l)))

  module _ (known : place < 64) where
    -- a word of another place is none of the four
    elsewhere : (word i : ℕ) → i < 256 → i % 64 ≡ place → (word < 256 → word % 64 ≡ place → ⊥) → eqb word i ≡ false
    elsewhere word i l here other = ne_eqb word i (λ e. other (omega arith) (omega arith))

    other_place : (word : ℕ) → word < length owners → (word < 256 → word % 64 ≡ place → ⊥) → get_or left_place word 0 ≡ get_or owners word 0
    other_place word l other =
        four_left word l
        ∙ rw (
          elsewhere word (192 + place) (omega arith) (omega arith) other,
          elsewhere word (128 + place) (omega arith) (omega arith) other,
          elsewhere word (64 + place) (omega arith) (omega arith) other,
          elsewhere word place (omega arith) (omega arith) other,
        )

    this_place : (word : ℕ) → word < length owners → word < 256 → word % 64 ≡ place → get_or left_place word 0 ≡ difference (get_or owners word 0) gone
    this_place word l last same =
        four_left word l
        ∙ by_bool (ltb word 128)
        (λ t. let below = ltb-true word 128 t in
        by_bool (ltb word 64)
        (λ u. let lower = ltb-true word 64 u in
        rw (ne_eqb word (192 + place) (λ e. absurd (omega arith)), ne_eqb word (128 + place) (λ e. absurd (omega arith)), ne_eqb word (64 + place) (λ e. absurd (omega arith)), eq-eqb word place (omega arith)))
        (λ u. let upper = ltb-false word 64 u in
        rw (ne_eqb word (192 + place) (λ e. absurd (omega arith)), ne_eqb word (128 + place) (λ e. absurd (omega arith)), ne_eqb word place (λ e. absurd (omega arith)), eq-eqb word (64 + place) (omega arith))))
        (λ t. let above = ltb-false word 128 t in
        by_bool (ltb word 192)
        (λ u. let lower = ltb-true word 192 u in
        rw (ne_eqb word (192 + place) (λ e. absurd (omega arith)), ne_eqb word (64 + place) (λ e. absurd (omega arith)), ne_eqb word place (λ e. absurd (omega arith)), eq-eqb word (128 + place) (omega arith)))
        (λ u. let upper = ltb-false word 192 u in
        rw (ne_eqb word (128 + place) (λ e. absurd (omega arith)), ne_eqb word (64 + place) (λ e. absurd (omega arith)), ne_eqb word place (λ e. absurd (omega arith)), eq-eqb word (192 + place) (omega arith))))

    -- when the numbers leave the place that is taken and then those that are left, they leave all of them
    pub left_turn : (rest next : ℕ) → Taken 64 rest place next → left_places next gone left_place ≡ left_places rest gone owners
    left_turn rest next t =
        left_by rest gone owners (left_places next gone left_place) (length_first (length left_place) (left_word next gone left_place) ∙ left_place_long)
        (λ word l. word_first (length left_place) (left_word next gone left_place) word (rw left_place_long l) ∙ each word l)
      where
        each : (word : ℕ) → word < length owners → left_word next gone left_place word ≡ left_word rest gone owners word
        each word l =
            by_bool (ltb word 256)
            (λ u. by_bool (eqb (word % 64) place)
            (λ e. let same = eqb-true (word % 64) place e in
            rw (u, t.members (word % 64), e, same, t.was, this_place word l (ltb-true word 256 u) same))
            (λ e. let other = eqb-false (word % 64) place e in
            rw (u, t.members (word % 64), e, and-true (member rest (word % 64)), other_place word l (λ low. other))))
            (λ u. rw (u, other_place word l (λ low. absurd (let high = ltb-false word 256 u in omega arith))))
