-- A list that is played record by record, in place in its words: what is left of it leads where all of it leads from the start. Assumes nothing.
use mathlib.Core.Path.{◌≡◌, refl, sym, ◌∙◌, ap}
use mathlib.Core.List.{List, [], ◌∷◌, ◌++◌}
use Prim.Native.Nat.{ℕ, zero, suc, ◌+◌, ◌-◌, ◌≤◌, ◌<◌}
use native.Mathlib.Omega.{arith}
use lib.ListN.{length, get_or, set, take, drop, length-set, length-drop, take-append-drop}
use Rattle.rules.specs.Bench as rules
use Rattle.rules.specs.Answers.{Outcome, answered}
use Rattle.rules.specs.Frames.{framed}
use Rattle.rules.specs.Lists.{list_answered, after_list}
use Rattle.rules.specs.ReadWrite.{read_write}
use Rattle.desk.specs.Words.{entries_in, spare_in}

-- the words of a list that is played from a bench on
unfoldable pub played_words : rules.Bench → List ℕ → List ℕ
played_words b (kind ∷ x ∷ y ∷ answer ∷ rest) =
    let o = answered read_write b (framed kind x y) in
    kind ∷ x ∷ y ∷ o.answer ∷ played_words o.next rest
played_words b [] = []
played_words b (k ∷ []) = k ∷ []
played_words b (k ∷ x ∷ []) = k ∷ x ∷ []
played_words b (k ∷ x ∷ y ∷ []) = k ∷ x ∷ y ∷ []

played_entries : (b : rules.Bench) (words : List ℕ) → entries_in (played_words b words) ≡ list_answered read_write b (entries_in words)
unfolding entries_in played_words list_answered
played_entries b [] = refl
played_entries b (k ∷ []) = refl
played_entries b (k ∷ x ∷ []) = refl
played_entries b (k ∷ x ∷ y ∷ []) = refl
played_entries b (k ∷ x ∷ y ∷ a ∷ rest) =
    let o = answered read_write b (framed k x y) in
    ap (λ l. record { kind = k; x = x; y = y; answer = o.answer } ∷ l) (played_entries o.next rest)

played_spare : (b : rules.Bench) (words : List ℕ) → spare_in (played_words b words) ≡ spare_in words
unfolding spare_in played_words
played_spare b [] = refl
played_spare b (k ∷ []) = refl
played_spare b (k ∷ x ∷ []) = refl
played_spare b (k ∷ x ∷ y ∷ []) = refl
played_spare b (k ∷ x ∷ y ∷ a ∷ rest) = played_spare (answered read_write b (framed k x y)).next rest

-- ---- what is left of a list

-- Played from a place in the words on, it leads where all of it leads from the start.
pub record Left (b₀ : rules.Bench) (words₀ : List ℕ) (b : rules.Bench) (words : List ℕ) (at : ℕ) : Type 0 where
  pub within : at ≤ length words
  pub long : length words ≡ length words₀
  pub list : take at words ++ played_words b (drop at words) ≡ played_words b₀ words₀
  pub bench : after_list read_write b (entries_in (drop at words)) ≡ after_list read_write b₀ (entries_in words₀)

pub left_all : (b : rules.Bench) (words : List ℕ) → Left b words b words 0
left_all b words = record { within = omega arith; long = refl; list = refl; bench = refl }

-- one record more
module _ (b b' : rules.Bench) (answer : ℕ) where
  -- what its request does, where the words from a place on say which it is
  abbrev Answers : List ℕ → ℕ → ℕ → ℕ → Type 0
  Answers words at at₁ at₂ =
      ◌≡◌ {A = Outcome} (record { answer = answer; next = b' }) (answered read_write b (framed (get_or words at 0) (get_or words at₁ 0) (get_or words at₂ 0)))

  -- with its answer in place, what is left behind it leads where it led from here
  abbrev Moves : List ℕ → ℕ → ℕ → ℕ → Type 0
  Moves words at at₃ at₄ =
      let words' = set words at₃ answer in
      (take at₄ words' ++ played_words b' (drop at₄ words') ≡ take at words ++ played_words b (drop at words))
      × (after_list read_write b' (entries_in (drop at₄ words')) ≡ after_list read_write b (entries_in (drop at words)))

  moved : (at : ℕ) (words : List ℕ) → at + 3 < length words → Answers words at (suc at) (suc (suc at)) → Moves words at (suc (suc (suc at))) (suc (suc (suc (suc at))))
  unfolding played_words entries_in after_list
  moved zero [] room e = absurd (omega arith)
  moved zero (k ∷ []) room e = absurd (omega arith)
  moved zero (k ∷ x ∷ []) room e = absurd (omega arith)
  moved zero (k ∷ x ∷ y ∷ []) room e = absurd (omega arith)
  moved zero (k ∷ x ∷ y ∷ a ∷ rest) room e =
      (ap (λ o. k ∷ x ∷ y ∷ o.answer ∷ played_words o.next rest) e, ap (λ o. after_list read_write o.next (entries_in rest)) e)
  moved (suc at) [] room e = absurd (omega arith)
  moved (suc at) (w ∷ rest) room e =
      let more = moved at rest (omega arith) e in
      (ap (λ l. w ∷ l) more.0, more.1)

  -- the same where the places behind it are said as sums
  on : (at : ℕ) (words : List ℕ) {one two three four : ℕ} → one ≡ suc at → two ≡ suc (suc at) → three ≡ suc (suc (suc at)) → four ≡ suc (suc (suc (suc at))) →
      at + 3 < length words → Answers words at one two → Moves words at three four
  on at words is_one is_two is_three is_four room e = rw (is_three, is_four) (moved at words room (rw (is_one, is_two) at e))

pub left_more : {b₀ b b' : rules.Bench} {words₀ words : List ℕ} {at answer : ℕ} → Left b₀ words₀ b words at → 3 < length words - at →
    ◌≡◌ {A = Outcome} (record { answer = answer; next = b' }) (answered read_write b (framed (get_or words at 0) (get_or words (at + 1) 0) (get_or words (at + 2) 0))) →
    Left b₀ words₀ b' (set words (at + 3) answer) (at + 4)
left_more {b₀} {b} {b'} {words₀} {words} {at} {answer} left more e =
    let turn = on b b' answer at words {three = at + 3} {four = at + 4} (omega arith) (omega arith) (omega arith) (omega arith) (omega (arith, left.within)) e in
    let same = length-set words (at + 3) answer in
    record { within = omega (arith, left.within); long = same ∙ left.long; list = turn.0 ∙ left.list; bench = turn.1 ∙ left.bench }

-- fewer than four words are no record
few_left : (b : rules.Bench) (words : List ℕ) → length words ≤ 3 → (played_words b words ≡ words) × (after_list read_write b (entries_in words) ≡ b)
unfolding played_words entries_in after_list
few_left b [] few = (refl, refl)
few_left b (k ∷ []) few = (refl, refl)
few_left b (k ∷ x ∷ []) few = (refl, refl)
few_left b (k ∷ x ∷ y ∷ []) few = (refl, refl)
few_left b (k ∷ x ∷ y ∷ a ∷ rest) few = absurd (omega arith)

-- With none left, words and bench are those after the list.
pub none_left : {b₀ b : rules.Bench} {words₀ words : List ℕ} {at : ℕ} → Left b₀ words₀ b words at → length words - at ≤ 3 →
    (entries_in words ≡ list_answered read_write b₀ (entries_in words₀)) × (b ≡ after_list read_write b₀ (entries_in words₀)) × (spare_in words ≡ spare_in words₀)
none_left {b₀} {b} {words₀} {words} {at} left none =
    let rest = few_left b (drop at words) (rw (length-drop at words) none) in
    let played : words ≡ played_words b₀ words₀ =
    sym (take-append-drop at words) ∙ ap (λ l. take at words ++ l) (sym rest.0) ∙ left.list in (
      ap entries_in played ∙ played_entries b₀ words₀,
      sym rest.1 ∙ left.bench,
      ap spare_in played ∙ played_spare b₀ words₀,
    )
