-- Flat words and the records in them: how many there are, and that records and spare words are all of them. Assumes nothing.
use mathlib.Core.Path.{◌≡◌, refl, sym, ◌∙◌, ap}
use mathlib.Core.Bool.{true, false}
use mathlib.Core.List.{List, [], ◌∷◌, ◌++◌}
use Prim.Native.Nat.{ℕ, ◌+◌, ◌*◌, ◌/◌, ◌≤◌, ◌<◌}
use native.Mathlib.Omega.{arith}
use borrow.Author.Tests.{lt-ltb, le-ltb}
use lib.ListN.{length}
use Rattle.rules.specs.Lists.{Entry}
use Rattle.desk.specs.Words.{entries_in, spare_in}
use Rattle.desk.specs.Desk.{too_long}

-- ---- how many

entries_count : (words : List ℕ) → (4 * length (entries_in words) ≤ length words) × (length words < 4 * length (entries_in words) + 4)
unfolding entries_in
entries_count [] = (omega arith, omega arith)
entries_count (k ∷ []) = (omega arith, omega arith)
entries_count (k ∷ x ∷ []) = (omega arith, omega arith)
entries_count (k ∷ x ∷ y ∷ []) = (omega arith, omega arith)
entries_count (k ∷ x ∷ y ∷ a ∷ rest) = let more = entries_count rest in (omega arith, omega arith)

pub too_long_lem : (words : List ℕ) → 32 < length words / 4 → too_long words ≡ true
too_long_lem words many = let count = entries_count words in lt-ltb 32 (length (entries_in words)) (omega arith)

pub short_enough : (words : List ℕ) → length words / 4 ≤ 32 → too_long words ≡ false
short_enough words few = let count = entries_count words in le-ltb 32 (length (entries_in words)) (omega arith)

-- ---- all of them

-- the words of records
unfoldable words_of : List Entry → List ℕ
words_of [] = []
words_of (e ∷ es) = e.kind ∷ e.x ∷ e.y ∷ e.answer ∷ words_of es

records_and_spare : (words : List ℕ) → words_of (entries_in words) ++ spare_in words ≡ words
unfolding entries_in spare_in words_of
records_and_spare [] = refl
records_and_spare (k ∷ []) = refl
records_and_spare (k ∷ x ∷ []) = refl
records_and_spare (k ∷ x ∷ y ∷ []) = refl
records_and_spare (k ∷ x ∷ y ∷ a ∷ rest) = ap (λ l. k ∷ x ∷ y ∷ a ∷ l) (records_and_spare rest)

-- Words with the same records and the same spare words are the same.
pub same_words : (words words' : List ℕ) → entries_in words ≡ entries_in words' → spare_in words ≡ spare_in words' → words ≡ words'
same_words words words' records spare =
    sym (records_and_spare words)
    ∙ (λ i. words_of (records i) ++ spare i)
    ∙ records_and_spare words'
