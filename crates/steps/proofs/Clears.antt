-- Lists whose numbers got another byte or have gone: their lengths and places, and the turn of the loop that clears sets. Assumes nothing.
use mathlib.Core.Path.{◌≡◌, refl, sym, ◌∙◌, ap}
use mathlib.Core.List.{List, [], ◌∷◌, map}
use Prim.Native.Nat.{ℕ, zero, suc, ◌+◌, ◌≤◌, ◌<◌}
use native.Mathlib.Omega.{arith}
use native.Mathlib.Nat.{zero-add, add-zero, suc-add, add-suc}
use native.Mathlib.Numerals.{add-one}
use lib.ListN.{length, get_or, set, length-map, get_or-map}
use lib.Seq.{ext_get_or}
use Rattle.sets.specs.Sets.{difference}
use Rattle.views.specs.Families.{given}
use Rattle.tables.specs.Changes.{Changed}
use Rattle.tables.proofs.Cleared.{difference_empty}
use Rattle.steps.specs.Changes.{bytes_from, bytes_put, sets_left}

-- ---- bytes

module _ (numbers new : ℕ) where
  bytes_from_long : (k : ℕ) (bytes : List ℕ) → length (bytes_from k numbers new bytes) ≡ length bytes
  unfolding bytes_from
  bytes_from_long k [] = refl
  bytes_from_long k (byte ∷ rest) = ap suc (bytes_from_long (suc k) rest)

  bytes_from_at : (k : ℕ) (bytes : List ℕ) (i : ℕ) → i < length bytes → get_or (bytes_from k numbers new bytes) i 0 ≡ given numbers new (k + i) (get_or bytes i 0)
  unfolding bytes_from
  bytes_from_at k [] i l = absurd (omega arith)
  bytes_from_at k (byte ∷ rest) zero l = rw (add-zero k)
  bytes_from_at k (byte ∷ rest) (suc i) l =
      bytes_from_at (suc k) rest i (omega arith)
      ∙ ap (λ (n : ℕ). given numbers new n (get_or rest i 0)) (suc-add k i ∙ sym (add-suc k i))

  -- the bytes with others, place by place
  pub bytes_put_lem : (bytes : List ℕ) → Changed (given numbers new) bytes (bytes_put numbers new bytes)
  bytes_put_lem bytes =
      record {
        long = bytes_from_long 0 bytes;
        each = λ i l. bytes_from_at 0 bytes i l ∙ ap (λ (n : ℕ). given numbers new n (get_or bytes i 0)) (zero-add i);
      }

  -- Bytes that were changed so, place by place, are those bytes.
  pub changed_put : (before after : List ℕ) → Changed (given numbers new) before after → after ≡ bytes_put numbers new before
  changed_put before after c =
      let put = bytes_put_lem before in
      ext_get_or 0 after (bytes_put numbers new before) (c.long ∙ sym put.long) (λ i l. c.each i (rw (sym c.long) l) ∙ sym (put.each i (rw (sym c.long) l)))

-- ---- sets

-- the sets that are left, place by place
pub sets_left_lem : (gone : ℕ) (words : List ℕ) → Changed (λ i word. difference word gone) words (sets_left gone words)
sets_left_lem gone words =
    record {
      long = length-map words (λ (word : ℕ). difference word gone);
      each = λ i l. ap (get_or (sets_left gone words) i) (sym (difference_empty gone)) ∙ get_or-map (λ (word : ℕ). difference word gone) words i 0;
    }

-- the list with f applied to its first n elements
unfoldable pub map_to : ℕ → (ℕ → ℕ) → List ℕ → List ℕ
map_to zero f l = l
map_to (suc n) f [] = []
map_to (suc n) f (x ∷ xs) = f x ∷ map_to n f xs

module _ (f : ℕ → ℕ) where
  pub map_none : (l : List ℕ) → l ≡ map_to 0 f l
  unfolding map_to
  map_none l = refl

  pub map_more : (n : ℕ) (l : List ℕ) → set (map_to n f l) n (f (get_or (map_to n f l) n 0)) ≡ map_to (n + 1) f l
  unfolding map_to
  map_more zero [] = refl
  map_more zero (x ∷ xs) = refl
  map_more (suc n) [] = rw (add-one (suc n))
  map_more (suc n) (x ∷ xs) = rw (add-one (suc n)) (ap (λ (r : List ℕ). f x ∷ r) (map_more n xs ∙ rw (add-one n)))

  pub map_all : (n : ℕ) (l : List ℕ) → length l ≤ n → map_to n f l ≡ map f l
  unfolding map_to
  map_all zero [] h = refl
  map_all zero (x ∷ xs) h = absurd (omega arith)
  map_all (suc n) [] h = refl
  map_all (suc n) (x ∷ xs) h = ap (λ (r : List ℕ). f x ∷ r) (map_all n xs (omega arith))
