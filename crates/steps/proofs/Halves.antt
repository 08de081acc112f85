-- The owners' words in two halves, the read sets and the write sets: a place, a store, numbers that leave, and a change of every set, seen in each half. Assumes nothing.
use mathlib.Core.Path.{◌≡◌, refl, ◌∙◌, ap}
use mathlib.Core.List.{List, [], ◌∷◌, map}
use Prim.Native.Nat.{ℕ, zero, suc, ◌+◌, ◌<◌}
use native.Mathlib.Omega.{arith}
use lib.ListN.{get_or, set, take, drop}
use lib.Seq.{take-set-le, take-set-lt, drop-set-lt, drop-set-add, get_or-take, get_or-drop}
use Rattle.sets.specs.Sets.{difference}
use Rattle.tables.specs.OneWord.{left_at}
use Rattle.steps.specs.Arrays.{read_sets, write_sets}

-- ---- a place

pub read_set_at : (owners : List ℕ) (i : ℕ) → i < 128 → get_or (read_sets owners) i 0 ≡ get_or owners i 0
read_set_at owners i l = get_or-take 128 owners i 0 l

pub write_set_at : (owners : List ℕ) (i : ℕ) → i < 128 → get_or (write_sets owners) i 0 ≡ get_or owners (128 + i) 0
write_set_at owners i l = get_or-take 128 (drop 128 owners) i 0 l ∙ get_or-drop 128 owners i 0

-- ---- a store in one half leaves the other alone

pub read_stored : (owners : List ℕ) (i s : ℕ) → i < 128 → read_sets (set owners i s) ≡ set (read_sets owners) i s
read_stored owners i s l = take-set-lt 128 owners i s l

pub read_stored_other : (owners : List ℕ) (i s : ℕ) → i < 128 → write_sets (set owners i s) ≡ write_sets owners
read_stored_other owners i s l = ap (take 128) (drop-set-lt 128 owners i s l)

pub write_stored : (owners : List ℕ) (i s : ℕ) → i < 128 → write_sets (set owners (128 + i) s) ≡ set (write_sets owners) i s
write_stored owners i s l = ap (take 128) (drop-set-add 128 owners i s) ∙ take-set-lt 128 (drop 128 owners) i s l

pub write_stored_other : (owners : List ℕ) (i s : ℕ) → read_sets (set owners (128 + i) s) ≡ read_sets owners
write_stored_other owners i s = take-set-le 128 owners (128 + i) s (omega arith)

-- ---- numbers leave one set

pub read_left : (owners : List ℕ) (i gone : ℕ) → i < 128 → read_sets (left_at owners i gone) ≡ left_at (read_sets owners) i gone
read_left owners i gone l = rw (read_stored owners i (difference (get_or owners i 0) gone) l, read_set_at owners i l)

pub read_left_other : (owners : List ℕ) (i gone : ℕ) → i < 128 → write_sets (left_at owners i gone) ≡ write_sets owners
read_left_other owners i gone l = read_stored_other owners i (difference (get_or owners i 0) gone) l

pub write_left : (owners : List ℕ) (i gone : ℕ) → i < 128 → write_sets (left_at owners (128 + i) gone) ≡ left_at (write_sets owners) i gone
write_left owners i gone l = rw (write_stored owners i (difference (get_or owners (128 + i) 0) gone) l, write_set_at owners i l)

pub write_left_other : (owners : List ℕ) (i gone : ℕ) → read_sets (left_at owners (128 + i) gone) ≡ read_sets owners
write_left_other owners i gone = write_stored_other owners i (difference (get_or owners (128 + i) 0) gone)

-- ---- a change of every set

module _ (f : ℕ → ℕ) where
  take_map : (n : ℕ) (l : List ℕ) → take n (map f l) ≡ map f (take n l)
  take_map zero l = refl
  take_map (suc n) [] = refl
  take_map (suc n) (x ∷ xs) = ap (λ (r : List ℕ). f x ∷ r) (take_map n xs)

  drop_map : (n : ℕ) (l : List ℕ) → drop n (map f l) ≡ map f (drop n l)
  drop_map zero l = refl
  drop_map (suc n) [] = refl
  drop_map (suc n) (x ∷ xs) = drop_map n xs

  pub reads_changed : (owners : List ℕ) → read_sets (map f owners) ≡ map f (read_sets owners)
  reads_changed owners = take_map 128 owners

  pub writes_changed : (owners : List ℕ) → write_sets (map f owners) ≡ map f (write_sets owners)
  writes_changed owners = ap (take 128) (drop_map 128 owners) ∙ take_map 128 (drop 128 owners)
