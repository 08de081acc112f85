-- Words copied from list to list, one by one or all at once. Assumes nothing.
use mathlib.Core.Bool.{true, false}
use mathlib.Core.Path.{◌≡◌, sym, ◌∙◌, ap}
use mathlib.Core.List.{List, [], ◌∷◌, ◌++◌, append-nil, append_assoc}
use Prim.Native.Nat.{ℕ, zero, suc, ◌+◌, ◌-◌, ◌≤◌, ◌<◌}
use native.Mathlib.Nat.{add-zero}
use native.Mathlib.Omega.{arith}
use borrow.Author.Tests.{le-leb, lt-leb}
use borrow.Rule.Slice.PartMut.{put_mid}
use lib.Dec.{leb}
use lib.ListN.{length, get_or, set, take, drop, drop_of_length-le}
use lib.Seq.{sets, length-sets, sets-eq, take_at, drop_at, drop-drop, length-take-le}
use Rattle.copies.specs.Copies.{words_put, words_from}

-- one number more of a list
pub copy_more : (out from : List ℕ) (at k : ℕ) → k < length from → set (sets out at (take k from)) (at + k) (get_or from k 0) ≡ sets out at (take (k + 1) from)
copy_more out [] at k below = absurd (omega arith)
copy_more out (x ∷ from) at zero below = ap (λ n. set out n x) (add-zero at)
copy_more out (x ∷ from) at (suc k) below =
    let next : at + suc k ≡ suc at + k = omega arith in
    let more : suc k + 1 ≡ suc (k + 1) = omega arith in
    rw (next, more) (copy_more (set out at x) from (suc at) k (omega arith))

-- a whole list, over one of its length
pub copy_whole : {A : Type 0} (out from : List A) → length out ≡ length from → sets out 0 from ≡ from
copy_whole {A} out from same =
    sets-eq from out 0 (omega arith)
    ∙ ap (λ (rest : List A). from ++ rest) (drop_of_length-le out {i = 0 + length from} (omega arith))
    ∙ append-nil from

-- ---- whether n numbers have a place from `at` on in a list

pub too_many : (at n long : ℕ) → long < n → leb (at + n) long ≡ false
too_many at n long more = lt-leb (at + n) long (omega arith)

pub too_far : (at n long : ℕ) → n ≤ long → long - n < at → leb (at + n) long ≡ false
too_far at n long room far = lt-leb (at + n) long (omega arith)

pub near : (at n long : ℕ) → n ≤ long → at ≤ long - n → leb (at + n) long ≡ true
near at n long room h = le-leb (at + n) long (omega arith)

-- a part that all words were copied into at once
pub put_part : {A : Type 0} (words from new : List A) (at : ℕ) → at + length from ≤ length words → new ≡ from → put_mid at (at + length from - at) words new ≡ sets words at from
put_part words from new at room e =
    let long : at + (at + length from - at) ≡ at + length from = omega arith in
    rw e (ap (λ rest. take at words ++ (from ++ rest)) (drop-drop (at + length from - at) at words ∙ ap (λ n. drop n words) long) ∙ sym (sets-eq from words at room ∙ append_assoc (take at words) from (drop (at + length from) words)))

-- what is put and taken there
pub all_put : {A : Type 0} (words : List A) (at : ℕ) (from : List A) → at + length from ≤ length words → words_put words at from ≡ sets words at from
all_put words at from room = rw (le-leb (at + length from) (length words) room)

pub all_taken : {A : Type 0} (n : ℕ) (blank : A) (words : List A) (at : ℕ) → at + n ≤ length words → words_from n blank words at ≡ take n (drop at words)
all_taken n blank words at room = rw (le-leb (at + n) (length words) room)

-- ---- two lists of one length, put one behind the other at a list's start

module _ {A : Type 0} (n : ℕ) (words first second : List A) (fits : n + n ≤ length words) (first_long : length first ≡ n) (second_long : length second ≡ n) where
  abbrev once : List A
  once = sets words 0 first

  once_long : length once ≡ length words
  once_long = length-sets words 0 first

  front : take n once ≡ first
  front = ap (take n) (sets-eq first words 0 (omega arith)) ∙ take_at first (drop (0 + length first) words) n first_long

  front_long : length (take n once) ≡ n
  front_long = length-take-le n once (rw once_long (omega arith))

  whole : sets once n second ≡ take n once ++ (second ++ drop (n + length second) once)
  whole = sets-eq second once n (rw (once_long, second_long) fits) ∙ append_assoc (take n once) second (drop (n + length second) once)

  -- they have room
  pub put_twice : words_put (words_put words 0 first) n second ≡ sets once n second
  put_twice = rw (all_put words 0 first (omega arith)) (all_put once n second (rw (once_long, second_long) fits))

  pub first_half : take n (sets once n second) ≡ first
  first_half = ap (take n) whole ∙ take_at (take n once) (second ++ drop (n + length second) once) n front_long ∙ front

  pub second_half : take n (drop n (sets once n second)) ≡ second
  second_half =
      ap (λ (l : List A). take n (drop n l)) whole
      ∙ ap (take n) (drop_at (take n once) (second ++ drop (n + length second) once) n front_long)
      ∙ take_at second (drop (n + length second) once) n second_long

  -- with no room left behind them they are all of it
  pub both_halves : length words ≡ n + n → sets once n second ≡ first ++ second
  both_halves long =
      whole ∙ ap (λ (l : List A). l ++ (second ++ drop (n + length second) once)) front
      ∙ ap (λ (l : List A). first ++ (second ++ l)) (drop_of_length-le once {i = n + length second} (rw (once_long, second_long, long) (omega arith)))
      ∙ ap (λ (l : List A). first ++ l) (append-nil second)
