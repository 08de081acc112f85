-- What a frame says, put into the two halves of a list, and a loop that reads frames into one: its halves are what was taken.
use mathlib.Core.Path.{◌≡◌, refl}
use mathlib.Core.Bool.{true, false}
use mathlib.Core.List.{List}
use Prim.Native.Nat.{ℕ, ◌+◌, ◌<◌, ◌≤◌}
use native.Mathlib.Omega.{arith}
use lib.ListN.{length, set}
use lib.Seq.{take-set-le, take-set-lt, drop-set-lt, drop-set-add}
use mathlib.Core.List.{map}
use Rattle.std.proofs.lemmas.List.{map-set}
use Rattle.forms.specs.Kinds.{Kind, frame_size}
use Rattle.forms.specs.WellShaped.{stands_at, first_in, second_in, take_of}
use Rattle.loading.specs.Halves.{halves, ReadInto}
use Rattle.loading.proofs.ReadTurns.{Left, left_none}

-- ---- one frame

module _ (K : Kind) (text : List ℕ) (at n k : ℕ) (l : List ℕ) where
  -- the frame stands there, and its two elements are put at place k of each half
  pub halves_entered : k < n → stands_at K text at k ≡ true → {x y : ℕ} → x ≡ first_in K text at → y ≡ second_in K text at → halves n (at + frame_size K.shape) (set (set l k x) (n + k) y) ≡ take_of K text k (halves n at l)
  halves_entered below stands {x} {y} ex ey =
      rw (stands, take-set-le n (set l k x) (n + k) y (omega arith), take-set-lt n l k x below, drop-set-add n (set l k x) k y, drop-set-lt n l k x below, ex, ey)

  -- it doesn't
  pub halves_passed : stands_at K text at k ≡ false → halves n at l ≡ take_of K text k (halves n at l)
  halves_passed none = rw none

-- the same of a list whose elements have a number each, with the frame's bytes and the second place as code has them
module _ (K : Kind) (text : List ℕ) (at n k : ℕ) {A : Type 0} (number : A → ℕ) (l : List A) where
  pub elements_entered : {size place : ℕ} → size ≡ frame_size K.shape → place ≡ n + k → k < n → stands_at K text at k ≡ true → {x y : A} → number x ≡ first_in K text at → number y ≡ second_in K text at → halves n (at + size) (map number (set (set l k x) place y)) ≡ take_of K text k (halves n at (map number l))
  elements_entered {size} {place} sized placed below stands {x} {y} ex ey =
      rw (map-set, map-set, sized, placed) (halves_entered K text at n k (map number l) below stands ex ey)

-- ---- all frames of a kind

-- k of n are passed: the halves are what is taken by now
pub record HalvesLeft (K : Kind) (text : List ℕ) (n from : ℕ) (before : List ℕ) (k at : ℕ) (l : List ℕ) : Type 0 where
  pub left : Left (take_of K text) n k (halves n at l) (halves n from before)
  pub long : length l ≡ length before

module _ {K : Kind} {text : List ℕ} {n from : ℕ} {before : List ℕ} where
  pub all_read : length before ≡ n + n → {k end : ℕ} {after : List ℕ} → HalvesLeft K text n from before k end after → n ≤ k → ReadInto K n text from before end after
  all_read long h done =
      record { long = h.long; read = λ both. left_none h.left done; other = λ never. absurd (never long) }

  pub none_read : (length before ≡ n + n → ⊥) → ReadInto K n text from before from before
  none_read never = record { long = refl; read = λ both. absurd (never both); other = λ other. (refl, refl) }
