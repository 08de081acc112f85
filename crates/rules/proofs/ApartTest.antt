-- A test of two lists of requests, pair by pair, that shows them to be apart, and one that shows their owners to be.
use mathlib.Core.Path.{◌≡◌, refl, ap}
use mathlib.Core.Bool.{Bool, true, false, not, ◌&&◌, ◌||◌}
use mathlib.Core.List.{List}
use mathlib.Core.Option.{Option, none, some}
use Prim.Native.Nat.{ℕ}
use lib.Dec.{eqb}
use borrow.Author.Tests.{eqb-true, eq-eqb, not-true}
use Rattle.rules.specs.Tests.{from}
use Rattle.rules.specs.Bench.{Shape}
use Rattle.rules.specs.Requests.{Request, open_top, open_sub, ask, commit, abort, quiet}
use Rattle.rules.specs.Merging.{names, asks_for, some_does, Apart}
use Rattle.rules.proofs.Tests.{clash, and_left, and_right, by_or, or_left, or_right, refuted}
use Rattle.rules.proofs.Mix.{asks_to_own}
use Rattle.rules.proofs.Merged.{some_follows}
use Rattle.rules.proofs.DemandThree.{OwnersApart, own_asks}

-- no request of xs meets one of ys
abbrev pub clear : (Request → Request → Bool) → List Request → List Request → Bool
clear meets xs ys = not (some_does (λ x. some_does (meets x) ys) xs)

-- both name some number
abbrev pub share_number : Request → Request → Bool
share_number (open_top n) y = names n y
share_number (open_sub n p) y = names n y || names p y
share_number (ask m a i) y = names a y
share_number (commit a) y = names a y
share_number (abort a) y = names a y
share_number (quiet a i) y = names a y

-- the instrument that a request is about, and the mode in which it asks to own it
abbrev instrument_of : Request → Option ℕ
instrument_of (open_top n) = none
instrument_of (open_sub n p) = none
instrument_of (ask m a i) = some i
instrument_of (commit a) = none
instrument_of (abort a) = none
instrument_of (quiet a i) = some i

abbrev mode_asked : Request → Option ℕ
mode_asked (open_top n) = none
mode_asked (open_sub n p) = none
mode_asked (ask m a i) = some m
mode_asked (commit a) = none
mode_asked (abort a) = none
mode_asked (quiet a i) = none

abbrev same_instrument : Request → Request → Bool
same_instrument x y = from (instrument_of x) false (λ i. from (instrument_of y) false (λ at. eqb i at))

-- both are about some instrument, in modes m and held with `clashes m held`; quiet asks in every mode, and clashes with all
abbrev pub share_instrument : (ℕ → ℕ → Bool) → Request → Request → Bool
share_instrument clashes x y = same_instrument x y && from (mode_asked x) true (λ m. from (mode_asked y) true (clashes m))

-- both ask to own some instrument, in modes m and held with `clashes m held`
abbrev pub share_ownership : (ℕ → ℕ → Bool) → Request → Request → Bool
share_ownership clashes x y = same_instrument x y && from (mode_asked x) false (λ m. from (mode_asked y) false (clashes m))

abbrev pub meet : Shape → Request → Request → Bool
meet sh x y = share_number x y || share_instrument sh.conflict x y

abbrev pub owners_meet : Shape → Request → Request → Bool
owners_meet sh x y = share_number x y || share_ownership sh.conflict x y

names_share : (k : ℕ) (x y : Request) → names k x ≡ true → names k y ≡ true → share_number x y ≡ true
names_share k (open_top n) y h g = rw (eqb-true n k h) g
names_share k (open_sub n p) y h g =
    by_or (eqb n k) (eqb p k) h (λ e. or_left (names n y) (names p y) (rw (eqb-true n k e) g))
    (λ e. or_right (names n y) (names p y) (rw (eqb-true p k e) g))
names_share k (ask m a i) y h g = rw (eqb-true a k h) g
names_share k (commit a) y h g = rw (eqb-true a k h) g
names_share k (abort a) y h g = rw (eqb-true a k h) g
names_share k (quiet a i) y h g = rw (eqb-true a k h) g

asks_instrument : (m i : ℕ) (r : Request) → asks_for m i r ≡ true → instrument_of r ≡ some i
asks_instrument m i (open_top n) h = clash false h refl
asks_instrument m i (open_sub n p) h = clash false h refl
asks_instrument m i (ask mode a at) h = ap some (eqb-true at i (and_right (eqb mode m) (eqb at i) h))
asks_instrument m i (commit a) h = clash false h refl
asks_instrument m i (abort a) h = clash false h refl
asks_instrument m i (quiet a at) h = ap some (eqb-true at i h)

-- what clashes with the mode asked for clashes with the request
asks_mode : (m i : ℕ) (clashes : ℕ → Bool) (r : Request) → asks_for m i r ≡ true → clashes m ≡ true → from (mode_asked r) true clashes ≡ true
asks_mode m i clashes (open_top n) h c = refl
asks_mode m i clashes (open_sub n p) h c = refl
asks_mode m i clashes (ask mode a at) h c = rw (eqb-true mode m (and_left (eqb mode m) (eqb at i) h)) c
asks_mode m i clashes (commit a) h c = refl
asks_mode m i clashes (abort a) h c = refl
asks_mode m i clashes (quiet a at) h c = refl

owns_mode : (m i : ℕ) (r : Request) → asks_to_own m i r ≡ true → mode_asked r ≡ some m
owns_mode m i (open_top n) h = clash false h refl
owns_mode m i (open_sub n p) h = clash false h refl
owns_mode m i (ask mode a at) h = ap some (eqb-true mode m (and_left (eqb mode m) (eqb at i) h))
owns_mode m i (commit a) h = clash false h refl
owns_mode m i (abort a) h = clash false h refl
owns_mode m i (quiet a at) h = clash false h refl

module _ (clashes : ℕ → ℕ → Bool) (i m held : ℕ) (c : clashes m held ≡ true) (x y : Request) where
  asks_share : asks_for m i x ≡ true → asks_for held i y ≡ true → share_instrument clashes x y ≡ true
  asks_share h g =
      rw (asks_instrument m i x h, asks_instrument held i y g, eq-eqb i i refl)
      (asks_mode m i (λ mode. from (mode_asked y) true (clashes mode)) x h (asks_mode held i (clashes m) y g c))

  owns_share : asks_to_own m i x ≡ true → asks_to_own held i y ≡ true → share_ownership clashes x y ≡ true
  owns_share h g =
      rw (asks_instrument m i x (own_asks m i x h), asks_instrument held i y (own_asks held i y g), owns_mode m i x h, owns_mode held i y g, eq-eqb i i refl)
      c

-- lists that are clear have no two requests that pass tests by which they would meet
never : (meets : Request → Request → Bool) (xs ys : List Request) → clear meets xs ys ≡ true →
    (f g : Request → Bool) → ((x y : Request) → f x ≡ true → g y ≡ true → meets x y ≡ true) →
    some_does f xs ≡ true → some_does g ys ≡ true → ⊥
never meets xs ys ok f g meet h e =
    clash (some_does (λ x. some_does (meets x) ys) xs)
    (some_follows f (λ x. some_does (meets x) ys) (λ x fx. some_follows g (meets x) (λ y. meet x y fx) ys e) xs h)
    (not-true (some_does (λ x. some_does (meets x) ys) xs) ok)

pub clear_apart : (sh : Shape) (xs ys : List Request) → clear (meet sh) xs ys ≡ true → Apart sh xs ys
clear_apart sh xs ys ok =
    record {
      numbers = λ k. never (meet sh) xs ys ok (names k) (names k)
          (λ x y h g. or_left (share_number x y) (share_instrument sh.conflict x y) (names_share k x y h g));
      instruments = λ i m held h g. refuted (sh.conflict m held) (λ c.
          never (meet sh) xs ys ok (asks_for m i) (asks_for held i)
          (λ x y h g. or_right (share_number x y) (share_instrument sh.conflict x y) (asks_share sh.conflict i m held c x y h g))
          h
          g);
    }

pub clear_owners_apart : (sh : Shape) (xs ys : List Request) → clear (owners_meet sh) xs ys ≡ true → OwnersApart sh xs ys
clear_owners_apart sh xs ys ok =
    record {
      numbers = λ k. never (owners_meet sh) xs ys ok (names k) (names k)
          (λ x y h g. or_left (share_number x y) (share_ownership sh.conflict x y) (names_share k x y h g));
      instruments = λ i m held h g. refuted (sh.conflict m held) (λ c.
          never (owners_meet sh) xs ys ok (asks_to_own m i) (asks_to_own held i)
          (λ x y h g. or_right (share_number x y) (share_ownership sh.conflict x y) (owns_share sh.conflict i m held c x y h g))
          h
          g);
    }
