-- Two benches put together by member: the numbers of the one side from the one bench, all others from the other. What each side keeps to, and
-- when the two sides are apart.
use Rattle.std.specs.Prelude.{cond}
use mathlib.Core.Path.{◌≡◌, sym, ◌∙◌}
use mathlib.Core.Bool.{Bool, true, false, not, ◌&&◌, not-not}
use mathlib.Core.Option.{none, some}
use Prim.Native.Nat.{ℕ}
use lib.Dec.{eqb}
use borrow.Author.Tests.{not-true, ne_eqb}
use Rattle.rules.specs.Bench.{Shape, free, head_of, Bench}
use Rattle.rules.specs.Requests.{Request, open_top, open_sub, ask, commit, abort, quiet}
use Rattle.rules.specs.Sound.{sound}
use Rattle.rules.specs.Merging.{names, Symmetric}
use Rattle.rules.proofs.Tests.{by_bool, clash}

-- what f gives at the numbers, and g at all others
abbrev pub choose {ℓ} : {A : Type ℓ} → (ℕ → Bool) → (ℕ → A) → (ℕ → A) → ℕ → A
choose numbers f g k = cond (numbers k) (f k) (g k)

abbrev pub mix : (ℕ → Bool) → Bench → Bench → Bench
mix numbers c d =
    record {
      state = choose numbers c.state d.state;
      parent = choose numbers c.parent d.parent;
      stands = λ m i. choose numbers (c.stands m i) (d.stands m i);
    }

-- benches are equal where they say the same of every number
pub bench_path : (b c : Bench) → ((k : ℕ) → b.state k ≡ c.state k) → ((k : ℕ) → b.parent k ≡ c.parent k) →
    ((m i k : ℕ) → b.stands m i k ≡ c.stands m i k) → b ≡ c
bench_path b c states parents sets = λ j. record { state = λ k. states k j; parent = λ k. parents k j; stands = λ m i k. sets m i k j }

-- a number that is none of the numbers differs from one that is
pub told_apart : (numbers : ℕ → Bool) (k n : ℕ) → numbers k ≡ false → numbers n ≡ true → eqb k n ≡ false
told_apart numbers k n g h = ne_eqb k n (λ q. clash (numbers k) (rw q h) g)

-- One side: its action numbers, and the modes in which it asks to own each instrument, `asks m i`.
pub record Side : Type 0 where
  pub numbers : ℕ → Bool
  pub asks : ℕ → ℕ → Bool

-- The request asks to own instrument i in mode m. Quiet doesn't: it gives up what its group stands in.
abbrev pub asks_to_own : ℕ → ℕ → Request → Bool
asks_to_own m i (open_top n) = false
asks_to_own m i (open_sub n p) = false
asks_to_own m i (ask mode a at) = eqb mode m && eqb at i
asks_to_own m i (commit a) = false
asks_to_own m i (abort a) = false
asks_to_own m i (quiet a at) = false

-- Requests that keep to a side: the numbers that they name are its numbers, and what they ask to own is among its asks. `does test` says whether one
-- of them passes the test.
pub record Of (s : Side) (does : (Request → Bool) → Bool) : Type 0 where
  pub named : (k : ℕ) → does (names k) ≡ true → s.numbers k ≡ true
  pub asked : (m i : ℕ) → does (asks_to_own m i) ≡ true → s.asks m i ≡ true

-- Every number is of one of the two sides alone, and what they ask for doesn't conflict.
pub record Parted (sh : Shape) (s t : Side) : Type 0 where
  pub complement : (k : ℕ) → t.numbers k ≡ not (s.numbers k)
  pub no_conflict : (m held i : ℕ) → s.asks m i ≡ true → t.asks held i ≡ true → sh.conflict m held ≡ false

-- A sound bench that a side has to itself: other numbers are as in an empty bench, parents and heads are its numbers, and what stands in a set was
-- asked for.
pub record Alone (sh : Shape) (s : Side) (b : Bench) : Type 0 where
  pub is_sound : sound sh b ≡ true
  pub other_free : (k : ℕ) → s.numbers k ≡ false → b.state k ≡ free
  pub other_top : (k : ℕ) → s.numbers k ≡ false → b.parent k ≡ none
  pub other_nowhere : (k m i : ℕ) → s.numbers k ≡ false → b.stands m i k ≡ false
  pub parents : (k p : ℕ) → b.parent k ≡ some p → s.numbers p ≡ true
  pub heads : (k h : ℕ) → head_of (b.state k) ≡ some h → s.numbers h ≡ true
  pub was_asked : (m i k : ℕ) → b.stands m i k ≡ true → s.asks m i ≡ true

pub parted_swap : (sh : Shape) → Symmetric sh → (s t : Side) → Parted sh s t → Parted sh t s
parted_swap sh symmetric s t apart =
    record {
      complement = λ k. rw (apart.complement k) (sym (not-not (s.numbers k)));
      no_conflict = λ m held i own other. symmetric m held ∙ apart.no_conflict held m i other own;
    }

-- a number of the other side is none of this
pub parted_other : (sh : Shape) (s t : Side) → Parted sh s t → (k : ℕ) → t.numbers k ≡ true → s.numbers k ≡ false
parted_other sh s t apart k h = not-true (s.numbers k) (sym (apart.complement k) ∙ h)

-- the sides change places
pub mix_swap : (sh : Shape) (s t : Side) → Parted sh s t → (c d : Bench) → mix s.numbers c d ≡ mix t.numbers d c
mix_swap sh s t apart c d =
    bench_path (mix s.numbers c d) (mix t.numbers d c) (λ k. other c.state d.state k) (λ k. other c.parent d.parent k)
    (λ m i k. other (c.stands m i) (d.stands m i) k)
  where
    other : {A : Type 0} (f g : ℕ → A) (k : ℕ) → choose s.numbers f g k ≡ choose t.numbers g f k
    other f g k = rw (apart.complement k) (by_bool (s.numbers k) (λ h. rw h) (λ h. rw h))

pub mix_same : (numbers : ℕ → Bool) (b : Bench) → mix numbers b b ≡ b
mix_same numbers b = bench_path (mix numbers b b) b (same b.state) (same b.parent) (λ m i. same (b.stands m i))
  where
    same : {A : Type 0} (f : ℕ → A) (k : ℕ) → choose numbers f f k ≡ f k
    same f k = by_bool (numbers k) (λ h. rw h) (λ h. rw h)
