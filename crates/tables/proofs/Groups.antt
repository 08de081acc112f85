-- Groups that drain, by their bytes, and numbers that stand in sets, told by one test of each number. Assumes nothing.
use mathlib.Core.Path.{◌≡◌, sym, ◌∙◌, ap}
use mathlib.Core.Bool.{Bool, true, false, ◌&&◌}
use mathlib.Core.List.{List}
use Prim.Native.Nat.{ℕ, ◌+◌, ◌<◌}
use native.Mathlib.Omega.{arith}
use borrow.Author.Tests.{ltb-false, ne_eqb}
use lib.Dec.{eqb, ltb}
use lib.ListN.{length, get_or, get_or-eq_default}
use Rattle.sets.specs.Sets.{member}
use Rattle.rules.specs.Tests.{any}
use Rattle.rules.specs.Bench.{Shape, Bench}
use Rattle.rules.specs.Owners.{drains_under, stand_at, stand_somewhere}
use Rattle.rules.proofs.Tests.{by_bool, clash, refuted, and_left, and_right, and_both, any_at, any_by, any_cong, same}
use Rattle.rules.proofs.Facts.{somewhere_by}
use Rattle.tables.specs.Table.{Layout, Table, view}
use Rattle.tables.specs.Owners.{stands_at, TellsStanding}
use Rattle.tables.specs.Steps.{Bounded}
use Rattle.tables.proofs.States.{under_byte}

-- One of the numbers of which f holds is in one of the sets: it is in any of them.
any_of_sets : (sets n : ℕ) (s : ℕ → ℕ → Bool) (f : ℕ → Bool) → any sets (λ i. any n (λ k. s i k && f k)) ≡ any n (λ k. any sets (λ i. s i k) && f k)
any_of_sets sets n s f =
    same (any sets by_set) (any n by_number)
    (λ t. let i = any_at sets by_set t in
    let k = any_at n (λ k. s i.0 k && f k) i.2 in
    any_by n by_number k.0 k.1
    (and_both (any sets (λ i. s i k.0)) (f k.0) (any_by sets (λ i. s i k.0) i.0 i.1 (and_left (s i.0 k.0) (f k.0) k.2))
    (and_right (s i.0 k.0) (f k.0) k.2)))
    (λ t. let k = any_at n by_number t in
    let i = any_at sets (λ i. s i k.0) (and_left (any sets (λ i. s i k.0)) (f k.0) k.2) in
    any_by sets by_set i.0 i.1
    (any_by n (λ j. s i.0 j && f j) k.0 k.1
    (and_both (s i.0 k.0) (f k.0) i.2 (and_right (any sets (λ i. s i k.0)) (f k.0) k.2))))
  where
    by_set : ℕ → Bool
    by_set i = any n (λ k. s i k && f k)

    by_number : ℕ → Bool
    by_number k = any sets (λ i. s i k) && f k

-- ---- tests that say the same of the numbers of the table

module _ (sh : Shape) (b : Bench) (f g : ℕ → Bool) (e : (k : ℕ) → k < sh.actions → f k ≡ g k) where
  pub stand_at_same : (i : ℕ) → stand_at sh b f i ≡ stand_at sh b g i
  unfolding stand_at
  stand_at_same i =
      any_cong sh.modes (λ m. any sh.actions (λ k. b.stands m i k && f k)) (λ m. any sh.actions (λ k. b.stands m i k && g k))
      (λ m lm. any_cong sh.actions (λ k. b.stands m i k && f k) (λ k. b.stands m i k && g k) (λ k l. ap (λ u. b.stands m i k && u) (e k l)))

  pub stand_somewhere_same : stand_somewhere sh b f ≡ stand_somewhere sh b g
  unfolding stand_somewhere
  stand_somewhere_same = any_cong sh.instruments (stand_at sh b f) (stand_at sh b g) (λ i li. stand_at_same i)

-- ---- on a table

module _ (layout : Layout) (t : Table) where
  abbrev n : ℕ
  n = layout.shape.actions

  -- Who drains under a has the byte 3 + a.
  pub group_byte : (a k : ℕ) → a < n → drains_under (view layout t) a k ≡ eqb (get_or t.states k 0) (3 + a)
  group_byte a k l = under_byte n (get_or t.states k 0) a l

  -- Of numbers that stand in no set of the table, where it has no others, nobody stands anywhere.
  pub nobody_stands : (numbers : ℕ → Bool) → Bounded layout t → ((k : ℕ) → numbers k ≡ true → k < n) → stand_somewhere layout.shape (view layout t) numbers ≡ false →
      (m i k : ℕ) → numbers k ≡ true → layout.holds (t.sets m) i k ≡ false
  nobody_stands numbers bounded known out m i k u =
      refuted (layout.holds (t.sets m) i k)
      (λ h. let has = bounded m i k h in
      clash (stand_somewhere layout.shape (view layout t) numbers)
      (somewhere_by layout.shape (view layout t) numbers i has.1
      (record { mode = m; mode_known = has.0; number = k; number_known = known k u; stands = h; is_one = u }))
      out)

  -- One of the numbers stands at an instrument.
  pub stand_at_bytes : (numbers : ℕ → Bool) (i : ℕ) → stand_at layout.shape (view layout t) numbers i ≡ any n (λ k. stands_at layout t k i && numbers k)
  unfolding stand_at
  stand_at_bytes numbers i = any_of_sets layout.shape.modes n (λ m k. layout.holds (t.sets m) i k) numbers

  -- One of the group of a does.
  pub group_at : (a i : ℕ) → a < n →
      any n (λ k. stands_at layout t k i && eqb (get_or t.states k 0) (3 + a)) ≡ stand_at layout.shape (view layout t) (drains_under (view layout t) a) i
  group_at a i l =
      sym (stand_at_bytes (drains_under (view layout t) a) i
      ∙ any_cong n (λ k. stands_at layout t k i && drains_under (view layout t) a k) (λ k. stands_at layout t k i && eqb (get_or t.states k 0) (3 + a))
      (λ k lk. ap (λ u. stands_at layout t k i && u) (group_byte a k l)))

  -- One of the numbers stands in a set.
  pub stand_somewhere_lem : (standing numbers : ℕ → Bool) → TellsStanding layout t standing →
      stand_somewhere layout.shape (view layout t) numbers ≡ any n (λ k. standing k && numbers k)
  unfolding stand_somewhere
  stand_somewhere_lem standing numbers tells =
      any_cong layout.shape.instruments (stand_at layout.shape (view layout t) numbers) (λ i. any n (λ k. stands_at layout t k i && numbers k))
      (λ i l. stand_at_bytes numbers i)
      ∙ any_of_sets layout.shape.instruments n (λ i k. stands_at layout t k i) numbers
      ∙ any_cong n (λ k. any layout.shape.instruments (λ i. stands_at layout t k i) && numbers k) (λ k. standing k && numbers k)
      (λ k l. ap (λ u. u && numbers k) (sym (tells k l)))

-- A word of the numbers below n that have the byte of those that drain under a has all of them.
pub group_word : (n : ℕ) (states : List ℕ) (a group : ℕ) → length states ≡ n → ((k : ℕ) → member group k ≡ (ltb k n && eqb (get_or states k 0) (3 + a))) → (k : ℕ) →
    member group k ≡ eqb (get_or states k 0) (3 + a)
group_word n states a group long members k =
    members k
    ∙ by_bool (ltb k n) (λ t. rw t)
    (λ t. let nothing : get_or states k 0 ≡ 0 = get_or-eq_default states 0 (rw long (ltb-false k n t)) in
    rw (t, ne_eqb (get_or states k 0) (3 + a) (λ e. absurd (omega arith))))
