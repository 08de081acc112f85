-- Demand 3: two lists of requests that are apart, in any merging from the empty bench, are each answered as if it were alone, and all their mergings
-- leave the same record.
use mathlib.Core.Path.{◌≡◌, refl, sym, ◌∙◌, ap, subst}
use mathlib.Core.Bool.{true, false, not, and_comm}
use mathlib.Core.List.{List}
use Prim.Native.Nat.{ℕ}
use lib.Dec.{eqb}
use Rattle.rules.specs.Bench.{Shape, empty}
use Rattle.rules.specs.Requests.{Request, open_top, open_sub, ask, commit, abort, quiet}
use Rattle.rules.specs.Answers.{answers, after}
use Rattle.rules.specs.ReadWrite.{reading, read_write}
use Rattle.rules.specs.Plain.{plain_empty, plain_answers}
use Rattle.rules.specs.Merging.{names, asks_for, some_does, Apart, Symmetric, Merging, firsts, seconds}
use Rattle.rules.proofs.Tests.{clash, refuted}
use Rattle.rules.proofs.Kept.{empty_sound}
use Rattle.rules.proofs.DemandTwo.{demand_two, empty_agrees}
use Rattle.rules.proofs.Mix.{mix_same, Side, asks_to_own, Parted}
use Rattle.rules.proofs.Merged.{some_follows, empty_beside, Merged, merged}

-- No action number is named in both lists, and an instrument that both ask to own they ask for only in modes that don't conflict. That is less than
-- apart: what a list says is quiet isn't counted.
pub record OwnersApart (sh : Shape) (xs ys : List Request) : Type 0 where
  pub numbers : (k : ℕ) → some_does (names k) xs ≡ true → some_does (names k) ys ≡ true → ⊥
  pub instruments : (i m held : ℕ) → some_does (asks_to_own m i) xs ≡ true → some_does (asks_to_own held i) ys ≡ true → sh.conflict m held ≡ false

-- who asks to own asks
pub own_asks : (m i : ℕ) (r : Request) → asks_to_own m i r ≡ true → asks_for m i r ≡ true
own_asks m i (open_top n) h = h
own_asks m i (open_sub n p) h = h
own_asks m i (ask mode a at) h = h
own_asks m i (commit a) h = h
own_asks m i (abort a) h = h
own_asks m i (quiet a at) h = clash false h refl

owners_apart : (sh : Shape) (xs ys : List Request) → Apart sh xs ys → OwnersApart sh xs ys
owners_apart sh xs ys apart =
    record {
      numbers = apart.numbers;
      instruments = λ i m held h g. apart.instruments i m held (asked m i xs h) (asked held i ys g);
    }
  where
    asked : (m i : ℕ) (rs : List Request) → some_does (asks_to_own m i) rs ≡ true → some_does (asks_for m i) rs ≡ true
    asked m i = some_follows (asks_to_own m i) (asks_for m i) (own_asks m i)

-- the numbers that the list names, and what it asks to own
first_side : List Request → Side
first_side xs = record { numbers = λ k. some_does (names k) xs; asks = λ m i. some_does (asks_to_own m i) xs }

-- all numbers that xs doesn't name, and what ys asks to own
second_side : List Request → List Request → Side
second_side xs ys = record { numbers = λ k. not (some_does (names k) xs); asks = λ m i. some_does (asks_to_own m i) ys }

from_empty : (sh : Shape) → Symmetric sh → {xs ys zs : List Request} → OwnersApart sh xs ys → (m : Merging xs ys zs) →
    Merged sh (first_side xs) empty empty m
unfolding first_side second_side
from_empty sh symmetric {xs} {ys} apart m =
    merged sh symmetric (first_side xs) (second_side xs ys) parted empty empty (empty_beside sh (first_side xs) (second_side xs ys)) m
    (record { named = λ k h. h; asked = λ m i h. h })
    (record { named = λ k h. rw (refuted (some_does (names k) xs) (λ g. apart.numbers k g h)); asked = λ m i h. h })
  where
    parted : Parted sh (first_side xs) (second_side xs ys)
    parted = record { complement = λ k. refl; no_conflict = λ m held i. apart.instruments i m held }

-- Each list's requests get the answers that they get alone. What the one says is quiet the other may use: from an empty bench a group stands only where
-- its own list asked.
pub merging_of_owners : (sh : Shape) → Symmetric sh → (xs ys zs : List Request) → OwnersApart sh xs ys → (m : Merging xs ys zs) →
    (firsts m (answers sh empty zs) ≡ answers sh empty xs) × (seconds m (answers sh empty zs) ≡ answers sh empty ys)
merging_of_owners sh symmetric xs ys zs apart m =
    subst (λ b. (firsts m (answers sh b zs) ≡ answers sh empty xs) × (seconds m (answers sh b zs) ≡ answers sh empty ys))
    (mix_same (first_side xs).numbers empty)
    (let ends = from_empty sh symmetric apart m in (ends.first_answers, ends.second_answers))

-- Every merging leaves the same record, of all numbers, those above the table too.
pub record_of_owners : (sh : Shape) → Symmetric sh → (xs ys zs others : List Request) → OwnersApart sh xs ys →
    Merging xs ys zs → Merging xs ys others → after sh empty zs ≡ after sh empty others
record_of_owners sh symmetric xs ys zs others apart m n =
    subst (λ b. after sh b zs ≡ after sh b others) (mix_same (first_side xs).numbers empty)
    ((from_empty sh symmetric apart m).left ∙ sym (from_empty sh symmetric apart n).left)

-- Both hold of lists that are apart.
pub any_merging : (sh : Shape) → Symmetric sh → (xs ys zs : List Request) → Apart sh xs ys → (m : Merging xs ys zs) →
    (firsts m (answers sh empty zs) ≡ answers sh empty xs) × (seconds m (answers sh empty zs) ≡ answers sh empty ys)
any_merging sh symmetric xs ys zs apart = merging_of_owners sh symmetric xs ys zs (owners_apart sh xs ys apart)

pub same_record : (sh : Shape) → Symmetric sh → (xs ys zs others : List Request) → Apart sh xs ys →
    Merging xs ys zs → Merging xs ys others → after sh empty zs ≡ after sh empty others
same_record sh symmetric xs ys zs others apart = record_of_owners sh symmetric xs ys zs others (owners_apart sh xs ys apart)

-- Demand 3. Two lists for an empty bench name no action number in common, and no instrument in common except in modes that don't conflict. However
-- they are merged, each request gets the answer that Moss's rules, the plain machine, give when its list is played alone, and every merging ends in
-- the same record.
pub demand_three : (sh : Shape) → Symmetric sh → (xs ys zs : List Request) → Apart sh xs ys → (m : Merging xs ys zs) →
    (firsts m (answers sh empty zs) ≡ plain_answers sh plain_empty xs)
    × (seconds m (answers sh empty zs) ≡ plain_answers sh plain_empty ys)
    × ((others : List Request) → Merging xs ys others → after sh empty others ≡ after sh empty zs)
demand_three sh symmetric xs ys zs apart m =
    let alone = any_merging sh symmetric xs ys zs apart m in
    (alone.0 ∙ by_moss xs, alone.1 ∙ by_moss ys, λ others n. same_record sh symmetric xs ys others zs apart n m)
  where
    by_moss : (rs : List Request) → answers sh empty rs ≡ plain_answers sh plain_empty rs
    by_moss rs = (demand_two sh empty plain_empty (empty_sound sh) (empty_agrees sh) rs).0

-- the table of reads and writes meets the hypothesis
pub read_write_symmetric : Symmetric read_write
read_write_symmetric m held = ap not (and_comm (eqb m reading) (eqb held reading))
