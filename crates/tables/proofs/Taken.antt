-- A set that loses its least number, as a loop over its numbers takes them.
use mathlib.Core.Path.{◌≡◌}
use mathlib.Core.Bool.{true, not, ◌&&◌}
use Prim.Native.Nat.{ℕ, ◌<◌, ◌^◌}
use lib.Dec.{eqb}
use Rattle.sets.specs.Sets.{member, without, least}
use Rattle.sets.proofs.Laws.{member_without, without_fits, without_falls, least_member, least_inside}

-- Number k is taken from a set s, and `rest` is left.
pub record Taken (n s k rest : ℕ) : Type 0 where
  pub known : k < n
  pub was : member s k ≡ true
  pub falls : rest < s
  pub fits : rest < 2 ^ n
  pub members : (j : ℕ) → member rest j ≡ (member s j && not (eqb j k))

pub least_taken : (n s : ℕ) → s < 2 ^ n → (s ≡ 0 → ⊥) → Taken n s (least n s) (without n s (least n s))
least_taken n s fits more =
    record {
      known = known;
      was = was;
      falls = without_falls n s (least n s) known was;
      fits = without_fits n s (least n s) fits;
      members = λ j. member_without n s (least n s) j known;
    }
  where
    known : least n s < n
    known = least_inside n s fits more

    was : member s (least n s) ≡ true
    was = least_member n s fits more

-- the same of a number that is known to be the least
pub taken_least : (n s k : ℕ) → k ≡ least n s → s < 2 ^ n → (s ≡ 0 → ⊥) → Taken n s k (without n s (least n s))
taken_least n s k e fits more = rw e (least_taken n s fits more)

-- the same of a number that a set's iterator gives
pub taken_next : {s k rest : ℕ} → s < 2 ^ 64 → (s ≡ 0 → ⊥) × (k ≡ least 64 s) × (rest ≡ without 64 s k) → Taken 64 s k rest
taken_next {s} fits gave = rw (gave.2, gave.1) (least_taken 64 s fits gave.0)
