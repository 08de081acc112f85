-- `owners_of` has one result: a word of 64 bits is told by its members. (The contracts of `all_held` and `conflicting` are equations.) Assumes nothing.
use mathlib.Core.List.{List}
use mathlib.Core.Path.{◌≡◌, sym, ◌∙◌}
use Prim.Native.Nat.{ℕ, ◌<◌, ◌^◌}
use Rattle.sets.specs.Sets.{member}
use Rattle.sets.proofs.Laws.{same_members}
use Rattle.views.specs.Reach.{owns_set}

pub owners_unique : (parents states : List ℕ) (set r s : ℕ) → r < 2 ^ 64 → s < 2 ^ 64 → ((h : ℕ) → h < 64 → member r h ≡ owns_set parents states set h) →
    ((h : ℕ) → h < 64 → member s h ≡ owns_set parents states set h) → r ≡ s
owners_unique parents states set r s fits fits' er es = same_members 64 r s fits fits' (λ k l. er k l ∙ sym (es k l))
