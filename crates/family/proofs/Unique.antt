-- `family_of` has one result: a word of 64 bits is told by its members. (Its contract isn't an equation.) Assumes nothing.
use mathlib.Core.Bool.{◌&&◌}
use mathlib.Core.List.{List}
use mathlib.Core.Path.{◌≡◌, sym, ◌∙◌}
use Prim.Native.Nat.{ℕ, ◌%◌, ◌<◌, ◌^◌}
use lib.Dec.{ltb}
use Rattle.sets.specs.Sets.{member}
use Rattle.sets.proofs.Laws.{same_members}
use Rattle.views.specs.Reach.{descends_known}

pub family_unique : (parents : List ℕ) (a r s : ℕ) → r < 2 ^ 64 → s < 2 ^ 64 → ((k : ℕ) → member r k ≡ (ltb k 64 && descends_known parents (a % 64) k)) →
    ((k : ℕ) → member s k ≡ (ltb k 64 && descends_known parents (a % 64) k)) → r ≡ s
family_unique parents a r s fits fits' er es = same_members 64 r s fits fits' (λ k l. er k ∙ sym (es k))
