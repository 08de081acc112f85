-- `standing` and `drain_byte` have one result each: a word is told by its members. (All other contracts are equations.) Assumes nothing.
use mathlib.Core.Bool.{Bool, ◌&&◌}
use mathlib.Core.List.{List}
use mathlib.Core.Path.{◌≡◌, sym, ◌∙◌, ap}
use Prim.Native.Nat.{ℕ, ◌<◌, ◌^◌}
use Rattle.sets.specs.Sets.{member}
use Rattle.sets.proofs.Laws.{same_members, member_inside}
use Rattle.rules.specs.Tests.{any}
use Rattle.tables.proofs.Members.{meet_any}
use Rattle.views.specs.Owners.{Standing, stands_at}
use Rattle.steps.specs.Changes.{aborted_byte}
use Rattle.bench.specs.Draining.{DrainByte}

pub standing_unique : (reads writes : List ℕ) (r s : ℕ) → r < 2 ^ 64 → s < 2 ^ 64 → Standing reads writes r → Standing reads writes s → r ≡ s
standing_unique reads writes r s fits fits' er es = same_members 64 r s fits fits' (λ k l. er k ∙ sym (es k))

pub drain_byte_unique : (reads writes : List ℕ) (numbers a r s : ℕ) → numbers < 2 ^ 64 → DrainByte reads writes numbers a r → DrainByte reads writes numbers a s → r ≡ s
drain_byte_unique reads writes numbers a r s fits er es = told r er ∙ sym (told s es)
  where
    told : (byte : ℕ) → DrainByte reads writes numbers a byte → byte ≡ aborted_byte (any 64 (λ k. any 128 (stands_at reads writes k) && member numbers k)) a
    told byte e =
        e.is
        ∙ ap (λ (stands : Bool). aborted_byte stands a)
        (meet_any 64 e.standing numbers _ (λ k stands m. member_inside 64 numbers k fits m) (λ k l. rw (e.tells k)))
