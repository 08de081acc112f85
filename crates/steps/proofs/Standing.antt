-- All numbers that stand in one of the sets of a list: who they are, and those of the two halves of the owners' words. Assumes nothing.
use mathlib.Core.Path.{◌≡◌, refl, sym, ◌∙◌, ap}
use mathlib.Core.Bool.{Bool, true, ◌&&◌, ◌||◌, or_assoc, or_comm}
use mathlib.Core.List.{List, [], ◌∷◌}
use Prim.Native.Nat.{ℕ, zero, suc, ◌<◌, ◌^◌}
use native.Mathlib.Omega.{arith}
use lib.ListN.{length, get_or, take, drop, length-drop}
use lib.Seq.{take_all, length-take-le}
use Rattle.sets.specs.Sets.{member, union, meet}
use Rattle.sets.proofs.Laws.{member_empty, member_union, member_inside}
use Rattle.rules.specs.Tests.{any}
use Rattle.tables.proofs.Members.{meet_any}
use Rattle.views.specs.Owners.{Standing}
use Rattle.views.proofs.Words.{standing_both}
use Rattle.steps.specs.Arrays.{read_sets, write_sets}
use Rattle.steps.specs.Changes.{standing_in, stand_in}

-- the first place, and the others
any_first : (n : ℕ) (f : ℕ → Bool) → any (suc n) f ≡ (f 0 || any n (λ i. f (suc i)))
unfolding any
any_first zero f = refl
any_first (suc n) f =
    let rest = any n (λ i. f (suc i)) in
    ap (λ t. f (suc n) || t) (any_first n f)
    ∙ sym (or_assoc (f (suc n)) (f 0) rest)
    ∙ ap (λ t. t || rest) (or_comm (f (suc n)) (f 0))
    ∙ or_assoc (f 0) (f (suc n)) rest

pub standing_members : (words : List ℕ) (k : ℕ) → member (standing_in words) k ≡ any (length words) (λ i. member (get_or words i 0) k)
unfolding standing_in any
standing_members [] k = member_empty k
standing_members (word ∷ rest) k =
    member_union word (standing_in rest) k
    ∙ ap (λ t. member word k || t) (standing_members rest k)
    ∙ sym (any_first (length rest) (λ i. member (get_or (word ∷ rest) i 0) k))

-- A word of all who stand in the sets tells whether one of the numbers does.
pub stand_found : (words : List ℕ) (standing numbers : ℕ) → numbers < 2 ^ 64 → ((k : ℕ) → member standing k ≡ any (length words) (λ i. member (get_or words i 0) k)) →
    meet standing numbers ≡ stand_in words numbers
stand_found words standing numbers fits found =
    let both : ℕ → Bool = λ k. member standing k && member numbers k in
    let small : (s k : ℕ) → member s k ≡ true → member numbers k ≡ true → k < 64 = λ s k t m. member_inside 64 numbers k fits m in
    meet_any 64 standing numbers both (small standing) (λ k l. refl)
    ∙ sym (meet_any 64 (standing_in words) numbers both (small (standing_in words)) (λ k l. rw (standing_members words k, found k)))

-- ---- in two halves

-- those of the first sets, and those of the rest
standing_parts : (n : ℕ) (words : List ℕ) (k : ℕ) → member (standing_in words) k ≡ member (union (standing_in (take n words)) (standing_in (drop n words))) k
unfolding standing_in
standing_parts zero words k = sym (rw (member_union, member_empty))
standing_parts (suc n) [] k = rw (member_union, member_empty)
standing_parts (suc n) (word ∷ rest) k =
    rw (
      member_union word (standing_in rest) k,
      member_union (union word (standing_in (take n rest))) (standing_in (drop n rest)) k,
      member_union word (standing_in (take n rest)) k,
    )
    (ap (λ t. member word k || t) (standing_parts n rest k ∙ member_union (standing_in (take n rest)) (standing_in (drop n rest)) k)
    ∙ sym (or_assoc (member word k) (member (standing_in (take n rest)) k) (member (standing_in (drop n rest)) k)))

-- Who stands in the owners' words stands in a read set or in a write set.
pub standing_halves : (owners : List ℕ) → length owners ≡ 256 → Standing (read_sets owners) (write_sets owners) (standing_in owners)
standing_halves owners long k =
    let readers = standing_in (read_sets owners) in
    let writers = standing_in (write_sets owners) in
    let rest : length (drop 128 owners) ≡ 128 = length-drop 128 owners ∙ rw long in
    standing_parts 128 owners k
    ∙ ap (λ words. member (union readers (standing_in words)) k) (sym (take_all 128 (drop 128 owners) (omega arith)))
    ∙ standing_both (read_sets owners) (write_sets owners) readers writers (union readers writers) (length-take-le 128 owners (omega arith))
    (length-take-le 128 (drop 128 owners) (omega arith)) (standing_members (read_sets owners)) (standing_members (write_sets owners)) refl k
