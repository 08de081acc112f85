-- The smallest number of the blocking set, and what is told of it. Assumes nothing.
use mathlib.Core.Path.{◌≡◌, refl, sym, ◌∙◌, ap}
use mathlib.Core.Bool.{Bool, true, false, ◌&&◌}
use mathlib.Core.List.{List}
use mathlib.Core.Option.{some}
use Prim.Native.Nat.{ℕ, ◌%◌, ◌<◌, ◌^◌}
use native.Mathlib.Nat.{mod-eq_of_lt, lt_trans}
use native.Mathlib.Omega.{arith}
use lib.Count.{count_trailing_zeros}
use borrow.Author.Tests.{eqb-true, eq-eqb}
use lib.Dec.{eqb}
use lib.ListN.{get_or}
use Rattle.std.specs.Prelude.{Option, Some, None, IfSome, unwrap_or}
use Rattle.sets.specs.Sets.{member, difference, least}
use Rattle.sets.proofs.Laws.{member_empty, member_union, member_difference, member_outside, no_members, least_member, least_inside, least_first}
use Rattle.rules.specs.Tests.{from}
use Rattle.rules.specs.Reasons.{smallest}
use Rattle.rules.proofs.Tests.{by_bool, by_parent, clash, and_left, and_right}
use Rattle.rules.proofs.Smallest.{smallest_none, smallest_is, smallest_one, smallest_from}
use Rattle.views.specs.Tree.{met_from}
use Rattle.views.specs.Owners.{conflicting}
use Rattle.views.specs.Reach.{owns_set}
use Rattle.naming.specs.Blocking.{against_frame, blocks_in, drains_in, blocked_in, child_with}
use Rattle.naming.specs.declared.Somebody.{Somebody}

-- ---- the blocking set

against_members : (code reading writing h : ℕ) → member (conflicting (eqb code 4) reading writing) h ≡ against_frame code (member reading h) (member writing h)
against_members code reading writing h = by_bool (eqb code 4) (λ t. rw t (member_union reading writing h)) (λ t. rw t)

-- a set that has whom the test holds of has the test's smallest number as its least
least_smallest : (s : ℕ) (test : ℕ → Bool) (h : ℕ) → s < 2 ^ 64 → ((k : ℕ) → k < 64 → member s k ≡ test k) → smallest 64 test ≡ some h → least 64 s ≡ h
least_smallest s test h fits members e =
    smallest_one 64 test (least 64 s) h
    (record {
      known = known;
      holds = sym (members (least 64 s) known) ∙ least_member 64 s fits somebody;
      first = λ j l. sym (members j (lt_trans l known)) ∙ least_first 64 s j l;
    })
    (smallest_is 64 test h e)
  where
    somebody : s ≡ 0 → ⊥
    somebody z = let one = smallest_is 64 test h e in clash (member s h) (members h one.known ∙ one.holds) (rw z (member_empty h))

    known : least 64 s < 64
    known = least_inside 64 s fits somebody

least_empty : least 64 0 ≡ 64
unfolding least count_trailing_zeros
least_empty = refl

module _ (parents states : List ℕ) (readers writers code a : ℕ) (reading writing line against blocking : ℕ) where
  -- What the sets are that the least blocker is taken from.
  pub record BlockingSets : Type 0 where
    pub readers_are : (h : ℕ) → h < 64 → member reading h ≡ owns_set parents states readers h
    pub writers_are : (h : ℕ) → h < 64 → member writing h ≡ owns_set parents states writers h
    pub line_is : (h : ℕ) → member line h ≡ met_from parents a h
    pub conflicting_is : against ≡ conflicting (eqb code 4) reading writing
    pub blocking_is : blocking ≡ difference against line
    pub fits : blocking < 2 ^ 64
    pub reading_fits : reading < 2 ^ 64
    pub writing_fits : writing < 2 ^ 64

  module _ (sets : BlockingSets) where
    blocking_members : (h : ℕ) → h < 64 → member blocking h ≡ blocks_in parents states readers writers code a h
    blocking_members h l =
        ap (λ s. member s h) sets.blocking_is
        ∙ member_difference against line h
        ∙ rw (sets.conflicting_is, against_members code reading writing h, sets.readers_are h l, sets.writers_are h l, sets.line_is h)

    abbrev test : ℕ → Bool
    test = blocks_in parents states readers writers code a

    -- what is told of the least of the blocking set, 64 where it is empty
    pub blocked_in_lem : (found : ℕ) (reads writes drains : Bool) → found ≡ least 64 blocking → reads ≡ member reading found → writes ≡ member writing found → drains ≡ drains_in states found →
        ◌≡◌ {A = Somebody} (record { number = found % 64; reads = reads; writes = writes; drains = drains }) (blocked_in parents states readers writers code a)
    blocked_in_lem found reads writes drains is owns_reading owns_writing told_draining =
        by_parent (smallest 64 test)
        (λ nobody.
        let empty : blocking ≡ 0 = no_members 64 blocking sets.fits (λ k l. blocking_members k l ∙ smallest_none 64 test nobody k l) in
        let outside : found ≡ 64 = is ∙ ap (least 64) empty ∙ least_empty in
        rw (nobody, owns_reading, owns_writing, told_draining, outside, member_outside 64 reading 64 sets.reading_fits (omega arith), member_outside 64 writing 64 sets.writing_fits (omega arith)))
        (λ h e.
        let here : found ≡ h = is ∙ least_smallest blocking test h sets.fits blocking_members e in
        let known : h < 64 = (smallest_is 64 test h e).known in
        rw (e, owns_reading, owns_writing, told_draining, here, mod-eq_of_lt known, sets.readers_are h known, sets.writers_are h known))

-- ---- a running child

a_child : (state above parent : ℕ) → state ≡ 1 → above ≡ parent → (eqb state 1 && eqb above parent) ≡ true
a_child state above parent e g = rw (eq-eqb state 1 e, eq-eqb above parent g)

no_child : (state above parent : ℕ) → (state ≡ 1 → above ≡ parent → ⊥) → (eqb state 1 && eqb above parent) ≡ false
no_child state above parent h =
    by_bool (eqb state 1 && eqb above parent)
    (λ t. absurd (h (eqb-true state 1 (and_left (eqb state 1) (eqb above parent) t)) (eqb-true above parent (and_right (eqb state 1) (eqb above parent) t))))
    (λ t. t)

module _ (parents states : List ℕ) (parent : ℕ) where
  -- k is no running child
  abbrev pub NoChild : ℕ → Type 0
  NoChild k = get_or states k 0 ≡ 1 → get_or parents k 0 ≡ parent → ⊥

  abbrev is_child : ℕ → Bool
  is_child k = eqb (get_or states k 0) 1 && eqb (get_or parents k 0) parent

  -- the number of the child found, and 0 where there is none
  pub child_number : (found : Option ℕ) → IfSome found (λ k. (k < 64) × (get_or states k 0 ≡ 1) × (get_or parents k 0 ≡ parent)) → IfSome found (λ k. (j : ℕ) → j < k → NoChild j) →
      (found ≡ None → (j : ℕ) → j < 64 → NoChild j) → unwrap_or found 0 ≡ from (child_with parents states parent) 0 (λ k. k)
  child_number None is first none =
      by_parent (child_with parents states parent) (λ nobody. rw nobody)
      (λ k e.
      let one = smallest_is 64 is_child k e in
      clash (is_child k) one.holds (no_child (get_or states k 0) (get_or parents k 0) parent (none refl k one.known)))
  child_number (Some k) is first none =
      rw (smallest_from 64 is_child k
      (record {
        known = is.0;
        holds = a_child (get_or states k 0) (get_or parents k 0) parent is.1 is.2;
        first = λ j l. no_child (get_or states j 0) (get_or parents j 0) parent (first j l);
      }))
