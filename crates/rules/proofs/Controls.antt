-- Controls: computed benches that tell a rule from a wrong one that lies near it, and on which soundness holds and fails. All of them have four
-- actions and two instruments, and the modes of read and write.
use Rattle.std.specs.Prelude.{if◌then◌else◌}
use mathlib.Core.Path.{◌≡◌, refl}
use mathlib.Core.Bool.{Bool, true, false, ◌||◌}
use mathlib.Core.List.{List, [], ◌∷◌, map}
use mathlib.Core.Option.{Option, none, some}
use Prim.Native.Nat.{ℕ, zero, suc}
use lib.Dec.{eqb}
use Rattle.rules.specs.Tests.{◌⇒◌, all, any, from}
use Rattle.rules.specs.Bench.{Shape, State, free, running, committed, draining, meaningless, is_free, head_of, Bench, empty}
use Rattle.rules.specs.Owners.{is_child, above, is_ancestor, in_family, nearest, heir, is_asker_or_ancestor, heir_in_line, granted, has_running_child, drains_under, stand_at, stand_somewhere}
use Rattle.rules.specs.Requests.{Request, open_top, open_sub, commit, abort, quiet, put, without, quieted, effect}
use Rattle.rules.specs.Sound.{means_something, stands_nowhere, reaches_top, rule1, rule2, rule3, rule4, drains_well, sound}
use Rattle.rules.specs.Answers.{row_by, row, answer_of, step, after}
use Rattle.rules.specs.SetForm.{upward_within, in_upward, downward_within, in_downward, granted_by_sets}
use Rattle.rules.specs.ReadWrite.{reading, writing, read_write, read, write}

abbrev pub small : Shape
small = record { actions = 4; instruments = 2; modes = 2; conflict = read_write.conflict }

-- the bench that requests leave, from an empty one
reached : List Request → Bench
unfolding all any above is_ancestor in_family nearest heir is_asker_or_ancestor heir_in_line granted has_running_child stand_at stand_somewhere effect stands_nowhere reaches_top sound row_by answer_of step after
reached rs = after small empty rs

-- top 1; 2 and 3 under 1; write 2, 0
siblings : Bench
unfolding reached
siblings = reached (open_top 1 ∷ open_sub 2 1 ∷ open_sub 3 1 ∷ write 2 0 ∷ [])

-- and commit 2
sibling_done : Bench
unfolding reached
sibling_done = reached (open_top 1 ∷ open_sub 2 1 ∷ open_sub 3 1 ∷ write 2 0 ∷ commit 2 ∷ [])

-- top 0; 1 and 2 under 0; 3 under 2; write 1, 0; commit 1
nephew_told : Bench
unfolding reached
nephew_told = reached (open_top 0 ∷ open_sub 1 0 ∷ open_sub 2 0 ∷ open_sub 3 2 ∷ write 1 0 ∷ commit 1 ∷ [])

-- ---- wrong rules

-- a rule by what it says of the numbers in the sets: `fits a k` for asker a
granted_if : (ℕ → ℕ → Bool) → Shape → Bench → ℕ → ℕ → ℕ → Bool
granted_if fits sh b m a i =
    all sh.modes (λ held. sh.conflict m held ⇒ all sh.actions (λ k. b.stands held i k ⇒ fits a k))

-- a downward set without upward sets: one fixed when its action opens, before any other commits
fits_fixed : Shape → Bench → ℕ → ℕ → Bool
fits_fixed sh b a k = is_ancestor sh b k a || eqb k a || in_upward sh b a k

-- a downward set that hears of commits under its action's own parent alone: told to siblings, and not to their descendants
fits_told : Shape → Bench → ℕ → ℕ → Bool
fits_told sh b a k = is_ancestor sh b k a || from (b.parent a) false (λ p. in_upward sh b p k) || eqb k a || in_upward sh b a k

-- a downward set with the parent's other children, running or committed
fits_running : Shape → Bench → ℕ → ℕ → Bool
fits_running sh b a k = is_ancestor sh b k a || from (b.parent a) false (λ p. is_child b p k) || eqb k a || in_upward sh b a k

-- the top action of k, n steps up at most
top_of : ℕ → (ℕ → Option ℕ) → ℕ → ℕ
top_of zero up k = k
top_of (suc n) up k = from (up k) k (λ p. top_of n up p)

-- the same top action, instead of the asker or an ancestor of it
fits_top : Shape → Bench → ℕ → ℕ → Bool
fits_top sh b a k = eqb (top_of sh.actions b.parent k) (top_of sh.actions b.parent a)

-- Downward sets fixed at opening refuse what a sibling's commit has handed up.
fixed_sets_refuse : (sound small sibling_done ≡ true) × (granted small sibling_done reading 3 0 ≡ true) × (granted_by_sets small sibling_done reading 3 0 ≡ true) × (granted_if (fits_fixed small sibling_done) small sibling_done reading 3 0 ≡ false)
unfolding sibling_done granted_if fits_fixed upward_within in_upward downward_within in_downward granted_by_sets
fixed_sets_refuse = (refl, refl, refl, refl)

-- A commit told to siblings only: sibling 2 is given what 1 handed up, and 2's child 3, which the rule and the set form give it too, is refused.
told_to_siblings_refuses : (sound small nephew_told ≡ true) × (granted small nephew_told writing 3 0 ≡ true) × (granted_by_sets small nephew_told writing 3 0 ≡ true) × (granted_if (fits_told small nephew_told) small nephew_told writing 2 0 ≡ true) × (granted_if (fits_told small nephew_told) small nephew_told writing 3 0 ≡ false)
unfolding nephew_told granted_if fits_told upward_within in_upward downward_within in_downward granted_by_sets
told_to_siblings_refuses = (refl, refl, refl, refl, refl)

-- Upward sets of running children grant what a running sibling holds; the set form doesn't.
running_children_grant : (granted small siblings reading 3 0 ≡ false) × (granted_by_sets small siblings reading 3 0 ≡ false) × (granted_if (fits_running small siblings) small siblings reading 3 0 ≡ true)
unfolding siblings granted_if fits_running upward_within in_upward downward_within in_downward granted_by_sets
running_children_grant = (refl, refl, refl)

-- The same top action grants what a running sibling holds.
same_top_grants : (sound small siblings ≡ true) × (granted small siblings reading 3 0 ≡ false) × (granted_if (fits_top small siblings) small siblings reading 3 0 ≡ true)
unfolding siblings granted_if top_of fits_top
same_top_grants = (refl, refl, refl)

-- ---- wrong ways to drain

-- tops 0 and 1; 2 and 3 under 1; 0 and 2 read 0; write 2, 1
before_abort : Bench
unfolding reached
before_abort = reached (open_top 0 ∷ open_top 1 ∷ open_sub 2 1 ∷ open_sub 3 1 ∷ read 0 0 ∷ read 2 0 ∷ write 2 1 ∷ [])

-- and abort 1: the numbers 1 to 3 drain under 1, of which 2 alone stands in a set
waiting : Bench
unfolding reached
waiting = reached (open_top 0 ∷ open_top 1 ∷ open_sub 2 1 ∷ open_sub 3 1 ∷ read 0 0 ∷ read 2 0 ∷ write 2 1 ∷ abort 1 ∷ [])

-- the heads of the numbers 0 to 3
heads : Bench → List (Option ℕ)
heads b = map (λ k. head_of (b.state k)) (0 ∷ 1 ∷ 2 ∷ 3 ∷ [])

-- The whole family drains; where those in no set are freed at once, 1 and 3 aren't of the group, and 2 has no head.
only_standing_drain : (heads waiting ≡ none ∷ some 1 ∷ some 1 ∷ some 1 ∷ []) × (sound small waiting ≡ true) × (sound small (without (λ k. eqb k 1 || eqb k 3) waiting) ≡ false)
unfolding waiting heads
only_standing_drain = (refl, refl, refl)

-- Top 1; 2 under 1; write 2, 0; abort 2; abort 1: the child has left, drains on under itself, and 1 is free.
drained_child_has_left : heads (reached (open_top 1 ∷ open_sub 2 1 ∷ write 2 0 ∷ abort 2 ∷ abort 1 ∷ [])) ≡ none ∷ none ∷ some 2 ∷ none ∷ []
unfolding reached heads
drained_child_has_left = refl

-- An abort that frees all at once gives top 0 what 2's analyzer still works at; so does a rule by which nobody that drains is in the way.
freed_at_once_grants : (granted small waiting writing 0 1 ≡ false) × (granted small (without (in_family small before_abort 1) before_abort) writing 0 1 ≡ true) × (granted_if (λ a k. heir_in_line small waiting a k || from (head_of (waiting.state k)) false (λ h. true)) small waiting writing 0 1 ≡ true)
unfolding waiting before_abort granted_if
freed_at_once_grants = (refl, refl, refl)

-- Quiet is said of the head and of an instrument where the group stands: of neither a member nor a number that runs.
quiet_of_the_head : map (row small waiting) (quiet 1 0 ∷ quiet 1 1 ∷ quiet 2 0 ∷ quiet 3 0 ∷ quiet 0 0 ∷ []) ≡ 0 ∷ 0 ∷ 10 ∷ 10 ∷ 10 ∷ []
unfolding waiting
quiet_of_the_head = refl

-- the bench after instrument 0 is quiet for 1, and after instrument 1 is quiet too
quiet_once : Bench
unfolding waiting
quiet_once = effect small waiting (quiet 1 0)

quiet_twice : Bench
unfolding quiet_once
quiet_twice = effect small quiet_once (quiet 1 1)

-- The group leaves instrument 0, where top 0 still reads; it drains on, since 2 stands at instrument 1, and all of it is freed when that is quiet too.
quiet_by_instrument : (map (quiet_once.stands reading 0) (0 ∷ 2 ∷ []) ≡ true ∷ false ∷ []) × (quiet_once.stands writing 1 2 ≡ true) × (heads quiet_once ≡ heads waiting) × (row small quiet_once (quiet 1 0) ≡ 10) × (map (λ k. is_free (quiet_twice.state k)) (0 ∷ 1 ∷ 2 ∷ 3 ∷ []) ≡ false ∷ true ∷ true ∷ true ∷ []) × (quiet_twice.stands writing 1 2 ≡ false)
unfolding quiet_twice heads
quiet_by_instrument = (refl, refl, refl, refl, refl, refl)

-- A group freed at its first quiet gives top 0 what it still works at; a quiet that empties the instrument takes top 0's own place too.
quiet_too_soon_grants : (granted small quiet_once writing 0 1 ≡ false) × (granted small (without (drains_under waiting 1) waiting) writing 0 1 ≡ true) × ((quieted (λ k. true) 0 waiting).stands reading 0 0 ≡ false)
unfolding quiet_once
quiet_too_soon_grants = (refl, refl, refl)

-- ---- soundness

with_state : ℕ → State → Bench → Bench
with_state n s b = record { state = put n s b.state; parent = b.parent; stands = b.stands }

with_parent : ℕ → ℕ → Bench → Bench
with_parent n p b = record { state = b.state; parent = put n (some p) b.parent; stands = b.stands }

with_free_standing : Bench → Bench
with_free_standing b = record { state = b.state; parent = b.parent; stands = λ m i k. b.stands m i k || eqb k 0 }

-- A sound bench with one thing changed: a state that means nothing; a committed top action; a free number with a parent; one in every set; a parent
-- that the table doesn't have; a free parent; a ring of parents; a running action under a committed one.
damaged : Bench → List Bench
damaged b =
    with_state 3 (meaningless 7) b
    ∷ with_state 0 committed b
    ∷ with_parent 0 1 b
    ∷ with_free_standing b
    ∷ with_parent 2 4 (with_state 4 running b)
    ∷ with_parent 2 0 b
    ∷ with_parent 1 3 b
    ∷ with_parent 3 2 b
    ∷ []

-- the rules that a bench breaks, 0 where a state means nothing, and 5 where a number doesn't drain well
broken_rules : Bench → List ℕ
broken_rules b =
    unless (λ k. means_something (b.state k)) 0
    (unless (rule1 b) 1 (unless (rule2 small b) 2 (unless (rule3 small b) 3 (unless (rule4 b) 4 (unless (drains_well small b) 5 [])))))
  where
    unless : (ℕ → Bool) → ℕ → List ℕ → List ℕ
    unless rule n others = if all small.actions rule then others else n ∷ others

-- Each is unsound by one rule alone.
damaged_unsound : (map (sound small) (damaged sibling_done) ≡ map (λ b. false) (damaged sibling_done)) × (map broken_rules (damaged sibling_done) ≡ (0 ∷ []) ∷ (1 ∷ []) ∷ (2 ∷ []) ∷ (2 ∷ []) ∷ (3 ∷ []) ∷ (3 ∷ []) ∷ (3 ∷ []) ∷ (4 ∷ []) ∷ [])
unfolding sibling_done with_state with_parent with_free_standing damaged broken_rules
damaged_unsound = (refl, refl)

-- top 1; 2 under 1; write 2, 0; abort 1; top 3: the group of 1 stands in a set, and its head does not
member_stands : Bench
unfolding reached
member_stands = reached (open_top 1 ∷ open_sub 2 1 ∷ write 2 0 ∷ abort 1 ∷ open_top 3 ∷ [])

emptied : Bench → Bench
emptied b = record { state = b.state; parent = b.parent; stands = λ m i k. false }

-- That bench with one thing changed: the group in no set; the head free, or running; the head under another that drains, or under one that runs; a head
-- that the table doesn't have; a member with a parent; a committed number under one that drains, and a running one.
ill_drained : Bench → List Bench
ill_drained b =
    emptied b
    ∷ with_state 1 free b
    ∷ with_state 1 running b
    ∷ with_state 1 (draining 2) b
    ∷ with_state 1 (draining 3) b
    ∷ with_state 4 (draining 4) (with_state 1 (draining 4) (with_state 2 (draining 4) b))
    ∷ with_parent 2 3 b
    ∷ with_state 3 committed (with_parent 3 1 b)
    ∷ with_parent 3 1 b
    ∷ []

-- The bench is sound, and none of these is; a head alone in no set isn't either.
ill_drained_unsound : (sound small member_stands ≡ true) × (map (sound small) (ill_drained member_stands) ≡ map (λ b. false) (ill_drained member_stands)) × (map broken_rules (ill_drained member_stands) ≡ (5 ∷ []) ∷ (5 ∷ []) ∷ (5 ∷ []) ∷ (5 ∷ []) ∷ (5 ∷ []) ∷ (5 ∷ []) ∷ (5 ∷ []) ∷ (3 ∷ []) ∷ (3 ∷ 4 ∷ []) ∷ []) × (broken_rules (with_state 1 (draining 1) empty) ≡ 5 ∷ [])
unfolding member_stands with_state with_parent emptied ill_drained broken_rules
ill_drained_unsound = (refl, refl, refl, refl)

-- 2 runs under 1, a committed top action that holds instrument 0
top_done : Bench
unfolding reached with_state
top_done = with_state 1 committed (reached (open_top 1 ∷ write 1 0 ∷ open_sub 2 1 ∷ []))

-- On an unsound bench the set form can give what the rule over heirs refuses.
unsound_sets_differ : (sound small top_done ≡ false) × (granted small top_done reading 2 0 ≡ false) × (granted_by_sets small top_done reading 2 0 ≡ true)
unfolding top_done upward_within in_upward downward_within in_downward granted_by_sets
unsound_sets_differ = (refl, refl, refl)
