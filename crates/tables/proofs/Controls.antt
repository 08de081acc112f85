-- Controls: a table of other measures, computed. Three actions, two instruments and three modes, of which 0 goes with 0 and with 1, and all others
-- conflict. A set is two words of two bits. And laws that are a little stronger than those proved here, refuted.
use mathlib.Core.Path.{◌≡◌, refl, sym, ◌∙◌}
use mathlib.Core.Bool.{true, false, ◌&&◌, ◌||◌, and-false, or-false}
use mathlib.Core.List.{List, [], ◌∷◌}
use mathlib.Core.Option.{Option, some, none-ne-some}
use Prim.Native.Nat.{ℕ, zero, suc, ◌+◌, ◌*◌, ◌/◌, ◌%◌, ◌<◌}
use native.Mathlib.Omega.{arith}
use borrow.Author.Tests.{eqb-true, ltb-true, ltb-false, ne_eqb}
use lib.Dec.{eqb, ltb}
use lib.ListN.{length, get_or, replicate, get_or-eq_default}
use Rattle.sets.specs.Sets.{member, single}
use Rattle.sets.proofs.Laws.{member_single}
use Rattle.rules.specs.Tests.{all, any, from}
use Rattle.rules.specs.Owners.{above, is_ancestor, nearest, heir, is_asker_or_ancestor, heir_in_line, granted, has_running_child}
use Rattle.rules.specs.Sound.{stands_nowhere, reaches_top, sound}
use Rattle.rules.specs.Requests.{ask, commit, put}
use Rattle.rules.specs.Answers.{row_by, answer_of}
use Rattle.rules.proofs.Tests.{by_bool, clash}
use Rattle.tables.specs.Table.{Layout, Table, view}
use Rattle.tables.specs.Tree.{up_of, tree, tree_shape, tree_state_of, SoundTree, known_up, in_line, descends, met_from}
use Rattle.tables.specs.Owners.{owners_in_line}
use Rattle.tables.specs.Climbs.{EndOutside}
use Rattle.tables.specs.Changes.{marked, with_sets}
use Rattle.tables.specs.Steps.{SoundTable, Stepped}
use Rattle.tables.proofs.Stores.{asked_one}
use Rattle.tables.proofs.Climbs.{Leads, parent, farther, ring_endless, Climbing}
use Rattle.tables.proofs.InPlace.{ask_in_place, commit_sub_in_place}

-- Number k is bit k % 2 of word k / 2 of its set.
abbrev pub small : Layout
small =
    record {
      shape = record { actions = 3; instruments = 2; modes = 3; conflict = λ asked held. ltb 1 (asked + held) };
      words = 4;
      holds = λ words i k. ltb k 4 && member (get_or words (2 * i + k / 2) 0) (k % 2);
    }

-- 1 and 2 run under 0, and 2 stands at instrument 0 in mode 1.
abbrev pub siblings : Table
siblings = record { parents = 0 ∷ 1 ∷ 1 ∷ []; states = 1 ∷ 1 ∷ 1 ∷ []; sets = put 1 (0 ∷ 1 ∷ 0 ∷ 0 ∷ []) (λ m. replicate 4 0) }

-- ---- soundness

pub siblings_sound : SoundTable small siblings
unfolding sound stands_nowhere reaches_top all member
siblings_sound =
    record {
      long = record { parents_long = refl; states_long = refl; sets_long = λ m l. by_bool (eqb m 1) (λ e. rw e) (λ e. rw e) };
      is_sound = refl;
    }

-- A free number in a set: the tree is sound and the table isn't.
free_in_a_set : (sound (tree_shape 3) (tree (0 ∷ 1 ∷ 0 ∷ []) (1 ∷ 1 ∷ 0 ∷ [])) ≡ true) ×
    (sound small.shape (view small (record { parents = 0 ∷ 1 ∷ 0 ∷ []; states = 1 ∷ 1 ∷ 0 ∷ []; sets = siblings.sets })) ≡ false)
unfolding sound stands_nowhere reaches_top all member
free_in_a_set = (refl, refl)

-- A ring of parents: 1 under 2 and 2 under 1.
ring_unsound : sound (tree_shape 3) (tree (0 ∷ 3 ∷ 2 ∷ []) (1 ∷ 1 ∷ 1 ∷ [])) ≡ false
unfolding sound stands_nowhere reaches_top all
ring_unsound = refl

-- ---- what is granted

-- 1 gets instrument 0 in mode 0, which goes with mode 1, and not in mode 1.
granted_beside : (granted small.shape (view small siblings) 0 1 0 ≡ true) × (granted small.shape (view small siblings) 1 1 0 ≡ false)
unfolding all granted heir_in_line heir nearest is_asker_or_ancestor is_ancestor above member
granted_beside = (refl, refl)

-- ---- steps

-- 2 commits.
commit_steps : Stepped small (some (commit 2)) siblings 0 (marked siblings 2 2)
unfolding sound stands_nowhere reaches_top all any member answer_of row_by has_running_child
commit_steps = commit_sub_in_place siblings_sound 2 0 (λ e. absurd (omega arith)) refl refl

-- After it 1 gets instrument 0 in mode 1: the heir of 2 is 0, an ancestor of 1.
granted_after : granted small.shape (view small (marked siblings 2 2)) 1 1 0 ≡ true
unfolding all granted heir_in_line heir nearest is_asker_or_ancestor is_ancestor above member
granted_after = refl

-- the words of mode 0 with 1 at instrument 1
abbrev with_one : List ℕ
with_one = 0 ∷ 0 ∷ 2 ∷ 0 ∷ []

one_more : (at k : ℕ) → small.holds with_one at k ≡ (small.holds (siblings.sets 0) at k || (eqb at 1 && eqb k 1))
unfolding member
one_more at k =
    by_bool (ltb k 4) (λ t. known at k (ltb-true k 4 t))
    (λ t. let far = ltb-false k 4 t in rw (t, ne_eqb k 1 (λ e. absurd (omega arith)), and-false (eqb at 1)))
  where
    known : (at k : ℕ) → k < 4 → small.holds with_one at k ≡ (small.holds (siblings.sets 0) at k || (eqb at 1 && eqb k 1))
    known zero zero l = refl
    known zero (suc zero) l = refl
    known zero (suc (suc zero)) l = refl
    known zero (suc (suc (suc zero))) l = refl
    known zero (suc (suc (suc (suc k)))) l = absurd (omega arith)
    known (suc zero) zero l = refl
    known (suc zero) (suc zero) l = refl
    known (suc zero) (suc (suc zero)) l = refl
    known (suc zero) (suc (suc (suc zero))) l = refl
    known (suc zero) (suc (suc (suc (suc k)))) l = absurd (omega arith)
    known (suc (suc at)) k l =
        let nobody : (words : List ℕ) → length words ≡ 4 → get_or words (2 * suc (suc at) + k / 2) 0 ≡ 0 = λ words long. get_or-eq_default words 0 (omega arith) in
        rw (nobody with_one refl, nobody (siblings.sets 0) refl, ne_eqb (suc (suc at)) 1 (λ e. absurd (omega arith)), or-false)

-- 1 asks for instrument 1 in mode 0.
ask_steps : Stepped small (some (ask 0 1 1)) siblings 0 (with_sets siblings (put 0 with_one siblings.sets))
unfolding sound stands_nowhere reaches_top all any member answer_of row_by has_running_child granted heir_in_line heir nearest is_asker_or_ancestor is_ancestor above
ask_steps =
    ask_in_place siblings_sound 0 1 1 0 (put 0 with_one siblings.sets)
    (λ m l. by_bool (eqb m 0) (λ e. rw e) (λ e. by_bool (eqb m 1) (λ f. rw (e, f)) (λ f. rw (e, f))))
    (λ la li. asked_one small siblings 0 1 1 with_one one_more)
    refl
    refl

-- ---- a family

-- 2 under 1 under 0, 1 and 2 committed
abbrev chained : List ℕ
chained = 0 ∷ 1 ∷ 2 ∷ []

abbrev handed_up : List ℕ
handed_up = 1 ∷ 2 ∷ 2 ∷ []

chain_sound : SoundTree 3 chained handed_up
unfolding sound stands_nowhere reaches_top all
chain_sound = refl

-- the family of 1: itself and 2
family_of_one : (descends 3 chained 1 0 ≡ false) × (descends 3 chained 1 1 ≡ true) × (descends 3 chained 1 2 ≡ true)
unfolding above
family_of_one = (refl, refl, refl)

-- ---- refuted

-- A climb of one number less than the table has misses an heir, though the tree is sound.
climb_too_short : ((parents states : List ℕ) → SoundTree 3 parents states → (k : ℕ) → k < 3 →
    nearest 2 (λ j. tree_state_of (get_or states j 0)) (known_up 3 parents) k ≡ heir (tree_shape 3) (tree parents states) k) → ⊥
unfolding heir nearest
climb_too_short h = none-ne-some 0 (h chained handed_up chain_sound 2 (omega arith))

-- Without a sound tree the numbers met by known parents are not the asker and its ancestors: here the parent's byte of 0 names 4, which the table doesn't have.
line_without_soundness : ((parents : List ℕ) (a k : ℕ) → a < 3 → met_from 3 parents a k ≡ in_line 3 parents a k) → ⊥
unfolding above
line_without_soundness h = clash true refl (sym (h (5 ∷ []) 0 4 (omega arith)))

-- A test that leaves out one conflicting mode doesn't tell what is granted: here it looks at mode 2 alone.
mode_left_out : ((m a i : ℕ) → granted small.shape (view small siblings) m a i
    ≡ owners_in_line 3 siblings.parents siblings.states (small.holds (siblings.sets 2) i) a) → ⊥
unfolding all granted owners_in_line heir_in_line heir nearest is_asker_or_ancestor is_ancestor above member
mode_left_out h = clash true refl (sym (h 1 1 0))

-- A climb that stops at a number that isn't known to end tells nothing: here 0 and 1 are each other's parents, and 1 isn't among those left to try.
stops_at_unknown : ((up : ℕ → Option ℕ) (rest left : ℕ) (at : Option ℕ) → Climbing 2 up rest left at → from at false (member rest) ≡ false → EndOutside 2 up left) → ⊥
unfolding member single
stops_at_unknown h = ring_endless ring 0 (farther 1 (parent refl) refl) (h ring 1 0 (some 1) (record { known = known; passed = passed }) refl 0 (omega arith) refl)
  where
    ring : ℕ → Option ℕ
    ring = up_of (2 ∷ 1 ∷ [])

    known : (x : ℕ) → some 1 ≡ some x → x < 2
    known x e = let one : 1 ≡ x = cc in omega arith

    passed : (j : ℕ) → member 1 j ≡ true → member 0 j ≡ false → Leads ring j (some 1)
    passed j is out = rw (eqb-true j 0 (sym (member_single 0 j) ∙ is)) (parent refl)
