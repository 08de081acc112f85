-- Controls of numbers that drain, on the table of three actions: an abort and a quiet computed, tables that aren't sound, and laws that are a little stronger than
-- those proved here, refuted.
use mathlib.Core.Path.{◌≡◌, refl, sym, ◌∙◌}
use mathlib.Core.Bool.{Bool, true, false, and-false}
use mathlib.Core.List.{List, [], ◌∷◌}
use mathlib.Core.Option.{some}
use Prim.Native.Nat.{ℕ, zero, suc, ◌+◌, ◌*◌, ◌/◌, ◌%◌, ◌<◌}
use native.Mathlib.Omega.{arith}
use borrow.Author.Tests.{eqb-true, ltb-true, ltb-false}
use lib.Dec.{eqb, ltb}
use lib.ListN.{length, get_or, replicate, get_or-eq_default}
use Rattle.sets.specs.Sets.{member}
use Rattle.sets.proofs.Laws.{member_empty}
use Rattle.rules.specs.Tests.{all, any}
use Rattle.rules.specs.Bench.{free}
use Rattle.rules.specs.Owners.{above, is_ancestor, nearest, heir, is_asker_or_ancestor, heir_in_line, granted, stand_at, stand_somewhere}
use Rattle.rules.specs.Sound.{stands_nowhere, reaches_top, sound}
use Rattle.rules.specs.Requests.{open_top, abort, quiet, effect}
use Rattle.rules.specs.Answers.{row, row_by, answer_of}
use Rattle.rules.proofs.Tests.{by_bool, clash, and_right}
use Rattle.tables.specs.Table.{Table, view}
use Rattle.tables.specs.Tree.{up_of, tree, bare, tree_shape, descends}
use Rattle.tables.specs.Changes.{given, kept, Changed, with_bytes}
use Rattle.tables.specs.Steps.{SoundTable, Bounded, Stepped}
use Rattle.tables.proofs.Stores.{zeros}
use Rattle.tables.proofs.Rows.{quiet_row}
use Rattle.tables.proofs.InPlace.{family_aborted, abort_in_place}
use Rattle.tables.proofs.Controls.{small, siblings, siblings_sound}

-- ---- an abort

-- 2, which stands at instrument 0 in mode 1, drains under itself; 1 runs under 0.
abbrev drains : Table
drains = with_bytes siblings (0 ∷ 1 ∷ 0 ∷ []) (1 ∷ 1 ∷ 5 ∷ [])

-- bytes of three numbers, one by one
three_changed : (at : ℕ → ℕ → ℕ) (before after : List ℕ) → length before ≡ 3 → length after ≡ 3 → get_or after 0 0 ≡ at 0 (get_or before 0 0) →
    get_or after 1 0 ≡ at 1 (get_or before 1 0) → get_or after 2 0 ≡ at 2 (get_or before 2 0) → Changed at before after
three_changed at before after long long' e0 e1 e2 = record { long = long' ∙ sym long; each = λ k l. by_number k (rw long at l) }
  where
    by_number : (k : ℕ) → k < 3 → get_or after k 0 ≡ at k (get_or before k 0)
    by_number zero l = e0
    by_number (suc zero) l = e1
    by_number (suc (suc zero)) l = e2
    by_number (suc (suc (suc k))) l = absurd (omega arith)

-- of four words none stands for an instrument from 2 on
few_words : (words : List ℕ) → length words ≡ 4 → (i k : ℕ) → small.holds words i k ≡ true → i < 2
few_words words long i k h =
    by_bool (ltb i 2) (ltb-true i 2)
    (λ t. let far = ltb-false i 2 t in
    let nothing : get_or words (2 * i + k / 2) 0 ≡ 0 = get_or-eq_default words 0 (rw long (omega arith)) in
    clash (member 0 (k % 2)) (rw nothing at (and_right (ltb k 4) (member (get_or words (2 * i + k / 2) 0) (k % 2)) h)) (member_empty (k % 2)))

siblings_bounded : Bounded small siblings
siblings_bounded m i k h =
    by_bool (eqb m 1) (λ t. let one = eqb-true m 1 t in (omega arith, few_words (0 ∷ 1 ∷ 0 ∷ 0 ∷ []) refl i k (rw t at h)))
    (λ t. clash (small.holds (replicate 4 0) i k) (rw t at h) (rw (zeros 4 (2 * i + k / 2), member_empty (k % 2)) (and-false (ltb k 4))))

abort_steps : Stepped small (some (abort 2)) siblings 0 drains
unfolding sound stands_nowhere reaches_top all any member answer_of row_by stand_at stand_somewhere above
abort_steps =
    abort_in_place siblings_sound 2 0
    (family_aborted siblings_sound 2 (descends 3 siblings.parents 2) true drains.parents drains.states (omega arith) (λ k. refl) siblings_bounded refl
    (three_changed (kept (descends 3 siblings.parents 2)) siblings.parents drains.parents refl refl refl refl refl)
    (three_changed (given (descends 3 siblings.parents 2) 5) siblings.states drains.states refl refl refl refl refl))
    refl
    refl

drains_sound : SoundTable small drains
drains_sound = abort_steps.table

-- It keeps others away, its former parent too, from a mode that conflicts with its own.
drains_blocks : (granted small.shape (view small drains) 0 1 0 ≡ true) × (granted small.shape (view small drains) 1 1 0 ≡ false)
    × (granted small.shape (view small drains) 1 0 0 ≡ false)
unfolding all granted heir_in_line heir nearest is_asker_or_ancestor is_ancestor above member
drains_blocks = (refl, refl, refl)

-- ---- quiet

-- It is said of 2 at instrument 0: neither of another number nor of another instrument.
quiet_rows : (row small.shape (view small drains) (quiet 2 0) ≡ 0) × (row small.shape (view small drains) (quiet 1 0) ≡ 10)
    × (row small.shape (view small drains) (quiet 2 1) ≡ 10) × (quiet_row small.shape drains.states true 2 0 ≡ 0)
unfolding any member row_by stand_at
quiet_rows = (refl, refl, refl, refl)

-- 2 is free after it.
quiet_frees : ((effect small.shape (view small drains) (quiet 2 0)).state 2 ≡ free) × ((effect small.shape (view small drains) (quiet 2 0)).stands 1 0 2 ≡ false)
unfolding any member effect stand_at stand_somewhere
quiet_frees = (refl, refl)

-- ---- tables that aren't sound

-- the table with other bytes and the sets of a test
abbrev sound_with : List ℕ → List ℕ → (ℕ → List ℕ) → Bool
sound_with parents states sets = sound small.shape (view small (record { parents = parents; states = states; sets = sets }))

-- 2 stands in a set, and has a head that runs; a head that the table doesn't have; a head of its own in no set; a running number under it; or a parent.
unsound : (sound_with (0 ∷ 1 ∷ 0 ∷ []) (1 ∷ 1 ∷ 4 ∷ []) siblings.sets ≡ false) × (sound_with (0 ∷ 1 ∷ 0 ∷ []) (1 ∷ 1 ∷ 6 ∷ []) siblings.sets ≡ false)
    × (sound_with (0 ∷ 1 ∷ 0 ∷ []) (1 ∷ 1 ∷ 5 ∷ []) (λ m. replicate 4 0) ≡ false) × (sound_with (0 ∷ 3 ∷ 0 ∷ []) (1 ∷ 1 ∷ 5 ∷ []) siblings.sets ≡ false)
    × (sound_with (0 ∷ 1 ∷ 1 ∷ []) (1 ∷ 1 ∷ 5 ∷ []) siblings.sets ≡ false)
unfolding sound stands_nowhere reaches_top all any member stand_at stand_somewhere
unsound = (refl, refl, refl, refl, refl)

-- ---- refuted

-- A tree that keeps the numbers that drain isn't sound: without the sets their group stands nowhere.
tree_with_draining : ((t : Table) → SoundTable small t → sound (tree_shape 3)
    (record { state = (bare 3 t.states).state; parent = up_of t.parents; stands = λ m i k. false }) ≡ true) → ⊥
unfolding sound stands_nowhere reaches_top all any stand_at stand_somewhere
tree_with_draining h = clash false (h drains drains_sound) refl

-- The tree doesn't answer an open: a number that drains reads as free in it.
open_by_the_tree : ((states : List ℕ) (k : ℕ) → row (tree_shape 3) (tree [] states) (open_top k) ≡ row (tree_shape 3) (bare 3 states) (open_top k)) → ⊥
unfolding row_by
open_by_the_tree h = let wrong : ◌≡◌ {A = ℕ} 0 3 = h drains.states 2 in omega arith

-- Nor does it tell whose heir is in line where the asker doesn't run: 2 is its own head.
asker_that_drains : ((t : Table) → SoundTable small t → (a k : ℕ) → a < 3 → k < 3 →
    heir_in_line small.shape (view small t) a k ≡ heir_in_line (tree_shape 3) (tree t.parents t.states) a k) → ⊥
unfolding heir_in_line heir nearest is_asker_or_ancestor is_ancestor above
asker_that_drains h = clash true refl (h drains drains_sound 2 2 (omega arith) (omega arith))
