-- The rows of a commit and of an ask, on parents and states of a sound bench, where what they are told is so. Assumes nothing.
use mathlib.Core.Path.{◌≡◌, refl}
use mathlib.Core.Bool.{Bool}
use mathlib.Core.List.{List}
use Prim.Native.Nat.{ℕ, ◌<◌}
use native.Mathlib.Nat.{mod-eq_of_lt}
use borrow.Author.Tests.{eqb-true, eqb-false, leb-false}
use lib.Dec.{eqb, leb}
use lib.ListN.{get_or}
use Rattle.sets.specs.Sets.{member}
use Rattle.rules.specs.Owners.{has_running_child}
use Rattle.rules.specs.Requests.{commit}
use Rattle.rules.specs.Answers.{row, row_by}
use Rattle.rules.specs.ReadWrite.{read_write}
use Rattle.rules.proofs.Tests.{by_bool}
use Rattle.tables.specs.Tree.{tree, tree_shape}
use Rattle.views.specs.Tree.{SoundTree, in_line}
use Rattle.views.specs.Owners.{owners_in_line}
use Rattle.views.specs.Index.{KnowsChild, KnowsLine}
use Rattle.tables.proofs.States.{tree_running_byte}
use Rattle.tables.proofs.Lines.{met_in_line}
use Rattle.tables.proofs.Held.{held_in_line}
use Rattle.tables.proofs.Rows as rows
use Rattle.tables.proofs.Rows.{looked_for_child}
use Rattle.rows.specs.Rows.{commit_row, ask_row, busy_in, line_for, held_for}

-- The rows of a commit, where what is said of running children is so.
pub commit_row_is : (parents states : List ℕ) (a : ℕ) (busy : Bool) → KnowsChild parents states a busy →
    commit_row states busy a ≡ row (tree_shape 64) (tree parents states) (commit a)
unfolding row_by
commit_row_is parents states a busy knows =
    by_bool (leb 64 a) (λ t. rw t)
    (λ t. rw (t, tree_running_byte (get_or states a 0))
    (by_bool (eqb (get_or states a 0) 1) (λ u. rw (u, ← knows (leb-false 64 a t) (eqb-true (get_or states a 0) 1 u))) (λ u. rw u)))

-- ---- an ask

module _ (parents states : List ℕ) (ok : SoundTree parents states) (a : ℕ) where
  -- the line that is handed over, or gathered, is the asker's
  line_for_lem : (line : ℕ) → KnowsLine parents states a line → a < 64 → get_or states a 0 ≡ 1 → (k : ℕ) → line_for parents line a k ≡ in_line parents a k
  line_for_lem line knows l runs k =
      by_bool (eqb line 0) (λ t. rw (t, mod-eq_of_lt l) (met_in_line 64 parents (states, ok) a l k)) (λ t. rw t (knows (eqb-false line 0 t) l runs k))

  -- what is held in it is held by the asker's line
  held_for_lem : (line owners : ℕ) → KnowsLine parents states a line → a < 64 → get_or states a 0 ≡ 1 → held_for parents states line owners a ≡ owners_in_line parents states owners a
  held_for_lem line owners knows l runs =
      held_in_line 64 parents states ok a l (rw runs) (line_for parents line a) (line_for_lem line knows l runs) owners

  -- running children don't hang on instruments and modes
  child_of : (busy : Bool) → KnowsChild parents states a busy → a < 64 → get_or states a 0 ≡ 1 → busy ≡ has_running_child read_write (tree parents states) a
  unfolding has_running_child
  child_of busy knows l runs = knows l runs

  pub ask_row_is : (busy : Bool) (line owners i : ℕ) → KnowsChild parents states a busy → KnowsLine parents states a line →
      ask_row states busy (held_for parents states line owners a) a i ≡ rows.ask_row read_write parents states (member owners) a i
  unfolding row_by
  ask_row_is busy line owners i child knows =
      by_bool (leb 64 a) (λ t. rw t)
      (λ t. by_bool (leb 128 i) (λ u. rw (t, u))
      (λ u. rw (t, u, tree_running_byte (get_or states a 0))
      (by_bool (eqb (get_or states a 0) 1)
      (λ v. let l = leb-false 64 a t in let runs = eqb-true (get_or states a 0) 1 v in
      rw (v, ← child_of busy child l runs, held_for_lem line owners knows l runs))
      (λ v. rw v))))

  -- the same, where running children and the line are looked up in the arrays
  pub looked_up_row_is : (owners i : ℕ) → ask_row states (busy_in parents states a) (held_for parents states 0 owners a) a i ≡ rows.ask_row read_write parents states (member owners) a i
  looked_up_row_is owners i =
      ask_row_is (busy_in parents states a) 0 owners i (looked_for_child 64 parents states a (busy_in parents states a) refl) (λ known. absurd (known refl))
