-- Rows of the answers. Those of an ask lie on those of a commit by the same action, and look at the sets only to grant; those of quiet look at one byte and at the
-- instrument's sets. From a row found on parents, states and these sets to the answer on the whole bench. Assumes nothing.
use Rattle.std.specs.Prelude.{if◌then◌else◌}
use mathlib.Core.Path.{◌≡◌, sym, ◌∙◌}
use mathlib.Core.Bool.{Bool, true, false, not, ◌&&◌, ◌||◌}
use mathlib.Core.List.{List}
use Prim.Native.Nat.{ℕ, ◌+◌, ◌%◌, ◌<◌}
use native.Mathlib.Nat.{mod-eq_of_lt}
use borrow.Author.Tests.{leb-false, lt-leb, not-false}
use lib.Dec.{eqb, leb}
use lib.ListN.{get_or}
use Rattle.rules.specs.Tests.{any}
use Rattle.rules.specs.Bench as rules
use Rattle.rules.specs.Bench.{Shape, is_running}
use Rattle.rules.specs.Owners.{granted, has_running_child, drains_under, stand_at}
use Rattle.rules.specs.Requests.{open_sub, ask, commit, quiet}
use Rattle.rules.specs.Answers.{row, row_by, answer_of}
use Rattle.rules.specs.Sound.{sound}
use Rattle.rules.proofs.Tests.{by_bool}
use Rattle.rules.proofs.Accepted.{Commits, accepted}
use Rattle.tables.specs.Table.{Layout, Table, view}
use Rattle.tables.specs.Tree.{tree, bare, tree_shape}
use Rattle.tables.specs.Owners.{owners_in_line, TellsOwners}
use Rattle.tables.specs.Index.{KnowsChild}
use Rattle.tables.proofs.States.{running_byte, tree_runs}
use Rattle.tables.proofs.ViewLaws.{running_child_found, running_child_shown, granted_owned}
use Rattle.tables.proofs.Groups.{group_byte}
use Rattle.tables.proofs.Steps.{answer_sound}

-- ---- the last row of open sub, and of commit

-- k is free and p is known: `runs` is whether p runs
pub open_sub_last : (n : ℕ) (states : List ℕ) (k p : ℕ) (runs : Bool) → k < n → p < n → get_or states k 0 ≡ 0 → eqb (get_or states p 0) 1 ≡ runs →
    (if runs then 0 else 4) ≡ row (tree_shape n) (bare n states) (open_sub k p)
unfolding row_by
open_sub_last n states k p runs hk hp free e =
    rw (lt-leb n k hk, lt-leb n p hp, free, running_byte n (get_or states p 0), e) (by_bool runs (λ t. rw t) (λ t. rw t))

-- a is known and runs: `child` is whether it has a running child, as `found`
pub commit_last : (n : ℕ) (parents states : List ℕ) (a : ℕ) (found child : Bool) → a < n → get_or states a 0 ≡ 1 → KnowsChild n parents states a found → found ≡ child →
    (if child then 5 else 0) ≡ row (tree_shape n) (tree parents states) (commit a)
unfolding row_by
commit_last n parents states a found child h runs knows t = rw (lt-leb n a h, runs, ← knows h runs, t)

-- A look through the arrays for a running child of a tells it.
pub looked_for_child : (n : ℕ) (parents states : List ℕ) (a : ℕ) (found : Bool) →
    found ≡ any n (λ k. eqb (get_or states k 0) 1 && eqb (get_or parents k 0) (a % n + 1)) → KnowsChild n parents states a found
looked_for_child n parents states a found e h runs = sym (running_child_found n parents states a found h e)

-- ---- ask

-- the row of an ask where `owned` tells who stands in the conflicting sets
abbrev pub ask_row : Shape → List ℕ → List ℕ → (ℕ → Bool) → ℕ → ℕ → ℕ
ask_row sh parents states owned a i =
    row_by (λ m asker at. owners_in_line sh.actions parents states owned asker) sh (tree parents states) (ask 0 a i)

-- the row `busy` of a commit by a
module _ (sh : Shape) (parents states : List ℕ) (owned : ℕ → Bool) (a i busy : ℕ) (known : i < sh.instruments)
    (e : busy ≡ row (tree_shape sh.actions) (tree parents states) (commit a)) where
  before : rules.Bench
  before = tree parents states

  pub may_commit : busy ≡ 0 → Commits (tree_shape sh.actions) (tree parents states) a
  may_commit accepts =
      accepted (granted (tree_shape sh.actions) (tree parents states)) (tree_shape sh.actions) (tree parents states) (commit a) (sym e ∙ accepts)

  -- a's running children don't hang on instruments and modes
  commits : busy ≡ row sh before (commit a)
  unfolding row_by has_running_child before
  commits = e

  -- Who may not commit may not ask, for the same reason.
  pub ask_busy : (busy ≡ 0 → ⊥) → busy ≡ ask_row sh parents states owned a i
  unfolding row_by before
  ask_busy nonzero =
      commits
      ∙ by_bool (leb sh.actions a) (λ high. rw high)
      (λ low. rw (low, lt-leb sh.instruments i known)
      (by_bool (is_running (before.state a))
      (λ runs. rw runs
      (by_bool (has_running_child sh before a) (λ child. rw child) (λ childless. absurd (nonzero (commits ∙ rw (low, runs, childless))))))
      (λ rests. rw rests)))

  -- Who may commit asks for the grant alone: `line` is what was found of the owners, and `held` its negation.
  pub ask_last : busy ≡ 0 → (line held : Bool) → line ≡ owners_in_line sh.actions parents states owned a → not line ≡ held →
      (if held then 6 else 0) ≡ ask_row sh parents states owned a i
  unfolding row_by before
  ask_last accepts line held found t =
      let f : Commits sh before a = accepted (granted sh before) sh before (commit a) (sym commits ∙ accepts) in
      rw (lt-leb sh.actions a f.known, lt-leb sh.instruments i known, f.runs, f.no_running_child, ← found, t)

-- ---- quiet

-- the row of quiet a, i where `stands` says whether one of those that drain under a stands at i
abbrev pub quiet_row : Shape → List ℕ → Bool → ℕ → ℕ → ℕ
quiet_row sh states stands a i =
    if leb sh.actions a then 1
    else if leb sh.instruments i then 2
    else if not (eqb (get_or states a 0) (3 + a)) || not stands then 10
    else 0

-- ---- from the rows of bytes to those of the bench

module _ (layout : Layout) (t : Table) where
  -- running children don't hang on instruments and modes
  child_shown : (a : ℕ) → has_running_child layout.shape (tree t.parents t.states) a ≡ has_running_child layout.shape (view layout t) a
  unfolding has_running_child
  child_shown a = running_child_shown layout t a

  pub commit_row_shown : (a : ℕ) → row (tree_shape layout.shape.actions) (tree t.parents t.states) (commit a) ≡ row layout.shape (view layout t) (commit a)
  unfolding row_by
  commit_row_shown a = rw (tree_runs layout.shape.actions (get_or t.states a 0), running_child_shown layout t a)

  -- Where `owned` tells what is granted to a running action at a known instrument, the row is that of the whole bench.
  ask_row_shown : (owned : ℕ → Bool) (m a i : ℕ) →
      (a < layout.shape.actions → i < layout.shape.instruments → is_running ((view layout t).state a) ≡ true →
      granted layout.shape (view layout t) m a i ≡ owners_in_line layout.shape.actions t.parents t.states owned a) →
      ask_row layout.shape t.parents t.states owned a i ≡ row layout.shape (view layout t) (ask m a i)
  unfolding row_by
  ask_row_shown owned m a i e =
      by_bool (leb layout.shape.actions a) (λ high. rw high)
      (λ low. by_bool (leb layout.shape.instruments i) (λ high. rw (low, high))
      (λ known. rw (low, known, tree_runs layout.shape.actions (get_or t.states a 0), child_shown a)
      (by_bool (is_running ((view layout t).state a))
      (λ runs. rw (runs, e (leb-false layout.shape.actions a low) (leb-false layout.shape.instruments i known) runs))
      (λ rests. rw rests))))

  pub quiet_row_shown : (stands : Bool) (a i : ℕ) →
      (a < layout.shape.actions → i < layout.shape.instruments → stands ≡ stand_at layout.shape (view layout t) (drains_under (view layout t) a) i) →
      quiet_row layout.shape t.states stands a i ≡ row layout.shape (view layout t) (quiet a i)
  unfolding row_by
  quiet_row_shown stands a i e =
      by_bool (leb layout.shape.actions a) (λ high. rw high)
      (λ low. by_bool (leb layout.shape.instruments i) (λ high. rw (low, high))
      (λ known. let la = leb-false layout.shape.actions a low in
      rw (low, known, group_byte layout t a a la, e la (leb-false layout.shape.instruments i known))))

  -- `ok` is what the soundness test found
  module _ (ok : Bool) (e : ok ≡ sound layout.shape (view layout t)) (h : not ok ≡ false) where
    pub found_sound : sound layout.shape (view layout t) ≡ true
    found_sound = sym e ∙ not-false ok h

    -- and `owned` tells who stands at the instrument in a set of a conflicting mode
    pub ask_answered : (m i : ℕ) (owned : ℕ → Bool) → TellsOwners layout t m (i % layout.shape.instruments) owned → (a answer : ℕ) →
        answer ≡ ask_row layout.shape t.parents t.states owned a i → answer ≡ answer_of layout.shape (view layout t) (ask m a i)
    ask_answered m i owned tells a answer found =
        found
        ∙ ask_row_shown owned m a i (λ la known runs. granted_owned layout t found_sound a la runs m i owned (rw (mod-eq_of_lt known) at tells))
        ∙ answer_sound layout.shape (view layout t) (ask m a i) ok e h
