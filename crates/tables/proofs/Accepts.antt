-- A request that is accepted: the table after its stores, with the answer 0, is the step. Assumes nothing.
use mathlib.Core.Path.{◌≡◌}
use Prim.Native.Nat.{ℕ, ◌%◌, ◌<◌}
use native.Mathlib.Nat.{mod-eq_of_lt}
use lib.ListN.{length, get_or}
use mathlib.Core.List.{List}
use mathlib.Core.Option.{some}
use Rattle.rules.specs.Owners.{granted, in_family}
use Rattle.rules.specs.Requests.{Request, open_top, open_sub, ask, commit, abort, quiet, without, effect}
use Rattle.rules.specs.Answers.{answer_of}
use Rattle.rules.proofs.Accepted.{Accepted, OpensTop, OpensSub, Asks, Commits, Aborts, Quiets}
use Rattle.tables.specs.Table.{Layout, Table, view}
use Rattle.tables.specs.Changes.{marked, placed, with_sets}
use Rattle.tables.specs.Steps.{OutcomeIs}
use Rattle.tables.proofs.Stores.{Asked, open_top_shown, open_sub_shown, ask_shown, commit_top_shown, commit_sub_shown}
use Rattle.tables.proofs.Steps.{granted_by, step_accepted}

-- the table t as it came, and the request's answer
module _ (layout : Layout) (t : Table) (answer : ℕ) where
  abbrev n : ℕ
  n = layout.shape.actions

  facts : (q : Request) → answer ≡ answer_of layout.shape (view layout t) q → answer ≡ 0 →
      Accepted (granted layout.shape (view layout t)) layout.shape (view layout t) q
  facts q e z = (granted_by layout.shape (view layout t) q answer e z).facts

  pub open_top_accepted : (k : ℕ) → length t.states ≡ n → answer ≡ answer_of layout.shape (view layout t) (open_top k) → answer ≡ 0 →
      OutcomeIs layout (some (open_top k)) t answer (marked t (k % n) 1)
  open_top_accepted k long e z =
      let f : OpensTop layout.shape (view layout t) k = facts (open_top k) e z in
      rw (mod-eq_of_lt f.known)
      (step_accepted layout.shape (view layout t) (open_top k) answer _ e z
      (open_top_shown layout t k (rw long f.known)))

  pub open_sub_accepted : (k p : ℕ) → length t.parents ≡ n → length t.states ≡ n → answer ≡ answer_of layout.shape (view layout t) (open_sub k p) → answer ≡ 0 →
      OutcomeIs layout (some (open_sub k p)) t answer (placed t (k % n) (p % n))
  open_sub_accepted k p parents_long states_long e z =
      let f : OpensSub layout.shape (view layout t) k p = facts (open_sub k p) e z in
      rw (mod-eq_of_lt f.known, mod-eq_of_lt f.parent_known)
      (step_accepted layout.shape (view layout t) (open_sub k p) answer _ e z
      (open_sub_shown layout t k p (rw parents_long f.known) (rw states_long f.known)))

  -- The numbers in an accepted ask are known, so sets that have a at i by its remainders have it.
  pub ask_accepted : (m a i : ℕ) (sets : ℕ → List ℕ) →
      (a < n → i < layout.shape.instruments → Asked layout t m (a % n) (i % layout.shape.instruments) sets) →
      answer ≡ answer_of layout.shape (view layout t) (ask m a i) → answer ≡ 0 → OutcomeIs layout (some (ask m a i)) t answer (with_sets t sets)
  ask_accepted m a i sets stored e z =
      let f : Asks (granted layout.shape (view layout t)) layout.shape (view layout t) m a i = facts (ask m a i) e z in
      step_accepted layout.shape (view layout t) (ask m a i) answer _ e z
      (ask_shown layout t m a i sets (rw (mod-eq_of_lt f.known, mod-eq_of_lt f.instrument_known) at (stored f.known f.instrument_known)))

  pub commit_top_accepted : (a : ℕ) (next : Table) → get_or t.parents (a % n) 0 ≡ 0 →
      view layout next ≡ without (in_family layout.shape (view layout t) (a % n)) (view layout t) →
      answer ≡ answer_of layout.shape (view layout t) (commit a) → answer ≡ 0 → OutcomeIs layout (some (commit a)) t answer next
  commit_top_accepted a next top left e z =
      let f : Commits layout.shape (view layout t) a = facts (commit a) e z in
      step_accepted layout.shape (view layout t) (commit a) answer (view layout next) e z
      (commit_top_shown layout t a (view layout next) (rw (mod-eq_of_lt f.known) at top) (rw (mod-eq_of_lt f.known) at left))

  pub commit_sub_accepted : (a : ℕ) → length t.states ≡ n → (get_or t.parents (a % n) 0 ≡ 0 → ⊥) → answer ≡ answer_of layout.shape (view layout t) (commit a) → answer ≡ 0 →
      OutcomeIs layout (some (commit a)) t answer (marked t (a % n) 2)
  commit_sub_accepted a long sub e z =
      let f : Commits layout.shape (view layout t) a = facts (commit a) e z in
      rw (mod-eq_of_lt f.known)
      (step_accepted layout.shape (view layout t) (commit a) answer _ e z
      (commit_sub_shown layout t a (rw long f.known) (rw (mod-eq_of_lt f.known) at sub)))

  pub abort_accepted : (a : ℕ) (next : Table) → view layout next ≡ effect layout.shape (view layout t) (abort (a % n)) →
      answer ≡ answer_of layout.shape (view layout t) (abort a) → answer ≡ 0 → OutcomeIs layout (some (abort a)) t answer next
  abort_accepted a next left e z =
      let f : Aborts layout.shape (view layout t) a = facts (abort a) e z in
      step_accepted layout.shape (view layout t) (abort a) answer (view layout next) e z (rw (mod-eq_of_lt f.known) at left)

  pub quiet_accepted : (a i : ℕ) (next : Table) → (a < n → i < layout.shape.instruments → view layout next ≡ effect layout.shape (view layout t) (quiet a i)) →
      answer ≡ answer_of layout.shape (view layout t) (quiet a i) → answer ≡ 0 → OutcomeIs layout (some (quiet a i)) t answer next
  quiet_accepted a i next left e z =
      let f : Quiets layout.shape (view layout t) a i = facts (quiet a i) e z in
      step_accepted layout.shape (view layout t) (quiet a i) answer (view layout next) e z (left f.known f.instrument_known)
