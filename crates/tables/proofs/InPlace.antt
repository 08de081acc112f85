-- Requests on the table of a sound bench, in place: the row that was found is the answer, and the table that a request leaves is the step's and
-- again that of a sound bench. Assumes nothing.
use Rattle.std.specs.Prelude.{if◌then◌else◌}
use mathlib.Core.Path.{◌≡◌, refl, sym, ◌∙◌, ap}
use mathlib.Core.Bool.{Bool, true, false, ◌&&◌}
use mathlib.Core.List.{List}
use mathlib.Core.Option.{some}
use Prim.Native.Nat.{ℕ, ◌+◌, ◌%◌, ◌<◌}
use native.Mathlib.Omega.{arith}
use borrow.Author.Tests.{eqb-true, ltb-true, ltb-false}
use lib.Dec.{eqb, ltb}
use lib.ListN.{length, get_or, length-set, get_or-eq_default}
use Rattle.rules.specs.Tests.{any}
use Rattle.rules.specs.Owners.{is_ancestor, in_family, drains_under, stand_somewhere}
use Rattle.rules.specs.Requests.{Request, open_top, open_sub, ask, commit, abort, quiet, without, drained, effect}
use Rattle.rules.specs.Answers.{row, row_by, answer_of, Outcome}
use Rattle.rules.specs.Sound.{sound}
use Rattle.rules.proofs.Tests.{by_bool}
use Rattle.rules.proofs.Facts.{sound_facts, under_head}
use Rattle.rules.proofs.Accepted.{Commits, Aborts}
use Rattle.rules.proofs.Kept.{step_keeps_sound}
use Rattle.tables.specs.Table.{Layout, Table, view}
use Rattle.tables.specs.Tree.{tree, bare, tree_shape, descends}
use Rattle.tables.specs.Owners.{stands_at, TellsOwners}
use Rattle.tables.specs.Changes.{given, kept, Changed, marked, placed, with_bytes, with_sets}
use Rattle.tables.specs.Steps.{Long, Bounded, SoundTable, OutcomeIs, Stepped, Freed, Aborted}
use Rattle.tables.proofs.Bytes.{none_byte}
use Rattle.tables.proofs.ViewLaws.{parents_sound}
use Rattle.tables.proofs.Groups.{group_byte, group_at, stand_somewhere_same, nobody_stands}
use Rattle.tables.proofs.Stores.{Asked, Quieted, Uprooted, family_drained, family_freed, quiet_stays_shown, quiet_frees_shown}
use Rattle.tables.proofs.Steps.{answer_sound, granted_by, step_refused}
use Rattle.tables.proofs.Rows.{ask_row, quiet_row, commit_row_shown, quiet_row_shown, ask_answered}
use Rattle.tables.proofs.Accepts.{open_top_accepted, open_sub_accepted, ask_accepted, commit_top_accepted, commit_sub_accepted, abort_accepted, quiet_accepted}
use Rattle.tables.proofs.Cleared.{given_at, kept_at}
use Rattle.tables.proofs.Families.{descends_known}

module _ {layout : Layout} {t : Table} (pre : SoundTable layout t) where
  abbrev n : ℕ
  n = layout.shape.actions

  -- what is left to show of a table that a request leaves: its lengths, and that it is the step's
  stepped : (q : Request) (answer : ℕ) (after : Table) → Long layout after → OutcomeIs layout (some q) t answer after → Stepped layout (some q) t answer after
  stepped q answer after long e =
      record {
        outcome = e;
        table = record {
          long = long;
          is_sound = ap (λ (o : Outcome). sound layout.shape o.next) e ∙ step_keeps_sound layout.shape (view layout t) q pre.is_sound;
        };
      }

  -- The row of a sound bench is its answer.
  found : (q : Request) (answer : ℕ) → answer ≡ row layout.shape (view layout t) q → answer ≡ answer_of layout.shape (view layout t) q
  found q answer e = e ∙ answer_sound layout.shape (view layout t) q true (sym pre.is_sound) refl

  -- ---- the answers, from the rows that the code finds

  pub open_top_found : (k answer : ℕ) → answer ≡ row (tree_shape n) (bare n t.states) (open_top k) → answer ≡ answer_of layout.shape (view layout t) (open_top k)
  unfolding row_by
  open_top_found k answer e = found (open_top k) answer e

  pub open_sub_found : (k p answer : ℕ) → answer ≡ row (tree_shape n) (bare n t.states) (open_sub k p) → answer ≡ answer_of layout.shape (view layout t) (open_sub k p)
  unfolding row_by
  open_sub_found k p answer e = found (open_sub k p) answer e

  pub commit_found : (a answer : ℕ) → answer ≡ row (tree_shape n) (tree t.parents t.states) (commit a) → answer ≡ answer_of layout.shape (view layout t) (commit a)
  commit_found a answer e = found (commit a) answer (e ∙ commit_row_shown layout t a)

  pub abort_found : (a answer : ℕ) → answer ≡ row (tree_shape n) (bare n t.states) (abort a) → answer ≡ answer_of layout.shape (view layout t) (abort a)
  unfolding row_by
  abort_found a answer e = found (abort a) answer e

  -- `owned` tells who stands at the instrument in a set of a mode that conflicts with the asked one
  pub ask_found : (m i : ℕ) (owned : ℕ → Bool) → TellsOwners layout t m (i % layout.shape.instruments) owned → (a answer : ℕ) →
      answer ≡ ask_row layout.shape t.parents t.states owned a i → answer ≡ answer_of layout.shape (view layout t) (ask m a i)
  ask_found = ask_answered layout t true (sym pre.is_sound) refl

  -- `stands` says whether one of those that drain under a stands at the instrument
  pub quiet_found : (stands : Bool) (a i answer : ℕ) →
      (a < n → i < layout.shape.instruments → stands ≡ any n (λ k. stands_at layout t k i && eqb (get_or t.states k 0) (3 + a))) →
      answer ≡ quiet_row layout.shape t.states stands a i → answer ≡ answer_of layout.shape (view layout t) (quiet a i)
  quiet_found stands a i answer tells e =
      found (quiet a i) answer (e ∙ quiet_row_shown layout t stands a i (λ la li. tells la li ∙ group_at layout t a i la))

  -- what an accepted commit says of its action, and an abort
  pub commit_acts : (a answer : ℕ) → answer ≡ answer_of layout.shape (view layout t) (commit a) → answer ≡ 0 → Commits layout.shape (view layout t) a
  commit_acts a answer e z = (granted_by layout.shape (view layout t) (commit a) answer e z).facts

  pub abort_acts : (a answer : ℕ) → answer ≡ answer_of layout.shape (view layout t) (abort a) → answer ≡ 0 → Aborts layout.shape (view layout t) a
  abort_acts a answer e z = (granted_by layout.shape (view layout t) (abort a) answer e z).facts

  -- ---- what a request leaves

  -- A request that is refused leaves the table as it was.
  pub refused_in_place : (q : Request) (answer : ℕ) → answer ≡ answer_of layout.shape (view layout t) q → (answer ≡ 0 → ⊥) → Stepped layout (some q) t answer t
  refused_in_place q answer e nonzero = stepped q answer t pre.long (step_refused layout.shape (view layout t) q answer e nonzero)

  -- another byte leaves the lengths
  marked_long : (k byte : ℕ) → Long layout (marked t k byte)
  marked_long k byte =
      record { parents_long = pre.long.parents_long; states_long = length-set t.states k byte ∙ pre.long.states_long; sets_long = pre.long.sets_long }

  pub open_top_in_place : (k answer : ℕ) → answer ≡ answer_of layout.shape (view layout t) (open_top k) → answer ≡ 0 →
      Stepped layout (some (open_top k)) t answer (marked t (k % n) 1)
  open_top_in_place k answer e z =
      stepped (open_top k) answer (marked t (k % n) 1) (marked_long (k % n) 1) (open_top_accepted layout t answer k pre.long.states_long e z)

  pub open_sub_in_place : (k p answer : ℕ) → answer ≡ answer_of layout.shape (view layout t) (open_sub k p) → answer ≡ 0 →
      Stepped layout (some (open_sub k p)) t answer (placed t (k % n) (p % n))
  open_sub_in_place k p answer e z =
      stepped (open_sub k p) answer (placed t (k % n) (p % n))
      (record {
        parents_long = length-set t.parents (k % n) (p % n + 1) ∙ pre.long.parents_long;
        states_long = length-set t.states (k % n) 1 ∙ pre.long.states_long;
        sets_long = pre.long.sets_long;
      })
      (open_sub_accepted layout t answer k p pre.long.parents_long pre.long.states_long e z)

  -- An ask that is granted stores sets that have a at the instrument in its mode.
  pub ask_in_place : (m a i answer : ℕ) (sets : ℕ → List ℕ) → ((held : ℕ) → held < layout.shape.modes → length (sets held) ≡ layout.words) →
      (a < n → i < layout.shape.instruments → Asked layout t m (a % n) (i % layout.shape.instruments) sets) →
      answer ≡ answer_of layout.shape (view layout t) (ask m a i) → answer ≡ 0 → Stepped layout (some (ask m a i)) t answer (with_sets t sets)
  ask_in_place m a i answer sets long stored e z =
      stepped (ask m a i) answer (with_sets t sets)
      (record { parents_long = pre.long.parents_long; states_long = pre.long.states_long; sets_long = long })
      (ask_accepted layout t answer m a i sets stored e z)

  pub commit_sub_in_place : (a answer : ℕ) → (get_or t.parents (a % n) 0 ≡ 0 → ⊥) → answer ≡ answer_of layout.shape (view layout t) (commit a) → answer ≡ 0 →
      Stepped layout (some (commit a)) t answer (marked t (a % n) 2)
  commit_sub_in_place a answer sub e z =
      stepped (commit a) answer (marked t (a % n) 2) (marked_long (a % n) 2) (commit_sub_accepted layout t answer a pre.long.states_long sub e z)

  -- a table that a family has left
  pub commit_top_in_place : (a answer : ℕ) {after : Table} → Freed layout (a % n) t after → get_or t.parents (a % n) 0 ≡ 0 →
      answer ≡ answer_of layout.shape (view layout t) (commit a) → answer ≡ 0 → Stepped layout (some (commit a)) t answer after
  commit_top_in_place a answer {after} freed top e z =
      stepped (commit a) answer after freed.long (commit_top_accepted layout t answer a after top freed.left e z)

  -- ---- an abort

  -- `gone` tells the family of a. It has left the tree, and its states' bytes are those of numbers that drain under a where one of it stands in a set, and else 0.
  pub family_aborted : (a : ℕ) (gone : ℕ → Bool) (stands : Bool) (parents states : List ℕ) → a < n → ((k : ℕ) → gone k ≡ descends n t.parents a k) →
      Bounded layout t → stands ≡ stand_somewhere layout.shape (view layout t) gone → Changed (kept gone) t.parents parents →
      Changed (given gone (if stands then 3 + a else 0)) t.states states → Aborted layout a t (with_bytes t parents states)
  unfolding effect in_family is_ancestor
  family_aborted a gone stands parents states la family bounded says parents_kept states_given =
      record {
        left = rw (sym (stand_somewhere_same layout.shape (view layout t) gone (descends n t.parents a) (λ k l. family k)) ∙ sym says) (by_bool stands drains frees);
        long = record {
          parents_long = parents_kept.long ∙ pre.long.parents_long;
          states_long = states_given.long ∙ pre.long.states_long;
          sets_long = pre.long.sets_long;
        };
      }
    where
      known : (k : ℕ) → gone k ≡ true → k < n
      known k g = descends_known n t.parents (parents_sound layout t pre.is_sound) pre.long.parents_long a k la (sym (family k) ∙ g)

      uprooted : (value : ℕ) → (if stands then 3 + a else 0) ≡ value → Uprooted gone value t parents states
      uprooted value e =
          record {
            parents_kept = kept_at gone t.parents parents parents_kept;
            states_given = given_at gone value t.states states (rw e at states_given) (λ k g. rw pre.long.states_long (known k g));
          }

      drains : stands ≡ true → view layout (with_bytes t parents states)
          ≡ (if stands then drained a (descends n t.parents a) (view layout t) else without (descends n t.parents a) (view layout t))
      drains e = rw e (family_drained layout t a gone family parents states la (uprooted (3 + a) (rw e)))

      frees : stands ≡ false → view layout (with_bytes t parents states)
          ≡ (if stands then drained a (descends n t.parents a) (view layout t) else without (descends n t.parents a) (view layout t))
      frees e =
          rw e
          (family_freed layout t a gone family parents states (nobody_stands layout t gone bounded known (sym says ∙ e)) (uprooted 0 (rw e)))

  pub abort_in_place : (a answer : ℕ) {after : Table} → Aborted layout (a % n) t after → answer ≡ answer_of layout.shape (view layout t) (abort a) → answer ≡ 0 →
      Stepped layout (some (abort a)) t answer after
  abort_in_place a answer {after} aborted e z = stepped (abort a) answer after aborted.long (abort_accepted layout t answer a after aborted.left e z)

  -- ---- quiet

  -- `group` tells those that drain under a, and they have left the sets of i
  module _ (a i answer : ℕ) (group : ℕ → Bool) (sets : ℕ → List ℕ)
      (grouped : a < n → (k : ℕ) → group k ≡ eqb (get_or t.states k 0) (3 + a))
      (long : (m : ℕ) → m < layout.shape.modes → length (sets m) ≡ layout.words)
      (left : a < n → i < layout.shape.instruments → Quieted layout t group i sets)
      (e : answer ≡ answer_of layout.shape (view layout t) (quiet a i)) (z : answer ≡ 0) where
    group_drains : a < n → (k : ℕ) → group k ≡ drains_under (view layout t) a k
    group_drains la k = grouped la k ∙ sym (group_byte layout t a k la)

    -- one of them is still in a set
    pub quiet_stays_in_place : stand_somewhere layout.shape (view layout (with_sets t sets)) group ≡ true → Stepped layout (some (quiet a i)) t answer (with_sets t sets)
    quiet_stays_in_place stands =
        stepped (quiet a i) answer (with_sets t sets) (record { parents_long = pre.long.parents_long; states_long = pre.long.states_long; sets_long = long })
        (quiet_accepted layout t answer a i (with_sets t sets)
        (λ la li. quiet_stays_shown layout t a i group (group_drains la) sets (left la li) stands)
        e
        z)

    -- none is, so that they are freed
    pub quiet_frees_in_place : (states : List ℕ) → Bounded layout (with_sets t sets) → Changed (kept group) t.states states →
        stand_somewhere layout.shape (view layout (with_sets t sets)) group ≡ false →
        Stepped layout (some (quiet a i)) t answer (with_bytes (with_sets t sets) t.parents states)
    quiet_frees_in_place states bounded states_kept out =
        stepped (quiet a i) answer (with_bytes (with_sets t sets) t.parents states)
        (record { parents_long = pre.long.parents_long; states_long = states_kept.long ∙ pre.long.states_long; sets_long = long })
        (quiet_accepted layout t answer a i (with_bytes (with_sets t sets) t.parents states)
        (λ la li. quiet_frees_shown layout t a i group (group_drains la) sets (left la li) states (kept_at group t.states states states_kept) (tops la)
        (nobody_stands layout (with_sets t sets) group bounded (known la) out)
        out)
        e
        z)
      where
        known : a < n → (k : ℕ) → group k ≡ true → k < n
        known la k u =
            by_bool (ltb k n) (ltb-true k n)
            (λ past. absurd (
            let nothing : get_or t.states k 0 ≡ 0 = get_or-eq_default t.states 0 (rw pre.long.states_long (ltb-false k n past)) in
            let named = eqb-true (get_or t.states k 0) (3 + a) (sym (grouped la k) ∙ u) in
            omega arith))

        tops : a < n → (k : ℕ) → group k ≡ true → get_or t.parents k 0 ≡ 0
        tops la k u =
            none_byte (get_or t.parents k 0)
            ((sound_facts layout.shape (view layout t) pre.is_sound k (known la k u)).drains a (under_head (view layout t) a k (sym (group_drains la k) ∙ u))).no_parent
