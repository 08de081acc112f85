-- How stores show in the view: the table after a request's stores is read as the bench that the request leaves. Assumes nothing.
use Rattle.std.specs.Prelude.{if◌then◌else◌}
use mathlib.Core.Path.{◌≡◌, refl, sym, ◌∙◌, ap}
use mathlib.Core.Bool.{Bool, true, false, not, ◌&&◌, ◌||◌, or-false, and-true, and-false}
use mathlib.Core.List.{List}
use Prim.Native.Nat.{ℕ, zero, suc, ◌+◌, ◌<◌}
use native.Mathlib.Numerals.{add-one}
use borrow.Author.Tests.{eqb-true, eqb-false}
use lib.Dec.{eqb}
use lib.ListN.{length, get_or, set, replicate}
use lib.Seq.{get_or-set_same, get_or-set_other}
use Rattle.sets.specs.Sets.{member, with, difference}
use Rattle.sets.proofs.Laws.{member_with, member_difference}
use Rattle.rules.specs.Tests.{from}
use Rattle.rules.specs.Bench as rules
use Rattle.rules.specs.Owners.{is_ancestor, in_family, drains_under, stand_somewhere}
use Rattle.rules.specs.Requests.{open_top, open_sub, ask, commit, quiet, put, without, drained, quieted, effect}
use Rattle.rules.proofs.Tests.{by_bool}
use Rattle.tables.specs.Table.{Layout, Table, state_of, parent_of, view}
use Rattle.tables.specs.Tree.{descends}
use Rattle.tables.specs.Changes.{given, kept, marked, placed, with_bytes, with_sets}
use Rattle.tables.proofs.States.{draining_byte}

-- benches that agree at every number, mode and instrument are the same bench
pub same_bench : (b c : rules.Bench) → ((k : ℕ) → b.state k ≡ c.state k) → ((k : ℕ) → b.parent k ≡ c.parent k) →
    ((m i k : ℕ) → b.stands m i k ≡ c.stands m i k) → b ≡ c
same_bench b c states parents sets = λ j. record { state = λ k. states k j; parent = λ k. parents k j; stands = λ m i k. sets m i k j }

-- ---- one place of an array

pub store_shown : {A : Type 0} (f : ℕ → A) (l : List ℕ) (n v k : ℕ) → n < length l → f (get_or (set l n v) k 0) ≡ put n (f v) (λ k. f (get_or l k 0)) k
store_shown f l n v k h =
    by_bool (eqb k n)
    (λ t. rw t (ap f (rw (eqb-true k n t) (get_or-set_same l n v 0 h))))
    (λ t. rw t (ap f (get_or-set_other l n k v 0 (eqb-false k n t))))

-- one number more in one set, a word of n bits
pub with_shown : (n : ℕ) (l : List ℕ) (a i at k : ℕ) → a < n → i < length l →
    member (get_or (set l i (with n (get_or l i 0) a)) at 0) k ≡ (member (get_or l at 0) k || (eqb at i && eqb k a))
with_shown n l a i at k la li =
    store_shown (λ s. member s k) l i (with n (get_or l i 0) a) at li
    ∙ by_bool (eqb at i)
    (λ t. rw (t, eqb-true at i t) (member_with n (get_or l i 0) a k la))
    (λ t. rw t (sym (or-false (member (get_or l at 0) k))))

-- the numbers of a set leave one set of a list
pub left_shown : (l : List ℕ) (i gone at k : ℕ) → i < length l →
    member (get_or (set l i (difference (get_or l i 0) gone)) at 0) k ≡ (member (get_or l at 0) k && not (eqb at i && member gone k))
left_shown l i gone at k li =
    store_shown (λ s. member s k) l i (difference (get_or l i 0) gone) at li
    ∙ by_bool (eqb at i)
    (λ t. rw (t, eqb-true at i t) (member_difference (get_or l i 0) gone k))
    (λ t. rw t (sym (and-true (member (get_or l at 0) k))))

-- ---- an empty table

pub zeros : (n k : ℕ) → ◌≡◌ {A = ℕ} (get_or (replicate n 0) k 0) 0
zeros zero k = refl
zeros (suc n) zero = refl
zeros (suc n) (suc k) = zeros n k

pub empty_shown : (layout : Layout) (n : ℕ) (sets : ℕ → List ℕ) → ((m i k : ℕ) → layout.holds (sets m) i k ≡ false) →
    view layout (record { parents = replicate n 0; states = replicate n 0; sets = sets }) ≡ rules.empty
empty_shown layout n sets nobody =
    same_bench (view layout (record { parents = replicate n 0; states = replicate n 0; sets = sets })) rules.empty
    (λ k. ap (state_of layout.shape.actions) (zeros n k))
    (λ k. ap parent_of (zeros n k))
    nobody

-- ---- the table after the stores of a request

module _ (layout : Layout) (t : Table) where
  before : rules.Bench
  before = view layout t

  -- one number's state
  mark_shown : (n v : ℕ) → n < length t.states →
      view layout (marked t n v) ≡ record { state = put n (state_of layout.shape.actions v) before.state; parent = before.parent; stands = before.stands }
  unfolding before
  mark_shown n v h =
      λ j. record { state = λ k. store_shown (state_of layout.shape.actions) t.states n v k h j; parent = before.parent; stands = before.stands }

  pub open_top_shown : (n : ℕ) → n < length t.states → view layout (marked t n 1) ≡ effect layout.shape (view layout t) (open_top n)
  unfolding effect before
  open_top_shown n h = mark_shown n 1 h

  pub open_sub_shown : (n p : ℕ) → n < length t.parents → n < length t.states → view layout (placed t n p) ≡ effect layout.shape (view layout t) (open_sub n p)
  unfolding effect
  open_sub_shown n p hp hs =
      rw add-one
      (same_bench (view layout (record { parents = set t.parents n (suc p); states = set t.states n 1; sets = t.sets }))
      (effect layout.shape (view layout t) (open_sub n p))
      (λ k. store_shown (state_of layout.shape.actions) t.states n 1 k hs)
      (λ k. store_shown parent_of t.parents n (suc p) k hp)
      (λ m i k. refl))

  -- Sets that have a at i in mode m, and else what they had.
  abbrev pub Asked : ℕ → ℕ → ℕ → (ℕ → List ℕ) → Type 0
  Asked m a i sets = (held at k : ℕ) → layout.holds (sets held) at k ≡ (layout.holds (t.sets held) at k || (eqb held m && eqb at i && eqb k a))

  pub ask_shown : (m a i : ℕ) (sets : ℕ → List ℕ) → Asked m a i sets → view layout (with_sets t sets) ≡ effect layout.shape (view layout t) (ask m a i)
  unfolding effect
  ask_shown m a i sets stands =
      same_bench (view layout (with_sets t sets)) (effect layout.shape (view layout t) (ask m a i)) (λ k. refl) (λ k. refl) stands

  -- Where the words of one mode alone are stored anew, only its sets have to be looked at.
  pub asked_one : (m a i : ℕ) (words : List ℕ) → ((at k : ℕ) → layout.holds words at k ≡ (layout.holds (t.sets m) at k || (eqb at i && eqb k a))) →
      Asked m a i (put m words t.sets)
  asked_one m a i words grown held at k =
      by_bool (eqb held m) (λ e. rw (e, eqb-true held m e) (grown at k)) (λ e. rw e (sym (or-false (layout.holds (t.sets held) at k))))

  -- Sets that the numbers of a group have left at instrument i.
  abbrev pub Quieted : (ℕ → Bool) → ℕ → (ℕ → List ℕ) → Type 0
  Quieted group i sets = (m at k : ℕ) → layout.holds (sets m) at k ≡ (layout.holds (t.sets m) at k && not (eqb at i && group k))

  -- commit of a top: its family is gone
  pub commit_top_shown : (a : ℕ) (next : rules.Bench) → get_or t.parents a 0 ≡ 0 → next ≡ without (in_family layout.shape (view layout t) a) (view layout t) →
      next ≡ effect layout.shape (view layout t) (commit a)
  unfolding effect
  commit_top_shown a next top h = rw top h

  pub commit_sub_shown : (a : ℕ) → a < length t.states → (get_or t.parents a 0 ≡ 0 → ⊥) → view layout (marked t a 2) ≡ effect layout.shape (view layout t) (commit a)
  unfolding effect before
  commit_sub_shown a h sub = mark_shown a 2 h ∙ under (get_or t.parents a 0) sub
    where
      done : rules.Bench
      done = record { state = put a rules.committed before.state; parent = before.parent; stands = before.stands }

      under : (p : ℕ) → (p ≡ 0 → ⊥) → done ≡ from (parent_of p) (without (in_family layout.shape before a) before) (λ x. done)
      under zero top = absurd (top refl)
      under (suc p) top = refl

-- ---- numbers that have gone

-- a byte that was replaced or not, told by a test that says the same
given_shown : {A : Type 0} (f : ℕ → A) (t u : Bool) (value after before : ℕ) → t ≡ u → after ≡ (if t then value else before) → f after ≡ (if u then f value else f before)
given_shown f true u value after before e h = rw (← e) (ap f h)
given_shown f false u value after before e h = rw (← e) (ap f h)

-- A table after the numbers that are `gone` have left it, and before.
pub record Cleared (layout : Layout) (gone : ℕ → Bool) (before after : Table) : Type 0 where
  pub parents_kept : (k : ℕ) → get_or after.parents k 0 ≡ kept gone k (get_or before.parents k 0)
  pub states_kept : (k : ℕ) → get_or after.states k 0 ≡ kept gone k (get_or before.states k 0)
  pub sets_left : (m i k : ℕ) → layout.holds (after.sets m) i k ≡ (layout.holds (before.sets m) i k && not (gone k))

pub cleared_shown : (layout : Layout) (gone test : ℕ → Bool) (before after : Table) → ((k : ℕ) → gone k ≡ test k) → Cleared layout gone before after →
    view layout after ≡ without test (view layout before)
cleared_shown layout gone test before after e c =
    same_bench (view layout after) (without test (view layout before))
    (λ k. given_shown (state_of layout.shape.actions) (gone k) (test k) 0 (get_or after.states k 0) (get_or before.states k 0) (e k) (c.states_kept k))
    (λ k. given_shown parent_of (gone k) (test k) 0 (get_or after.parents k 0) (get_or before.parents k 0) (e k) (c.parents_kept k))
    (λ m i k. c.sets_left m i k ∙ rw (e k))

-- A family that has left the table has left the bench.
pub family_left : (layout : Layout) (before after : Table) (a : ℕ) (gone : ℕ → Bool) → ((k : ℕ) → gone k ≡ descends layout.shape.actions before.parents a k) →
    Cleared layout gone before after → view layout after ≡ without (in_family layout.shape (view layout before) a) (view layout before)
unfolding in_family is_ancestor
family_left layout before after a gone e c = cleared_shown layout gone (in_family layout.shape (view layout before) a) before after e c

-- sets as they were, where none of the numbers that have gone stands in any
untouched : (stands gone : Bool) → (gone ≡ true → stands ≡ false) → stands ≡ (stands && not gone)
untouched stands true nobody = nobody refl ∙ sym (and-false stands)
untouched stands false nobody = sym (and-true stands)

-- ---- an abort

-- Numbers that have left the tree, and have another state's byte; the sets are as they were.
pub record Uprooted (gone : ℕ → Bool) (value : ℕ) (t : Table) (parents states : List ℕ) : Type 0 where
  pub parents_kept : (k : ℕ) → get_or parents k 0 ≡ kept gone k (get_or t.parents k 0)
  pub states_given : (k : ℕ) → get_or states k 0 ≡ given gone value k (get_or t.states k 0)

module _ (layout : Layout) (t : Table) (a : ℕ) (gone : ℕ → Bool) (family : (k : ℕ) → gone k ≡ descends layout.shape.actions t.parents a k)
    (parents states : List ℕ) where
  -- A family that has the byte of those that drain under a does so.
  pub family_drained : a < layout.shape.actions → Uprooted gone (3 + a) t parents states →
      view layout (with_bytes t parents states) ≡ drained a (in_family layout.shape (view layout t) a) (view layout t)
  unfolding in_family is_ancestor
  family_drained la u =
      same_bench (view layout (with_bytes t parents states)) (drained a (in_family layout.shape (view layout t) a) (view layout t))
      (λ k. rw (← draining_byte layout.shape.actions a la)
      (given_shown (state_of layout.shape.actions) (gone k) (descends layout.shape.actions t.parents a k) (3 + a) (get_or states k 0) (get_or t.states k 0)
      (family k) (u.states_given k)))
      (λ k. given_shown parent_of (gone k) (descends layout.shape.actions t.parents a k) 0 (get_or parents k 0) (get_or t.parents k 0) (family k) (u.parents_kept k))
      (λ m i k. refl)

  -- A family that stands in no set leaves no set when it is freed.
  pub family_freed : ((m i k : ℕ) → gone k ≡ true → layout.holds (t.sets m) i k ≡ false) → Uprooted gone 0 t parents states →
      view layout (with_bytes t parents states) ≡ without (in_family layout.shape (view layout t) a) (view layout t)
  family_freed nobody u =
      family_left layout t (with_bytes t parents states) a gone family
      (record {
        parents_kept = u.parents_kept;
        states_kept = u.states_given;
        sets_left = λ m i k. untouched (layout.holds (t.sets m) i k) (gone k) (nobody m i k);
      })

-- ---- quiet

module _ (layout : Layout) (t : Table) (a i : ℕ) (group : ℕ → Bool) (grouped : (k : ℕ) → group k ≡ drains_under (view layout t) a k)
    (sets : ℕ → List ℕ) (left : Quieted layout t group i sets) where
  -- the group by the rules' own test
  same_group : group ≡ drains_under (view layout t) a
  same_group = λ j k. grouped k j

  quieted_shown : view layout (with_sets t sets) ≡ quieted (drains_under (view layout t) a) i (view layout t)
  quieted_shown =
      same_bench (view layout (with_sets t sets)) (quieted (drains_under (view layout t) a) i (view layout t)) (λ k. refl) (λ k. refl)
      (λ m at k. left m at k ∙ ap (λ u. layout.holds (t.sets m) at k && not (eqb at i && u)) (grouped k))

  -- whether one of the group is still in a set, on the table and on the bench
  still_stands : (stands : Bool) → stand_somewhere layout.shape (view layout (with_sets t sets)) group ≡ stands →
      stand_somewhere layout.shape (quieted (drains_under (view layout t) a) i (view layout t)) (drains_under (view layout t) a) ≡ stands
  still_stands stands e =
      ap (λ b. stand_somewhere layout.shape b (drains_under (view layout t) a)) (sym quieted_shown)
      ∙ ap (λ f. stand_somewhere layout.shape (view layout (with_sets t sets)) f) (sym same_group)
      ∙ e

  -- A group that is still in a set goes on draining.
  pub quiet_stays_shown : stand_somewhere layout.shape (view layout (with_sets t sets)) group ≡ true →
      view layout (with_sets t sets) ≡ effect layout.shape (view layout t) (quiet a i)
  unfolding effect
  quiet_stays_shown e = rw (still_stands true e) quieted_shown

  -- A group that is in none is freed. It has no parents.
  pub quiet_frees_shown : (states : List ℕ) → ((k : ℕ) → get_or states k 0 ≡ kept group k (get_or t.states k 0)) → ((k : ℕ) → group k ≡ true → get_or t.parents k 0 ≡ 0) →
      ((m at k : ℕ) → group k ≡ true → layout.holds (sets m) at k ≡ false) → stand_somewhere layout.shape (view layout (with_sets t sets)) group ≡ false →
      view layout (with_bytes (with_sets t sets) t.parents states) ≡ effect layout.shape (view layout t) (quiet a i)
  unfolding effect
  quiet_frees_shown states freed tops nobody e =
      rw (still_stands false e)
      (cleared_shown layout group (drains_under (view layout t) a) t (with_bytes (with_sets t sets) t.parents states) grouped
      (record {
        parents_kept = λ k. by_bool (group k) (λ u. rw (u, tops k u)) (λ u. rw u);
        states_kept = freed;
        sets_left = λ m at k.
            by_bool (group k) (λ u. rw u (nobody m at k u ∙ sym (and-false (layout.holds (t.sets m) at k))))
            (λ u. rw u (left m at k ∙ rw (u, and-false (eqb at i))));
      }))
