-- The index after each step on a sound bench: a refused request, an ask and a quiet leave it as it was, and what is stored when an action opens or ends makes it the
-- index of the next bench. Assumes nothing.
use mathlib.Core.Path.{◌≡◌, ◌∙◌, ap}
use mathlib.Core.Bool.{and-true}
use mathlib.Core.List.{List}
use mathlib.Core.Option.{Option, some}
use Prim.Native.Nat.{ℕ, ◌+◌, ◌-◌, ◌%◌, ◌<◌}
use native.Mathlib.Omega.{arith}
use lib.ListN.{get_or, set}
use lib.Seq.{set-get_or}
use Rattle.sets.specs.Sets.{member, with, difference}
use Rattle.sets.proofs.Laws.{member_empty, member_difference, same_members, difference_fits, below_pow}
use Rattle.rules.specs.Bench as rules
use Rattle.rules.specs.Requests.{Request, open_top, open_sub, ask, quiet}
use Rattle.tables.specs.Tree.{tree}
use Rattle.views.specs.View.{arrays, layout}
use lib.Dec.{eqb}
use Rattle.views.proofs.Ends.{ending_code}
use Rattle.views.specs.Arrays.{SoundArrays, Stepped, FreedIn}
use Rattle.rules.specs.Frames.{framed}
use Rattle.tables.proofs.IndexKept.{refused_kept, ask_kept, quiet_kept, open_top_kept, open_sub_kept, end_top_kept, end_sub_kept}
use Rattle.index.specs.Tables.{child_sets, line_sets, running_set, IndexOf}
use Rattle.index.specs.Kept.{opened, opened_top, adopted, opened_sub, stopped, left, grouped}
use Rattle.index.proofs.IndexParts.{own_parts, index_by, child_read, line_read, child_put, line_put, running_put, beyond_put}

-- where nobody has gone, nobody leaves the children of a parent
nobody_less : (s : ℕ) → difference s 0 ≡ s
nobody_less s =
    same_members s (difference s 0) s (difference_fits s s 0 (below_pow s)) (below_pow s)
    (λ k l. member_difference s 0 k ∙ rw (member_empty k) (and-true (member s k)))

pub nobody_left : (gone a p : ℕ) (index : List ℕ) → gone ≡ 0 → left gone a p index ≡ stopped gone a index
nobody_left gone a p index none =
    rw none (ap (set (stopped 0 a index) p) (nobody_less (get_or (stopped 0 a index) p 0)) ∙ set-get_or (stopped 0 a index) p 0)

-- What is stored behind the parts that tell of the tree leaves them as they are.
pub beyond_indexed : {b : rules.Bench} {index : List ℕ} (n v : ℕ) → 128 < n → IndexOf b index → IndexOf b (set index n v)
beyond_indexed {index = index} n v above h = index_by (beyond_put (own_parts index h.long) n v above) h.sets

pub grouped_indexed : {b : rules.Bench} {index : List ℕ} (a group places : ℕ) → IndexOf b index → IndexOf b (grouped a group places index)
grouped_indexed a group places h = beyond_indexed (193 + a) places (omega arith) (beyond_indexed (129 + a) group (omega arith) h)

module _ {parents states reads writes parents' states' reads' writes' : List ℕ} {answer : ℕ} {index : List ℕ} (h : IndexOf (tree parents states) index) where
  pub refused_indexed : (r : Option Request) → Stepped r parents states reads writes answer parents' states' reads' writes' → (answer ≡ 0 → ⊥) → IndexOf (tree parents' states') index
  refused_indexed r st nonzero =
      index_by (own_parts index h.long)
      (refused_kept layout (arrays parents states reads writes) (arrays parents' states' reads' writes') answer (child_sets index) (line_sets index) (running_set index) h.sets r st nonzero)

  module _ (pre : SoundArrays parents states reads writes) where
    pub asked_indexed : (m a i : ℕ) → Stepped (some (ask m a i)) parents states reads writes answer parents' states' reads' writes' → IndexOf (tree parents' states') index
    asked_indexed m a i st =
        index_by (own_parts index h.long)
        (ask_kept layout (arrays parents states reads writes) (arrays parents' states' reads' writes') answer (child_sets index) (line_sets index) (running_set index) h.sets m a i st)

    pub quieted_indexed : (a i : ℕ) → Stepped (some (quiet a i)) parents states reads writes answer parents' states' reads' writes' → IndexOf (tree parents' states') index
    quieted_indexed a i st =
        index_by (own_parts index h.long)
        (quiet_kept layout (arrays parents states reads writes) (arrays parents' states' reads' writes') answer (child_sets index) (line_sets index) (running_set index) h.sets pre a i st)

    pub top_indexed : (n : ℕ) → Stepped (some (open_top n)) parents states reads writes answer parents' states' reads' writes' → answer ≡ 0 → IndexOf (tree parents' states') (opened_top (n % 64) index)
    top_indexed n st z =
        let known : n % 64 < 64 = omega arith in
        index_by (line_put (beyond_put (child_put (running_put (own_parts index h.long) _) (n % 64) 0 known) (193 + n % 64) 0 (omega arith)) (n % 64) (with 64 0 (n % 64)) known)
        (open_top_kept layout (arrays parents states reads writes) (arrays parents' states' reads' writes') answer (child_sets index) (line_sets index) (running_set index) h.sets pre n st z)

    pub sub_indexed : (n p : ℕ) → Stepped (some (open_sub n p)) parents states reads writes answer parents' states' reads' writes' → answer ≡ 0 → IndexOf (tree parents' states') (opened_sub (n % 64) (p % 64) index)
    sub_indexed n p st z =
        let known : n % 64 < 64 = omega arith in
        let parent_known : p % 64 < 64 = omega arith in
        let is_open = beyond_put (child_put (running_put (own_parts index h.long) (with 64 (running_set index) (n % 64))) (n % 64) 0 known) (193 + n % 64) 0 (omega arith) in
        let is_child = child_put is_open (p % 64) (with 64 (get_or (opened (n % 64) index) (p % 64) 0) (n % 64)) parent_known in
        index_by (line_put is_child (n % 64) (with 64 (get_or (adopted (n % 64) (p % 64) index) (64 + p % 64) 0) (n % 64)) known)
        (rw (line_read is_child (p % 64) parent_known, child_read is_open (p % 64) parent_known)
        (open_sub_kept layout (arrays parents states reads writes) (arrays parents' states' reads' writes') answer (child_sets index) (line_sets index) (running_set index) h.sets pre n p st z))

    -- the end of an action, by its code; `gone` has the family where one is freed
    module _ (code x y : ℕ) (above : 4 < code) (loud : code ≡ 7 → ⊥) (st : Stepped (framed code x y) parents states reads writes answer parents' states' reads' writes') (z : answer ≡ 0) (gone : ℕ) (freed : FreedIn parents states code x gone) where
      pub top_end_indexed : get_or parents (x % 64) 0 ≡ 0 → IndexOf (tree parents' states') (stopped gone (x % 64) index)
      top_end_indexed top =
          index_by (running_put (own_parts index h.long) _)
          (end_top_kept layout _ _ _ (child_sets index) (line_sets index) (running_set index) h.sets pre (eqb code 6) x (ending_code code x y above loud st z) z gone top freed)

      pub sub_end_indexed : (get_or parents (x % 64) 0 ≡ 0 → ⊥) → get_or parents (x % 64) 0 - 1 < 64 → IndexOf (tree parents' states') (left gone (x % 64) (get_or parents (x % 64) 0 - 1) index)
      sub_end_indexed sub known =
          let is_stopped = running_put (own_parts index h.long) (difference (running_set index) (with 64 gone (x % 64))) in
          index_by (child_put is_stopped (get_or parents (x % 64) 0 - 1) _ known)
          (rw (child_read is_stopped (get_or parents (x % 64) 0 - 1) known)
          (end_sub_kept layout _ _ _ (child_sets index) (line_sets index) (running_set index) h.sets pre (eqb code 6) x (ending_code code x y above loud st z) z gone sub freed))
