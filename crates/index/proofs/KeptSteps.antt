-- On the table of a sound bench a request is the step of the rules, or 8 and no change, and the table after it is again that of a sound bench. Assumes nothing.
use Rattle.std.specs.Prelude.{if◌then◌else◌}
use mathlib.Core.Path.{◌≡◌, sym, ◌∙◌, ap}
use mathlib.Core.Bool.{Bool, true, false, ◌||◌}
use mathlib.Core.List.{List}
use mathlib.Core.Option.{some}
use Prim.Native.Nat.{ℕ, ◌+◌, ◌-◌, ◌%◌, ◌≤◌, ◌<◌}
use native.Mathlib.Nat.{mod-eq_of_lt}
use native.Mathlib.Omega.{arith}
use borrow.Author.Tests.{eqb-true, eqb-false, le-leb, ltb-true, ltb-false}
use lib.Dec.{eqb, ltb}
use lib.ListN.{length, get_or, set, length-set}
use Rattle.rules.specs.Frames.{framed}
use Rattle.rules.specs.Bench.{is_free}
use Rattle.rules.specs.Owners.{granted}
use Rattle.rules.specs.ReadWrite.{read_write, mode_of}
use Rattle.rules.specs.Requests.{Request, open_top, open_sub, ask}
use Rattle.rules.specs.Answers.{Outcome, step}
use Rattle.rules.proofs.Accepted.{Accepted, OpensTop, OpensSub, Asks}
use Rattle.rules.proofs.Tests.{by_bool}
use Rattle.rules.proofs.Frames.{framed_ask, ask_code, end_code}
use Rattle.tables.specs.Tree.{tree}
use Rattle.tables.proofs.Steps.{granted_by}
use Rattle.tables.proofs.States.{free_byte, runs_byte}
use Rattle.tables.proofs.ViewLaws.{tree_sound, parents_sound}
use Rattle.tables.proofs.Lines.{parent_known}
use Rattle.tables.proofs.Knowing.{knows_child, knows_line}
use Rattle.views.specs.Tree.{SoundTree}
use Rattle.views.specs.Index.{KnowsChild, KnowsLine}
use Rattle.views.specs.View.{arrays, layout}
use Rattle.views.specs.Arrays.{FreedIn}
use Rattle.views.proofs.Ends.{second_code}
use Rattle.steps.specs.Arrays.{Arrays, view_of, read_sets, write_sets, place_of, stand_at, SteppedTo}
use Rattle.steps.specs.Steps.{Took}
use Rattle.rows.specs.Rows.{end_answer}
use Rattle.steps.proofs.Laws.{opened_steps}
use Rattle.steps.proofs.EndLaws.{end_steps}
use Rattle.steps.proofs.QuietLaws.{quieted_steps}
use Rattle.steps.proofs.AskLaws.{ask_steps}
use Rattle.index.specs.Places.{Placed, group_by}
use Rattle.index.specs.Tables.{Table, child_sets, line_sets, running_set, arrays_in, IndexOf, SoundTable, TableStepped}
use Rattle.index.specs.Kept.{busy_by, line_by, opened, opened_index, left_parent, family_still, ended_by, quiet_answer_by, quieted_by, kept_arrays, kept_index, RequestKept}
use Rattle.index.proofs.IndexParts.{own_parts, child_read, line_read}
use Rattle.index.proofs.Families.{freed_known}
use Rattle.index.proofs.IndexSteps.{nobody_left, beyond_indexed, grouped_indexed, refused_indexed, asked_indexed, quieted_indexed, top_indexed, sub_indexed, top_end_indexed, sub_end_indexed}
use Rattle.index.proofs.SoundBytes.{SoundBytes, sound_bytes}
use Rattle.index.proofs.PlacedLaws.{beyond_set, beyond_placed, asked_placed, opened_placed}
use Rattle.index.proofs.Plain.{quiet_accepts, end_accepts, quieted_plain, quiet_placed, quiet_answer_plain, ended_plain, end_placed}

-- what a step from arrays has accepted
accepted : {before after : Arrays} {answer : ℕ} (q : Request) → SteppedTo (some q) before answer after → answer ≡ 0 →
    Accepted (granted read_write (view_of before)) read_write (view_of before) q
unfolding step
accepted {before} {answer = answer} q st z = (granted_by read_write (view_of before) q answer (ap (λ (o : Outcome). o.answer) st.stepped.outcome) z).facts

module _ {before after : Table} {answer : ℕ} (ok : SoundTable before) (code x y : ℕ) (kept : RequestKept code x y before answer after) where
  -- ---- what the index tells

  sound : SoundTree before.parents before.states
  sound = tree_sound layout (arrays before.parents before.states (read_sets before.owners) (write_sets before.owners)) ok.lists.table.is_sound

  known : x % 64 < 64
  known = omega arith

  long : length before.index ≡ 257
  long = ok.indexed.of_tree.long

  child : KnowsChild before.parents before.states x (busy_by before.index x)
  child =
      rw (child_read (own_parts before.index long) (x % 64) known)
      (knows_child 64 before.parents before.states sound (child_sets before.index) (line_sets before.index) (running_set before.index) ok.indexed.of_tree.sets x kept.running_fits)

  line : KnowsLine before.parents before.states x (line_by before.index x)
  line =
      rw (line_read (own_parts before.index long) (x % 64) known)
      (knows_line 64 before.parents before.states sound (child_sets before.index) (line_sets before.index) (running_set before.index) ok.indexed.of_tree.sets x)

  family : 4 < code → (code ≡ 7 → ⊥) → FreedIn before.parents before.states code x kept.gone
  family above loud =
      freed_known before.parents before.states sound ok.lists.table.long.parents_long before.index ok.indexed.of_tree code x kept.gone (kept.freed above loud)

  -- a parent's byte is 64 at most
  low : get_or before.parents (x % 64) 0 ≤ 64
  low =
      parent_known 64 before.parents (parents_sound layout (arrays before.parents before.states (read_sets before.owners) (write_sets before.owners)) ok.lists.table.is_sound) (x % 64) known

  bytes : SoundBytes before.states before.owners
  bytes = sound_bytes (arrays_in before) ok.lists

  placed : Placed before.states before.owners before.index
  placed = ok.indexed.placed

  -- ---- the step

  abbrev done : Arrays
  done = kept_arrays code x y kept.gone before

  abbrev stored : List ℕ
  stored = kept_index code x y kept.gone before

  -- a request that is refused leaves arrays and index as they were
  with_index : SteppedTo (framed code x y) (arrays_in before) answer (arrays_in after) → (answer ≡ 0 → IndexOf (tree after.parents after.states) stored) →
      (answer ≡ 0 → Placed done.states done.owners stored) → TableStepped (framed code x y) before answer after
  with_index step of_tree placed' =
      record {
        step = step;
        indexed = by_bool (eqb answer 0)
            (λ t. let same : arrays_in after ≡ done = kept.arrays.left ∙ ap (λ u. if u then done else arrays_in before) t in
            record {
              of_tree = rw (kept.index, t) (of_tree (eqb-true answer 0 t));
              placed = rw (kept.index, t, ap (λ (b : Arrays). b.states) same, ap (λ (b : Arrays). b.owners) same) (placed' (eqb-true answer 0 t));
            })
            (λ t. let same : arrays_in after ≡ arrays_in before = kept.arrays.left ∙ ap (λ u. if u then done else arrays_in before) t in
            record {
              of_tree = rw (kept.index, t) (refused_indexed ok.indexed.of_tree (framed code x y) step.stepped (eqb-false answer 0 t));
              placed = rw (kept.index, t, ap (λ (b : Arrays). b.states) same, ap (λ (b : Arrays). b.owners) same) placed;
            });
      }

  -- where a word stands that the request is about
  word_known : (is_write : Bool) → (place_of is_write y < 256) × (place_of is_write y % 64 ≡ y % 64)
  word_known true = (omega arith, omega arith)
  word_known false = (omega arith, omega arith)

  asks : (eqb code 3 || eqb code 4) ≡ true → TableStepped (framed code x y) before answer after
  asks t =
      let three_or_four = ask_code code t in
      let request = framed_ask code x y three_or_four.0 three_or_four.1 in
      let step = ask_steps ok.lists (eqb code 4) (busy_by before.index x) (line_by before.index x) x y child line (rw t at kept.arrays) in
      with_index (rw request step)
      (λ z. rw t (beyond_indexed (193 + x % 64) _ (omega arith) (asked_indexed ok.indexed.of_tree ok.lists.table (mode_of (eqb code 4)) x y step.stepped)))
      (λ z. let f : Asks (granted read_write (view_of (arrays_in before))) read_write (view_of (arrays_in before)) (mode_of (eqb code 4)) x y = accepted (ask (mode_of (eqb code 4)) x y) step z in
      let runs : get_or before.states (x % 64) 0 ≡ 1 = rw (mod-eq_of_lt f.known) (runs_byte 64 (get_or before.states x 0) f.runs) in
      let word = word_known (eqb code 4) in
      rw t (asked_placed bytes long placed (x % 64) (place_of (eqb code 4) y) (y % 64) known word.0 word.1 runs))

  -- n opens, and what is stored after it lies before the groups
  open_placed : (n : ℕ) → n < 64 → get_or before.states n 0 ≡ 0 → Placed (set before.states n 1) before.owners (opened n before.index)
  open_placed n l free =
      let index = before.index in
      opened_placed bytes (length-set (set index 128 _) n 0 ∙ length-set index 128 _ ∙ long)
      (beyond_placed (beyond_set (set index 128 _) n 0 (omega arith)) (beyond_placed (beyond_set index 128 _ (omega arith)) placed)) n l free

  top_placed : get_or before.states (x % 64) 0 ≡ 0 → Placed (set before.states (x % 64) 1) before.owners (opened_index 1 x y before.index)
  top_placed free = beyond_placed (beyond_set (opened (x % 64) before.index) (64 + x % 64) _ (omega arith)) (open_placed (x % 64) known free)

  sub_placed : get_or before.states (x % 64) 0 ≡ 0 → Placed (set before.states (x % 64) 1) before.owners (opened_index 2 x y before.index)
  sub_placed free =
      beyond_placed (beyond_set _ (64 + x % 64) _ (omega arith))
      (beyond_placed (beyond_set (opened (x % 64) before.index) (y % 64) _ (omega arith)) (open_placed (x % 64) known free))

  opens : (eqb code 3 || eqb code 4) ≡ false → ltb code 3 ≡ true → TableStepped (framed code x y) before answer after
  opens t u =
      let below = ltb-true code 3 u in
      let step = opened_steps ok.lists code x y below (rw (t, u) at kept.arrays) in
      with_index step
      (λ z. rw (t, u)
      (by_bool (eqb code 1)
      (λ v. rw v (top_indexed ok.indexed.of_tree ok.lists.table x (rw (eqb-true code 1 v) at step.stepped) z))
      (λ v. let two = second_code code x y below (eqb-false code 1 v) step.stepped z in
      rw v (sub_indexed ok.indexed.of_tree ok.lists.table x y (rw two at step.stepped) z))))
      (λ z. rw (t, u)
      (by_bool (eqb code 1)
      (λ v. let f : OpensTop read_write (view_of (arrays_in before)) x = accepted (open_top x) (rw (eqb-true code 1 v) at step) z in
      rw v (top_placed (was_free f.known f.was_free)))
      (λ v. let two = second_code code x y below (eqb-false code 1 v) step.stepped z in
      let f : OpensSub read_write (view_of (arrays_in before)) x y = accepted (open_sub x y) (rw two at step) z in
      rw v (sub_placed (was_free f.known f.was_free)))))
    where
      was_free : x < 64 → is_free ((view_of (arrays_in before)).state x) ≡ true → get_or before.states (x % 64) 0 ≡ 0
      was_free l free = rw (mod-eq_of_lt l) (eqb-true (get_or before.states x 0) 0 (sym (free_byte 64 (get_or before.states x 0)) ∙ free))

  quiets : eqb code 7 ≡ true → TableStepped (framed code x y) before answer after
  quiets v =
      let seven = eqb-true code 7 v in
      let took : Took (quiet_answer_by x y before) (quieted_by x y before) (arrays_in before) answer (arrays_in after) = rw seven at kept.arrays in
      let step = quieted_steps ok.lists x y
      (record {
        answered = took.answered ∙ quiet_answer_plain bytes sound ok.lists.table.long.parents_long ok.indexed x y;
        left = by_bool (eqb answer 0)
            (λ t. let f = drains (sym took.answered ∙ eqb-true answer 0 t) in
            took.left ∙ rw t (quieted_plain bytes sound ok.lists.table.long.parents_long ok.indexed x y f.0 f.1))
            (λ t. took.left ∙ rw t);
      }) in
      with_index (rw seven step)
      (λ z. rw seven (grouped_indexed (x % 64) _ _ (quieted_indexed ok.indexed.of_tree ok.lists.table x y step.stepped)))
      (λ z. let f = drains (sym took.answered ∙ z) in rw seven (quiet_placed bytes sound ok.lists.table.long.parents_long ok.indexed x y f.0 f.1))
    where
      drains : quiet_answer_by x y before ≡ 0 → (x < 64) × (get_or before.states x 0 ≡ 3 + x)
      drains e = quiet_accepts before.states (stand_at before.owners (group_by before.states before.index x) y) x y e

  -- ---- commit and abort

  abbrev gone : ℕ
  gone = kept.gone

  abbrev up : ℕ
  up = get_or before.parents (x % 64) 0

  ends : (eqb code 3 || eqb code 4) ≡ false → ltb code 3 ≡ false → eqb code 7 ≡ false → TableStepped (framed code x y) before answer after
  ends t u s =
      let above = end_code code t (ltb-false code 3 u) in
      let loud = eqb-false code 7 s in
      let freed = family above loud in
      let took : Took (end_answer code (busy_by before.index x) x before.states) (ended_by code gone x before) (arrays_in before) answer (arrays_in after) = rw (t, u, s) at kept.arrays in
      let accepts : answer ≡ 0 → (x < 64) × (get_or before.states x 0 ≡ 1) = λ z. end_accepts code (busy_by before.index x) x before.states (sym took.answered ∙ z) in
      let step = end_steps ok.lists code (busy_by before.index x) gone x y above loud child freed.family
      (record {
        answered = took.answered;
        left = by_bool (eqb answer 0)
            (λ v. let f = accepts (eqb-true answer 0 v) in
            took.left ∙ rw v (ended_plain bytes sound ok.lists.table.long.parents_long ok.indexed code x gone f.0 f.1 (kept.freed above loud)))
            (λ v. took.left ∙ rw v);
      }) in
      let low_up = low in
      with_index step
      (λ z. let top = top_end_indexed ok.indexed.of_tree ok.lists.table code x y above loud step.stepped z gone freed in
      let sub = sub_end_indexed ok.indexed.of_tree ok.lists.table code x y above loud step.stepped z gone freed in
      rw (t, u, s)
      (by_bool (eqb code 6)
      (λ w. rw w
      (grouped_indexed {index = left_parent gone x up before.index} (x % 64) gone (family_still gone before)
      (by_bool (eqb up 0) (λ v. rw v (top (eqb-true up 0 v))) (λ v. rw (v, le-leb up 64 low) (sub (eqb-false up 0 v) (let some = eqb-false up 0 v in omega arith))))))
      (λ w. rw w
      (by_bool (eqb up 0) (λ v. top (eqb-true up 0 v))
      (λ v. let some = eqb-false up 0 v in rw (nobody_left gone (x % 64) (up - 1) before.index (freed.nobody (rw (w, v)))) at (sub some (omega arith)))))))
      (λ z. let f = accepts z in
      rw (t, u, s) (end_placed bytes sound ok.lists.table.long.parents_long ok.indexed code x gone f.0 f.1 (kept.freed above loud) low))

  pub kept_steps : TableStepped (framed code x y) before answer after
  kept_steps = by_bool (eqb code 3 || eqb code 4) asks (λ t. by_bool (ltb code 3) (opens t) (λ u. by_bool (eqb code 7) quiets (ends t u)))
