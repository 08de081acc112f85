-- Each request on any arrays and index has one result, and so has the making of the index. Assumes nothing.
use mathlib.Core.Path.{◌≡◌, sym, ◌∙◌, ap}
use mathlib.Core.Bool.{◌||◌}
use mathlib.Core.List.{List}
use Prim.Native.Nat.{ℕ, ◌+◌, ◌-◌, ◌%◌, ◌<◌}
use native.Mathlib.Omega.{arith}
use borrow.Author.Tests.{eqb-true, eqb-false, ltb-true, ltb-false}
use lib.Dec.{eqb, ltb}
use lib.ListN.{length, get_or, take, drop, length-take, get_or-eq_default}
use lib.Seq.{ext_get_or, get_or-take, get_or-drop}
use Rattle.rules.proofs.Tests.{by_bool}
use Rattle.rules.proofs.Frames.{end_code}
use Rattle.views.specs.Arrays.{frees_by}
use Rattle.steps.proofs.Unique.{one_result}
use Rattle.tree.proofs.Unique.{Words, children_unique, lines_unique, running_unique}
use Rattle.index.specs.Tables.{Table, child_sets, line_sets, running_set, arrays_in}
use Rattle.index.specs.Making.{MadeOf}
use Rattle.index.specs.Families.{FreedBy}
use Rattle.index.specs.Kept.{kept_answer, kept_arrays, kept_index, RequestKept}
use Rattle.index.proofs.Families.{one_family}
use Rattle.index.proofs.IndexParts.{own_parts, child_read, line_read}
use Rattle.index.proofs.Making.{children_long, lines_long}

-- ---- requests

freed_unique : (code x : ℕ) (parents index : List ℕ) (one other : ℕ) → FreedBy code x parents index one → FreedBy code x parents index other → one ≡ other
freed_unique code x parents index one other f g =
    by_bool (frees_by code (get_or parents (x % 64) 0)) (λ t. one_family index (x % 64) one other (f.family t) (g.family t))
    (λ t. f.nobody t ∙ sym (g.nobody t))

-- who is freed matters to commits and aborts alone
module _ (code x y : ℕ) (before : Table) (one other : ℕ) (same : 4 < code → (code ≡ 7 → ⊥) → one ≡ other) where
  same_arrays : kept_arrays code x y one before ≡ kept_arrays code x y other before
  same_arrays =
      by_bool (eqb code 3 || eqb code 4) (λ t. rw t)
      (λ t. by_bool (ltb code 3) (λ u. rw (t, u))
      (λ u. by_bool (eqb code 7) (λ v. rw (eqb-true code 7 v)) (λ v. rw (same (end_code code t (ltb-false code 3 u)) (eqb-false code 7 v)))))

  same_index : kept_index code x y one before ≡ kept_index code x y other before
  same_index =
      by_bool (eqb code 3 || eqb code 4) (λ t. rw t)
      (λ t. by_bool (ltb code 3) (λ u. rw (t, u))
      (λ u. by_bool (eqb code 7) (λ v. rw (eqb-true code 7 v)) (λ v. rw (same (end_code code t (ltb-false code 3 u)) (eqb-false code 7 v)))))

pub kept_unique : (code x y : ℕ) (before : Table) (answer answer' : ℕ) (after after' : Table) → RequestKept code x y before answer after → RequestKept code x y before answer' after' →
    (answer ≡ answer') × (after ≡ after')
kept_unique code x y before answer answer' after after' f g =
    let gone : 4 < code → (code ≡ 7 → ⊥) → f.gone ≡ g.gone =
    (λ above loud. freed_unique code x before.parents before.index f.gone g.gone (f.freed above loud) (g.freed above loud)) in
    let both = one_result (kept_answer code x y before) (kept_arrays code x y g.gone before) (arrays_in before) (rw (same_arrays code x y before f.gone g.gone gone) at f.arrays) g.arrays in
    let index : after.index ≡ after'.index = f.index ∙ rw (same_index code x y before f.gone g.gone gone, both.0) (sym g.index) in
    (both.0, λ i. record { parents = (both.1 i).parents; states = (both.1 i).states; owners = (both.1 i).owners; index = index i })

-- ---- the index

-- words that are taken or left are words
taken : (n : ℕ) (l : List ℕ) → Words l → Words (take n l)
taken n l words p =
    by_bool (ltb p n) (λ t. rw (get_or-take n l p 0 (ltb-true p n t)) (words p))
    (λ t. rw (get_or-eq_default (take n l) 0 {n = p} (let high = ltb-false p n t in rw (length-take n l) (omega arith))) (omega arith))

dropped : (n : ℕ) (l : List ℕ) → Words l → Words (drop n l)
dropped n l words p = rw (get_or-drop n l p 0) (words (n + p))

pub made_unique : (parents states one other : List ℕ) → Words one → Words other → MadeOf parents states one → MadeOf parents states other → one ≡ other
made_unique parents states one other fits fits' f g =
    ext_get_or 0 one other (f.long ∙ sym g.long) each
  where
    children : child_sets one ≡ child_sets other
    children =
        children_unique parents (child_sets one) (child_sets other) (taken 64 one fits) (taken 64 other fits')
        (children_long one f.long, f.of_children) (children_long other g.long, g.of_children)

    lines : line_sets one ≡ line_sets other
    lines =
        lines_unique parents (line_sets one) (line_sets other) (taken 64 (drop 64 one) (dropped 64 one fits)) (taken 64 (drop 64 other) (dropped 64 other fits'))
        (lines_long one f.long, f.of_lines) (lines_long other g.long, g.of_lines)

    each : (p : ℕ) → p < length one → get_or one p 0 ≡ get_or other p 0
    each p below =
        by_bool (ltb p 64)
        (λ t. let l = ltb-true p 64 t in
        child_read (own_parts one f.long) p l ∙ ap (λ (w : List ℕ). get_or w p 0) children ∙ sym (child_read (own_parts other g.long) p l))
        (λ t. let high = ltb-false p 64 t in
        by_bool (ltb p 128)
        (λ u. let low = ltb-true p 128 u in
        let at : 64 + (p - 64) ≡ p = omega arith in
        let l : p - 64 < 64 = omega arith in
        rw at at (line_read (own_parts one f.long) (p - 64) l ∙ ap (λ (w : List ℕ). get_or w (p - 64) 0) lines ∙ sym (line_read (own_parts other g.long) (p - 64) l)))
        (λ u. let past = ltb-false p 128 u in
        by_bool (ltb p 129)
        (λ v. let last : p ≡ 128 = (let low = ltb-true p 129 v in omega arith) in
        rw last (running_unique states (running_set one) (running_set other) (fits 128) (fits' 128) f.of_running g.of_running))
        (λ v. let behind = ltb-false p 129 v in
        by_bool (ltb p 193)
        (λ w. let low = ltb-true p 193 w in
        let at : 129 + (p - 129) ≡ p = omega arith in
        rw at at (f.of_groups (p - 129) (omega arith) ∙ sym (g.of_groups (p - 129) (omega arith))))
        (λ w. let high = ltb-false p 193 w in
        let long = f.long in
        let at : 193 + (p - 193) ≡ p = omega arith in
        rw at at (f.of_places (p - 193) (omega arith) ∙ sym (g.of_places (p - 193) (omega arith)))))))
