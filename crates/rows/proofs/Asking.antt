-- Rows and owners of any bytes, as the code finds them. Assumes nothing.
use Rattle.std.specs.Prelude.{if◌then◌else◌}
use mathlib.Core.Path.{◌≡◌, sym, ◌∙◌, ap}
use mathlib.Core.Bool.{Bool, true, not}
use mathlib.Core.List.{List}
use Prim.Native.Nat.{ℕ, ◌<◌}
use native.Mathlib.Omega.{arith}
use borrow.Author.Tests.{lt-leb, eqb-true}
use lib.Dec.{eqb}
use lib.ListN.{get_or}
use Rattle.sets.specs.Sets.{member, within}
use Rattle.sets.proofs.Laws.{within_at, member_empty}
use Rattle.rules.specs.Tests.{◌⇒◌}
use Rattle.rules.proofs.Tests.{by_bool, clash, implied, all_by}
use Rattle.views.specs.Reach.{waits_for, held_by, all_held}
use Rattle.tables.proofs.Reaching.{reaches_here}
use Rattle.rows.specs.Rows.{commit_row, ask_row, line_for, held_for}

-- ---- owners

-- Owners of the line that is handed over are held in it.
pub within_held : (parents states : List ℕ) (line owners a : ℕ) → within owners line ≡ true → true ≡ held_for parents states line owners a
within_held parents states line owners a h =
    sym (all_by 64 (λ k. member owners k ⇒ held_by parents states (line_for parents line a) k)
    (λ k l. implied (member owners k) (held_by parents states (line_for parents line a) k)
    (λ m. let inside = within_at owners line h k m in
    by_bool (eqb line 0) (λ t. clash (member 0 k) (rw (eqb-true line 0 t) at inside) (member_empty k))
    (λ t. rw t (reaches_here (member line) (waits_for parents states) 63 k inside)))))

-- Lines of the same numbers hold the same owners.
pub same_held : (parents states : List ℕ) (owners : ℕ) (f g : ℕ → Bool) → ((k : ℕ) → f k ≡ g k) → all_held parents states f owners ≡ all_held parents states g owners
same_held parents states owners f g e = ap (λ (t : ℕ → Bool). all_held parents states t owners) (λ j k. e k j)

-- ---- the rows of an ask, where `first` is that of a commit by the same action

module _ (states : List ℕ) (busy : Bool) (a i first : ℕ) (la : a < 64) (li : i < 128) (e : first ≡ commit_row states busy a) where
  -- Who may not commit may not ask, for the same reason.
  pub ask_busy : (held : Bool) → (first ≡ 0 → ⊥) → first ≡ ask_row states busy held a i
  ask_busy held nonzero =
      e
      ∙ rw (lt-leb 64 a la, lt-leb 128 i li)
      (by_bool (eqb (get_or states a 0) 1)
      (λ u. rw u (by_bool busy (λ v. rw v) (λ v. absurd (nonzero (e ∙ rw (lt-leb 64 a la, u, v))))))
      (λ u. rw u))

  -- Who may commit is granted what is held.
  pub ask_last : first ≡ 0 → (held found : Bool) → found ≡ held → (t : Bool) → found ≡ t → (if not t then 6 else 0) ≡ ask_row states busy held a i
  ask_last z held found eh t et =
      rw (lt-leb 64 a la, lt-leb 128 i li, ← eh, et)
      (by_bool (eqb (get_or states a 0) 1)
      (λ u. by_bool busy
      (λ v. let q : 0 ≡ 5 = sym z ∙ e ∙ rw (lt-leb 64 a la, u, v) in absurd (omega arith))
      (λ v. rw (u, v)))
      (λ u. let q : 0 ≡ 4 = sym z ∙ e ∙ rw (lt-leb 64 a la, u) in absurd (omega arith)))
