-- The lines of all numbers, of any bytes: a number's line is itself and that of its parent; and on a sound bench, that they are the actions and their
-- ancestors. Assumes nothing.
use mathlib.Core.Path.{◌≡◌, sym, ◌∙◌, ap}
use mathlib.Core.Bool.{◌||◌}
use mathlib.Core.List.{List}
use mathlib.Core.Option.{some}
use Prim.Native.Nat.{ℕ, suc, ◌+◌, ◌-◌, ◌<◌}
use native.Mathlib.Omega.{arith}
use lib.Dec.{eqb}
use lib.ListN.{length, get_or, set}
use lib.Seq.{get_or-set_same, get_or-set_other}
use Rattle.sets.specs.Sets.{member, with}
use Rattle.sets.proofs.Laws.{member_with}
use Rattle.rules.specs.Owners.{above}
use Rattle.rules.proofs.Tests.{by_or, by_last, same, or_left, or_right}
use Rattle.rules.proofs.SetForm.{eqb_comm}
use Rattle.tables.specs.Tree.{known_up, SoundParents, in_line, met_from}
use Rattle.tables.specs.Reach.{reaches, LinesMet}
use Rattle.tables.proofs.Lines.{met_in_line}
use Rattle.tables.proofs.Named.{up_byte}
use Rattle.tables.proofs.Reaching.{by_reached, reaches_up, reaches_more, reaches_soon, reaches_above}

module _ (n : ℕ) (parents : List ℕ) where
  -- k is met from a where a climb from a reaches it
  met_reaches : (a k : ℕ) → met_from n parents a k ≡ reaches n (λ i. eqb i k) (known_up n parents) a
  met_reaches a k = ap (λ t. t || above n (known_up n parents) k a) (eqb_comm k a) ∙ sym (reaches_above (known_up n parents) k n a)

  counted : (p : ℕ) → p < n → suc (n - 1) ≡ n
  counted p l = omega arith

  -- from a number that has a parent, the number itself is met, and what is met from the parent
  met_parent : (a p k : ℕ) → p < n → known_up n parents a ≡ some p → met_from n parents a k ≡ (met_from n parents p k || eqb k a)
  met_parent a p k lp e =
      same (met_from n parents a k) (met_from n parents p k || eqb k a)
      (λ m.
      by_reached (λ i. eqb i k) (known_up n parents) (n - 1) a (ap (λ c. reaches c (λ i. eqb i k) (known_up n parents) a) (counted p lp) ∙ sym (met_reaches a k) ∙ m)
      (λ here. or_right (met_from n parents p k) (eqb k a) (eqb_comm k a ∙ here))
      (λ q u r.
      let same_parent : q ≡ p = (let both : some q ≡ some p = sym u ∙ e in cc) in
      or_left (met_from n parents p k) (eqb k a) (met_reaches p k ∙ rw (counted p lp) at (reaches_more (λ i. eqb i k) (known_up n parents) (n - 1) p (rw same_parent at r)))))
      (λ m.
      by_or (met_from n parents p k) (eqb k a) m
      (λ r.
      met_reaches a k
      ∙ rw (counted p lp) at (reaches_up (λ i. eqb i k) (known_up n parents) (n - 1) a p e
      (reaches_soon (λ i. eqb i k) (known_up n parents) n (λ j q u. (up_byte n parents j q u).1) p lp (n, sym (met_reaches p k) ∙ r))))
      (or_left (eqb k a) (above n (known_up n parents) k a)))

  -- ---- place by place

  pub lines_met_none : (lines : List ℕ) → LinesMet n parents lines 0
  lines_met_none lines a l = absurd (omega arith)

  -- the line of a number whose parent was passed
  pub line_met : (lines : List ℕ) (new p : ℕ) → new < n → p < new → known_up n parents new ≡ some p → LinesMet n parents lines new → (k : ℕ) →
      member (with n (get_or lines p 0) new) k ≡ met_from n parents new k
  line_met lines new p ln lp e h k = member_with n (get_or lines p 0) new k ln ∙ ap (λ t. t || eqb k new) (h p lp k) ∙ sym (met_parent new p k (omega arith) e)

  pub lines_met_more : (lines : List ℕ) (new line : ℕ) → length lines ≡ n → new < n → LinesMet n parents lines new → ((k : ℕ) → member line k ≡ met_from n parents new k) →
      LinesMet n parents (set lines new line) (new + 1)
  lines_met_more lines new line long ln h e a l k =
      by_last new a (omega arith) (λ q. rw (q, get_or-set_same lines new line 0 (rw long ln)) (e k))
      (λ below. rw (get_or-set_other lines new a line 0 (λ q. absurd (omega arith))) (h a below k))

  -- ---- on a sound bench

  pub lines_sound : SoundParents n parents → (lines : List ℕ) → LinesMet n parents lines n → (a : ℕ) → a < n → (k : ℕ) → member (get_or lines a 0) k ≡ in_line n parents a k
  lines_sound ok lines h a l k = h a l k ∙ met_in_line n parents ok a l k
