-- Going up from a number by parents' bytes, of any bytes: the line of a number, gathered from the number upward; and on a sound bench, that it is the
-- asker and its ancestors.
use mathlib.Core.Path.{◌≡◌, refl, sym, ◌∙◌, ap}
use mathlib.Core.Bool.{Bool, false, ◌||◌, or-false, or_assoc}
use mathlib.Core.List.{List}
use mathlib.Core.Option.{none, some}
use Prim.Native.Nat.{ℕ, zero, suc, ◌-◌, ◌%◌, ◌≤◌, ◌<◌}
use native.Mathlib.Nat.{mod-eq_of_lt}
use native.Mathlib.Omega.{arith}
use borrow.Author.Tests.{le-leb, lt-leb}
use lib.Dec.{eqb}
use lib.ListN.{get_or}
use Rattle.sets.specs.Sets.{member, with}
use Rattle.sets.proofs.Laws.{member_empty, member_with}
use Rattle.rules.specs.Owners.{above}
use Rattle.rules.proofs.Tests.{from_cong}
use Rattle.rules.proofs.Facts.{sound_facts}
use Rattle.rules.proofs.SetForm.{eqb_comm}
use Rattle.tables.specs.Table.{parent_of}
use Rattle.tables.specs.Tree.{up_of, tree, SoundParents, in_line, known_up, met_from, tree_shape}

pub predecessor : (n : ℕ) → (n ≡ 0 → ⊥) → n ≡ suc (n - 1)
predecessor n h = omega arith

module _ (n : ℕ) (parents : List ℕ) where
  -- ---- what a byte names

  pub no_parent : (x : ℕ) → get_or parents x 0 ≡ 0 → known_up n parents x ≡ none
  no_parent x e = rw (e, le-leb 0 n (omega arith))

  pub unknown_parent : (x : ℕ) → n < get_or parents x 0 → known_up n parents x ≡ none
  unknown_parent x h = rw (lt-leb (get_or parents x 0) n h)

  pub known_parent : (x : ℕ) → (get_or parents x 0 ≡ 0 → ⊥) → get_or parents x 0 ≤ n → known_up n parents x ≡ some (get_or parents x 0 - 1)
  known_parent x more h = rw (le-leb (get_or parents x 0) n h) (ap parent_of (predecessor (get_or parents x 0) more))

  -- ---- the line of a, gathered

  -- k is x or is met going up from it, within `left` numbers
  abbrev met_within : ℕ → ℕ → ℕ → Bool
  met_within zero x k = false
  met_within (suc left) x k = eqb k x || above left (known_up n parents) k x

  -- A set and what is left to meet from x on, within `left` numbers, are together the line of a.
  pub record Lined (a line x left : ℕ) : Type 0 where
    pub known : x < n
    pub together : (k : ℕ) → (member line k || met_within left x k) ≡ met_from n parents a k

  pub line_start : (a : ℕ) → a < n → Lined a 0 a (suc n)
  line_start a l = record { known = l; together = λ k. rw (member_empty k) }

  module _ (a line x left : ℕ) (more : left ≡ 0 → ⊥) (h : Lined a line x left) where
    -- x has joined the set, and the numbers above it are left
    joined : (k : ℕ) → (member (with n line x) k || above (left - 1) (known_up n parents) k x) ≡ met_from n parents a k
    joined k =
        rw (member_with n line x k h.known)
        (or_assoc (member line k) (eqb k x) (above (left - 1) (known_up n parents) k x)
        ∙ sym (ap (λ m. member line k || met_within m x k) (predecessor left more))
        ∙ h.together k)

    pub line_ends : known_up n parents x ≡ none → (k : ℕ) → member (with n line x) k ≡ met_from n parents a k
    unfolding above
    line_ends top k = sym (or-false (member (with n line x) k)) ∙ sym (ap (λ t. member (with n line x) k || t) (none_above (left - 1))) ∙ joined k
      where
        none_above : (m : ℕ) → above m (known_up n parents) k x ≡ false
        none_above zero = refl
        none_above (suc m) = rw top

    pub line_turn : (p : ℕ) → known_up n parents x ≡ some p → p < n → Lined a (with n line x) p (left - 1)
    unfolding above
    line_turn p up l = record { known = l; together = λ k. sym (ap (λ t. member (with n line x) k || t) (from_parent (left - 1) k)) ∙ joined k }
      where
        from_parent : (m k : ℕ) → above m (known_up n parents) k x ≡ met_within m p k
        from_parent zero k = refl
        from_parent (suc m) k = rw (up, eqb_comm p k)

  pub line_end : (a line x left : ℕ) → left ≡ 0 → Lined a line x left → (k : ℕ) → member line k ≡ met_from n parents a k
  line_end a line x left e h k = sym (or-false (member line k)) ∙ sym (ap (λ m. member line k || met_within m x k) e) ∙ h.together k

-- ---- on a sound bench

module _ (n : ℕ) (parents : List ℕ) (ok : SoundParents n parents) where
  -- a parent's byte is 0 or one more than a number
  pub parent_known : (x : ℕ) → x < n → get_or parents x 0 ≤ n
  parent_known x l = by_byte (get_or parents x 0) refl
    where
      by_byte : (up : ℕ) → get_or parents x 0 ≡ up → up ≤ n
      by_byte zero e = omega arith
      by_byte (suc p) e = (sound_facts (tree_shape n) (tree parents ok.0) ok.1 x l).parent_known p (rw e)

  -- so every number's parent is a known one
  pub up_known : (x : ℕ) → x < n → known_up n parents x ≡ up_of parents x
  up_known x l = rw (le-leb (get_or parents x 0) n (parent_known x l))

  -- what is met going up from a is a or one of its ancestors
  pub met_in_line : (a : ℕ) → a < n → (k : ℕ) → met_from n parents a k ≡ in_line n parents a k
  unfolding above
  met_in_line a l k = ap (λ t. eqb k a || t) (within n a l)
    where
      within : (left x : ℕ) → x < n → above left (known_up n parents) k x ≡ above left (up_of parents) k x
      within zero x lx = refl
      within (suc left) x lx =
          rw (up_known x lx)
          (from_cong (up_of parents x) false (λ p t. eqb p k || t) (above left (known_up n parents) k) (above left (up_of parents) k)
          (λ p e. within left p ((sound_facts (tree_shape n) (tree parents ok.0) ok.1 x lx).parent_known p e)))

  -- so a climb from a number gathers its line
  pub climbed_line : (a line : ℕ) → ((k : ℕ) → member line k ≡ met_from n parents (a % n) k) → a < n → (k : ℕ) → member line k ≡ in_line n parents a k
  climbed_line a line climbed l k = climbed k ∙ rw (mod-eq_of_lt l) (met_in_line a l k)
