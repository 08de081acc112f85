-- What a state's byte says to the tests of the rules, in a table of n actions and in its tree, where a number that drains reads as free. Assumes nothing.
use mathlib.Core.Path.{◌≡◌, refl, sym, ◌∙◌}
use mathlib.Core.Bool.{true, false, not, ◌||◌}
use mathlib.Core.Option.{none, some, none-ne-some, some-injective}
use Prim.Native.Nat.{ℕ, zero, suc, ◌+◌, ◌<◌}
use native.Mathlib.Omega.{arith}
use borrow.Author.Tests.{ltb-true, lt-ltb, eqb-true, eq-eqb, ne_eqb}
use lib.Dec.{eqb, ltb, eqb-suc-zero}
use Rattle.rules.specs.Tests.{from}
use Rattle.rules.specs.Bench.{State, free, running, committed, draining, meaningless, is_free, is_running, is_committed, head_of, in_tree}
use Rattle.rules.specs.Sound.{means_something}
use Rattle.rules.proofs.Tests.{by_bool, clash, same}
use Rattle.tables.specs.Table.{state_of}
use Rattle.tables.specs.Tree.{tree_state_of, rooted}

-- ---- in the tree

pub tree_running_byte : (s : ℕ) → is_running (tree_state_of s) ≡ eqb s 1
tree_running_byte zero = refl
tree_running_byte (suc zero) = refl
tree_running_byte (suc (suc zero)) = refl
tree_running_byte (suc (suc (suc h))) = sym (ne_eqb (suc (suc (suc h))) 1 (λ e. absurd (omega arith)))

pub tree_byte : (s : ℕ) → in_tree (tree_state_of s) ≡ (eqb s 1 || eqb s 2)
tree_byte zero = refl
tree_byte (suc zero) = refl
tree_byte (suc (suc zero)) = refl
tree_byte (suc (suc (suc h))) = sym (rw (ne_eqb (suc (suc (suc h))) 1 (λ e. absurd (omega arith)), ne_eqb (suc (suc (suc h))) 2 (λ e. absurd (omega arith))))

-- what isn't free is in it, and nothing in it drains or is without a meaning
pub tree_free : (s : ℕ) → is_free (tree_state_of s) ≡ not (in_tree (tree_state_of s))
tree_free zero = refl
tree_free (suc zero) = refl
tree_free (suc (suc zero)) = refl
tree_free (suc (suc (suc h))) = refl

pub tree_headless : (s : ℕ) → head_of (tree_state_of s) ≡ none
tree_headless zero = refl
tree_headless (suc zero) = refl
tree_headless (suc (suc zero)) = refl
tree_headless (suc (suc (suc h))) = refl

pub tree_means : (s : ℕ) → means_something (tree_state_of s) ≡ true
tree_means zero = refl
tree_means (suc zero) = refl
tree_means (suc (suc zero)) = refl
tree_means (suc (suc (suc h))) = refl

-- ---- in the table and in its tree

module _ (n : ℕ) where
  -- what a test says of a byte above 2, where it says the same of a number that drains and of one whose byte means nothing
  above_two : {A : Type 0} (test : State → A) (said : A) (h : ℕ) → test (draining h) ≡ said → test (meaningless h) ≡ said → test (state_of n (suc (suc (suc h)))) ≡ said
  above_two test said h d m = by_bool (ltb h n) (λ t. rw t d) (λ t. rw t m)

  pub tree_state : (s : ℕ) → tree_state_of s ≡ rooted (state_of n s)
  tree_state zero = refl
  tree_state (suc zero) = refl
  tree_state (suc (suc zero)) = refl
  tree_state (suc (suc (suc h))) = sym (above_two rooted free h refl refl)

  pub tree_runs : (s : ℕ) → is_running (tree_state_of s) ≡ is_running (state_of n s)
  tree_runs zero = refl
  tree_runs (suc zero) = refl
  tree_runs (suc (suc zero)) = refl
  tree_runs (suc (suc (suc h))) = sym (above_two is_running false h refl refl)

  pub tree_committed : (s : ℕ) → is_committed (tree_state_of s) ≡ is_committed (state_of n s)
  tree_committed zero = refl
  tree_committed (suc zero) = refl
  tree_committed (suc (suc zero)) = refl
  tree_committed (suc (suc (suc h))) = sym (above_two is_committed false h refl refl)

  -- what is in the tree of bytes is in that of the rules, and also the other way where the byte means something
  pub tree_shown : (s : ℕ) → in_tree (tree_state_of s) ≡ true → in_tree (state_of n s) ≡ true
  tree_shown zero u = u
  tree_shown (suc zero) u = refl
  tree_shown (suc (suc zero)) u = refl
  tree_shown (suc (suc (suc h))) u = clash false u refl

  pub shown_tree : (s : ℕ) → means_something (state_of n s) ≡ true → in_tree (state_of n s) ≡ true → in_tree (tree_state_of s) ≡ true
  shown_tree zero m u = u
  shown_tree (suc zero) m u = refl
  shown_tree (suc (suc zero)) m u = refl
  shown_tree (suc (suc (suc h))) m u = by_bool (ltb h n) (λ t. clash false (rw t at u) refl) (λ t. clash false (rw t at m) refl)

  -- ---- in the table

  pub free_byte : (s : ℕ) → is_free (state_of n s) ≡ eqb s 0
  free_byte zero = refl
  free_byte (suc zero) = refl
  free_byte (suc (suc zero)) = refl
  free_byte (suc (suc (suc h))) = above_two is_free false h refl refl ∙ sym (eqb-suc-zero (suc (suc h)))

  pub running_byte : (s : ℕ) → is_running (state_of n s) ≡ eqb s 1
  running_byte s = sym (tree_runs s) ∙ tree_running_byte s

  -- so the byte of a running number is 1
  pub runs_byte : (s : ℕ) → is_running (state_of n s) ≡ true → s ≡ 1
  runs_byte s h = eqb-true s 1 (sym (running_byte s) ∙ h)

  pub committed_byte : (s : ℕ) → is_committed (state_of n s) ≡ eqb s 2
  committed_byte zero = refl
  committed_byte (suc zero) = refl
  committed_byte (suc (suc zero)) = refl
  committed_byte (suc (suc (suc h))) = above_two is_committed false h refl refl ∙ sym (ne_eqb (suc (suc (suc h))) 2 (λ e. absurd (omega arith)))

  pub means_byte : (s : ℕ) → means_something (state_of n s) ≡ ltb s (3 + n)
  means_byte zero = sym (lt-ltb 0 (3 + n) (omega arith))
  means_byte (suc zero) = sym (lt-ltb 1 (3 + n) (omega arith))
  means_byte (suc (suc zero)) = sym (lt-ltb 2 (3 + n) (omega arith))
  means_byte (suc (suc (suc h))) =
      same (means_something (state_of n (suc (suc (suc h))))) (ltb (suc (suc (suc h))) (3 + n))
      (λ m. by_bool (ltb h n) (λ t. let l = ltb-true h n t in lt-ltb (suc (suc (suc h))) (3 + n) (omega arith)) (λ t. clash false (rw t at m) refl))
      (λ t. let l = ltb-true (suc (suc (suc h))) (3 + n) t in rw (lt-ltb h n (omega arith)))

  -- ---- those that drain

  pub draining_byte : (h : ℕ) → h < n → state_of n (3 + h) ≡ draining h
  draining_byte h l = let e : 3 + h ≡ suc (suc (suc h)) = omega arith in rw (e, lt-ltb h n l)

  -- a head is one of the table's numbers, and the byte names it
  pub head_byte : (s h : ℕ) → head_of (state_of n s) ≡ some h → (s ≡ 3 + h) × (h < n)
  head_byte zero h e = absurd (none-ne-some h e)
  head_byte (suc zero) h e = absurd (none-ne-some h e)
  head_byte (suc (suc zero)) h e = absurd (none-ne-some h e)
  head_byte (suc (suc (suc x))) h e =
      by_bool (ltb x n)
      (λ t. let same = some-injective x h (rw t at e) in let l = ltb-true x n t in (omega arith, omega arith))
      (λ t. absurd (none-ne-some h (rw t at e)))

  pub byte_head : (s h : ℕ) → h < n → s ≡ 3 + h → head_of (state_of n s) ≡ some h
  byte_head s h l e = rw (e, draining_byte h l)

  -- who drains under h has the byte 3 + h
  pub under_byte : (s h : ℕ) → h < n → from (head_of (state_of n s)) false (λ x. eqb x h) ≡ eqb s (3 + h)
  under_byte s h l = by_byte s
    where
      outside : (s : ℕ) → s < 3 → head_of (state_of n s) ≡ none → from (head_of (state_of n s)) false (λ x. eqb x h) ≡ eqb s (3 + h)
      outside s low e = rw e (sym (ne_eqb s (3 + h) (λ q. absurd (omega arith))))

      by_byte : (s : ℕ) → from (head_of (state_of n s)) false (λ x. eqb x h) ≡ eqb s (3 + h)
      by_byte zero = outside 0 (omega arith) refl
      by_byte (suc zero) = outside 1 (omega arith) refl
      by_byte (suc (suc zero)) = outside 2 (omega arith) refl
      by_byte (suc (suc (suc x))) =
          same (from (head_of (state_of n (suc (suc (suc x))))) false (λ y. eqb y h)) (eqb (suc (suc (suc x))) (3 + h))
          (λ u. by_bool (ltb x n)
          (λ t. let q = eqb-true x h (rw t at u) in eq-eqb (suc (suc (suc x))) (3 + h) (omega arith))
          (λ t. clash false (rw t at u) refl))
          (λ u. let q = eqb-true (suc (suc (suc x))) (3 + h) u in
          let same : x ≡ h = omega arith in
          rw (same, lt-ltb h n l) (eq-eqb h h refl))

-- who drains has left the tree
pub rooted_headed : (s : State) (h : ℕ) → head_of s ≡ some h → rooted s ≡ free
rooted_headed free h e = refl
rooted_headed running h e = absurd (none-ne-some h e)
rooted_headed committed h e = absurd (none-ne-some h e)
rooted_headed (draining x) h e = refl
rooted_headed (meaningless x) h e = refl
