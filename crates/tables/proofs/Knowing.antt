-- What an answer has to know of its action, told by the sets that a player keeps beside the arrays; and those sets as they are first made. Assumes nothing.
use mathlib.Core.Path.{◌≡◌, sym, ◌∙◌, ap}
use mathlib.Core.Bool.{true, false, ◌&&◌, ◌||◌, and_comm}
use mathlib.Core.List.{List}
use Prim.Native.Nat.{ℕ, suc, ◌%◌, ◌<◌, ◌^◌}
use native.Mathlib.Nat.{mod-eq_of_lt}
use native.Mathlib.Numerals.{add-one}
use lib.Dec.{eqb}
use lib.ListN.{length, get_or}
use Rattle.sets.specs.Sets.{member, meet}
use Rattle.sets.proofs.Laws.{member_inside}
use Rattle.rules.specs.Tests.{from}
use Rattle.rules.specs.Bench.{Shape, Bench, is_free, is_running}
use Rattle.rules.specs.Owners.{is_child, is_ancestor, is_asker_or_ancestor, has_running_child}
use Rattle.rules.specs.Sound.{sound}
use Rattle.rules.proofs.Tests.{by_parent, from_cong}
use Rattle.rules.proofs.Facts.{tree_in_use, SoundNumber, sound_facts}
use Rattle.rules.proofs.Walks.{climb, ancestor_none, ancestor_up}
use Rattle.tables.specs.Table.{parent_of}
use Rattle.tables.specs.Tree.{tree, tree_shape, tree_state_of, SoundTree, in_line}
use Rattle.tables.specs.Index.{ChildSets, LineSets, RunningSet, Indexed, KnowsChild, KnowsLine}
use Rattle.tables.proofs.ViewLaws.{child_byte}
use Rattle.tables.proofs.States.{tree_running_byte}
use Rattle.tables.proofs.Members.{meet_any}
use Rattle.rules.proofs.SetForm.{eqb_comm}

module _ (sh : Shape) (b : Bench) (ok : sound sh b ≡ true) where
  abbrev n : ℕ
  n = sh.actions

  facts : (k : ℕ) → k < n → SoundNumber sh b k
  facts = sound_facts sh b ok

  -- a number and its ancestors: itself, and its parent's
  line_step : (k x : ℕ) → k < n → is_asker_or_ancestor sh b k x ≡ (eqb x k || from (b.parent k) false (λ p. is_asker_or_ancestor sh b p x))
  unfolding is_asker_or_ancestor
  line_step k x lk =
      ap (λ t. eqb x k || t)
      (by_parent (b.parent k) (λ e. rw e (ancestor_none sh b ok x k e))
      (λ p e. rw e (ancestor_up sh b ok x k p lk e ∙ ap (λ t. t || is_ancestor sh b x p) (eqb_comm p x))))

  -- ---- what an answer has to know

  -- the set at the place of a number that isn't free is that number with its ancestors
  pub line_known : (lines : List ℕ) → LineSets n b lines → (a : ℕ) → a < n → is_free (b.state a) ≡ false → (k : ℕ) → member (get_or lines a 0) k ≡ is_asker_or_ancestor sh b a k
  line_known lines h =
      climb sh b ok (λ a. is_free (b.state a) ≡ false → (k : ℕ) → member (get_or lines a 0) k ≡ is_asker_or_ancestor sh b a k)
      (λ a la e u k. rw (line_step a k la, e) (rw e at (h.each a k la u)))
      (λ a p la lp e above u k. rw (line_step a k la, e, ← above (tree_in_use (b.state p) ((facts a la).parent_in_tree p e)) k) (rw e at (h.each a k la u)))

  -- A number's children and the running numbers have one in common exactly if it has a running child, where those that they have in common are of the table.
  busy_by : (children : List ℕ) (runs : ℕ) → ChildSets n b children → RunningSet n b runs → (a : ℕ) → a < n → is_free (b.state a) ≡ false →
      ((k : ℕ) → member (get_or children a 0) k ≡ true → member runs k ≡ true → k < n) → meet (get_or children a 0) runs ≡ has_running_child sh b a
  unfolding has_running_child
  busy_by children runs c r a la u small =
      meet_any n (get_or children a 0) runs (λ k. is_running (b.state k) && is_child b a k) small
      (λ k lk. rw (c.each a k la lk u, r k lk) (and_comm (is_child b a k) (is_running (b.state k))))

  -- They are where either of the two is a word of n digits.
  pub busy_known : (children : List ℕ) (runs : ℕ) → ChildSets n b children → RunningSet n b runs → (a : ℕ) → a < n → is_free (b.state a) ≡ false →
      get_or children a 0 < 2 ^ n → meet (get_or children a 0) runs ≡ has_running_child sh b a
  busy_known children runs c r a la u fits = busy_by children runs c r a la u (λ k m new. member_inside n (get_or children a 0) k fits m)

  pub busy_known_running : (children : List ℕ) (runs : ℕ) → ChildSets n b children → RunningSet n b runs → (a : ℕ) → a < n → is_free (b.state a) ≡ false → runs < 2 ^ n →
      meet (get_or children a 0) runs ≡ has_running_child sh b a
  busy_known_running children runs c r a la u fits = busy_by children runs c r a la u (λ k m new. member_inside n runs k fits new)

-- ---- the same of bytes

-- a number's line, as bytes tell it
pub line_known_bytes : (n : ℕ) (parents states : List ℕ) → SoundTree n parents states → (lines : List ℕ) → LineSets n (tree parents states) lines → (a : ℕ) → a < n →
    is_free (tree_state_of (get_or states a 0)) ≡ false → (k : ℕ) → member (get_or lines a 0) k ≡ in_line n parents a k
unfolding is_asker_or_ancestor is_ancestor
line_known_bytes n parents states ok lines h a la u k = line_known (tree_shape n) (tree parents states) ok lines h a la u k

-- what an answer has to know of a number that runs, from the sets at its place
module _ (n : ℕ) (parents states : List ℕ) (ok : SoundTree n parents states) (children lines : List ℕ) (runs : ℕ)
    (h : Indexed n (tree parents states) children lines runs) (x : ℕ) where
  pub knows_child : runs < 2 ^ n → KnowsChild n parents states x (meet (get_or children (x % n) 0) runs)
  knows_child fits l r =
      rw (mod-eq_of_lt l) (busy_known_running (tree_shape n) (tree parents states) ok children runs h.of_children h.of_running x l (rw r) fits)

  pub knows_line : KnowsLine n parents states x (get_or lines (x % n) 0)
  knows_line nonempty l r k = rw (mod-eq_of_lt l) (line_known_bytes n parents states ok lines h.of_lines x l (rw r) k)

-- the sets as they are first made
pub indexed_built : (n : ℕ) (parents states : List ℕ) → SoundTree n parents states → (children lines : List ℕ) (runs : ℕ) →
    (length children ≡ n) × ((p k : ℕ) → p < n → k < n → member (get_or children p 0) k ≡ eqb (get_or parents k 0) (suc p)) →
    (length lines ≡ n) × ((a : ℕ) → a < n → (k : ℕ) → member (get_or lines a 0) k ≡ in_line n parents a k) → ((k : ℕ) → k < n → member runs k ≡ eqb (get_or states k 0) 1) →
    Indexed n (tree parents states) children lines runs
unfolding is_asker_or_ancestor is_ancestor
indexed_built n parents states ok children lines runs c l r =
    record {
      of_children = record { long = c.0; each = λ p k lp lk u. c.1 p k lp lk ∙ rw (← add-one p) (sym (child_byte (get_or parents k 0) p)) };
      of_lines = record {
        long = l.0;
        each = λ k x lk u.
            l.1 k lk x
            ∙ line_step (tree_shape n) (tree parents states) ok k x lk
            ∙ ap (λ t. eqb x k || t)
            (from_cong (parent_of (get_or parents k 0)) false (λ p t. t) (λ p. in_line n parents p x) (λ p. member (get_or lines p 0) x)
            (λ p e. sym (l.1 p ((facts (tree_shape n) (tree parents states) ok k lk).parent_known p e) x)));
      };
      of_running = λ k lk. r k lk ∙ sym (tree_running_byte (get_or states k 0));
    }
