-- The first three parts of the index, which tell of the tree: what is read from one, and what a store leaves of all three; and the words of parts as code has them. Assumes nothing.
use mathlib.Core.Path.{◌≡◌, refl, sym, ◌∙◌, ap}
use mathlib.Core.List.{List, ◌∷◌, ◌++◌}
use Prim.Native.Nat.{ℕ, suc, ◌+◌, ◌-◌, ◌<◌}
use native.Mathlib.Omega.{arith}
use lib.ListN.{length, get_or, set, take, drop, length-set, length-append}
use lib.Seq.{take-append_seam, drop-append_seam, take-set-le, take-set-lt, drop-set-lt, drop-set-add, get_or-take, get_or-drop, get_or-set_same, get_or-set_other}
use Rattle.std.proofs.lemmas.List.{get_or_append_left, get_or-append_right, set-append_left, set-append_right}
use Rattle.rules.specs.Bench as rules
use Rattle.views.specs.Index.{Indexed}
use Rattle.index.specs.Tables.{words_of, child_sets, line_sets, running_set, IndexOf}

-- These are the parts of an index.
pub record Parts (index children lines : List ℕ) (running : ℕ) : Type 0 where
  pub long : length index ≡ 257
  pub of_children : child_sets index ≡ children
  pub of_lines : line_sets index ≡ lines
  pub of_running : running_set index ≡ running

pub own_parts : (index : List ℕ) → length index ≡ 257 → Parts index (child_sets index) (line_sets index) (running_set index)
own_parts index long = record { long = long; of_children = refl; of_lines = refl; of_running = refl }

module _ {index children lines : List ℕ} {running : ℕ} (h : Parts index children lines running) where
  -- the index of a bench, by its parts
  pub index_by : {b : rules.Bench} → Indexed b children lines running → IndexOf b index
  index_by i = record { long = h.long; sets = rw (h.of_children, h.of_lines, h.of_running) i }

  -- ---- reads

  pub child_read : (n : ℕ) → n < 64 → get_or index n 0 ≡ get_or children n 0
  child_read n known = sym (get_or-take 64 index n 0 known) ∙ ap (λ (l : List ℕ). get_or l n 0) h.of_children

  pub line_read : (n : ℕ) → n < 64 → get_or index (64 + n) 0 ≡ get_or lines n 0
  line_read n known =
      sym (get_or-take 64 (drop 64 index) n 0 known ∙ get_or-drop 64 index n 0) ∙ ap (λ (l : List ℕ). get_or l n 0) h.of_lines

  -- ---- stores

  pub child_put : (n v : ℕ) → n < 64 → Parts (set index n v) (set children n v) lines running
  child_put n v known =
      record {
        long = length-set index n v ∙ h.long;
        of_children = take-set-lt 64 index n v known ∙ ap (λ (l : List ℕ). set l n v) h.of_children;
        of_lines = ap (take 64) (drop-set-lt 64 index n v known) ∙ h.of_lines;
        of_running = get_or-set_other index n 128 v 0 (λ e. absurd (omega arith)) ∙ h.of_running;
      }

  pub line_put : (n v : ℕ) → n < 64 → Parts (set index (64 + n) v) children (set lines n v) running
  line_put n v known =
      record {
        long = length-set index (64 + n) v ∙ h.long;
        of_children = take-set-le 64 index (64 + n) v (omega arith) ∙ h.of_children;
        of_lines = ap (take 64) (drop-set-add 64 index n v) ∙ take-set-lt 64 (drop 64 index) n v known ∙ ap (λ (l : List ℕ). set l n v) h.of_lines;
        of_running = get_or-set_other index (64 + n) 128 v 0 (λ e. absurd (omega arith)) ∙ h.of_running;
      }

  pub running_put : (v : ℕ) → Parts (set index 128 v) children lines v
  running_put v =
      record {
        long = length-set index 128 v ∙ h.long;
        of_children = take-set-le 64 index 128 v (omega arith) ∙ h.of_children;
        of_lines = ap (take 64) (drop-set-add 64 index 64 v) ∙ take-set-le 64 (drop 64 index) 64 v (omega arith) ∙ h.of_lines;
        of_running = get_or-set_same index 128 v 0 (rw h.long (omega arith));
      }

  -- behind them
  pub beyond_put : (n v : ℕ) → 128 < n → Parts (set index n v) children lines running
  beyond_put n v above =
      record {
        long = length-set index n v ∙ h.long;
        of_children = take-set-le 64 index n v (omega arith) ∙ h.of_children;
        of_lines = ap (λ (at : ℕ). take 64 (drop 64 (set index at v))) there ∙ ap (take 64) (drop-set-add 64 index (n - 64) v) ∙ take-set-le 64 (drop 64 index) (n - 64) v (omega arith) ∙ h.of_lines;
        of_running = get_or-set_other index n 128 v 0 (λ e. absurd (omega arith)) ∙ h.of_running;
      }
    where
      there : n ≡ 64 + (n - 64)
      there = omega arith

-- ---- the words of parts

module _ (children lines : List ℕ) (running : ℕ) (groups places : List ℕ) (children_long : length children ≡ 64) (lines_long : length lines ≡ 64) (groups_long : length groups ≡ 64) where
  -- behind the lines, and behind the children
  abbrev last_of : List ℕ
  last_of = running ∷ (groups ++ places)

  abbrev later : List ℕ
  later = lines ++ last_of

  abbrev words : List ℕ
  words = words_of children lines running groups places

  read_behind : (k n : ℕ) → n ≡ 128 + k → get_or words n 0 ≡ get_or last_of k 0
  read_behind k n e =
      get_or-append_right children later 64 n 0 children_long (omega arith) ∙ get_or-append_right lines last_of 64 (n - 64) 0 lines_long (omega arith)
      ∙ ap (λ (i : ℕ). get_or last_of i 0) (omega arith)

  pub group_read : (k : ℕ) → k < 64 → get_or words (129 + k) 0 ≡ get_or groups k 0
  group_read k known = read_behind (suc k) (129 + k) (omega arith) ∙ get_or_append_left groups places 0 k (rw groups_long known)

  pub place_read : (k : ℕ) → get_or words (193 + k) 0 ≡ get_or places k 0
  place_read k =
      read_behind (suc (64 + k)) (193 + k) (omega arith) ∙ get_or-append_right groups places 64 (64 + k) 0 groups_long (omega arith)
      ∙ ap (λ (i : ℕ). get_or places i 0) (omega arith)

  pub parts_of : length places ≡ 64 → Parts words children lines running
  parts_of places_long =
      record {
        long = omega (arith, length-append children later, length-append lines last_of, length-append groups places);
        of_children = rw (← children_long) (take-append_seam children later);
        of_lines = ap (take 64) front ∙ rw (← lines_long) (take-append_seam lines last_of);
        of_running = read_behind 0 128 (omega arith);
      }
    where
      front : drop 64 words ≡ later
      front = rw (← children_long) (drop-append_seam children later)

  -- ---- stores behind the lines

  put_behind : (k n v : ℕ) → n ≡ 128 + k → set words n v ≡ children ++ (lines ++ set last_of k v)
  put_behind k n v e =
      set-append_right children later 64 n v children_long (omega arith)
      ∙ ap (λ (l : List ℕ). children ++ l)
      (set-append_right lines last_of 64 (n - 64) v lines_long (omega arith) ∙ ap (λ (i : ℕ). lines ++ set last_of i v) (omega arith))

  pub group_put : (k v : ℕ) → k < 64 → set words (129 + k) v ≡ words_of children lines running (set groups k v) places
  group_put k v known =
      put_behind (suc k) (129 + k) v (omega arith) ∙ ap (λ (l : List ℕ). children ++ (lines ++ (running ∷ l))) (set-append_left groups places k v (rw groups_long known))

  pub place_put : (k v : ℕ) → set words (193 + k) v ≡ words_of children lines running groups (set places k v)
  place_put k v =
      put_behind (suc (64 + k)) (193 + k) v (omega arith)
      ∙ ap (λ (l : List ℕ). children ++ (lines ++ (running ∷ l))) (set-append_right groups places 64 (64 + k) v groups_long (omega arith) ∙ ap (λ (i : ℕ). groups ++ set places i v) (omega arith))
