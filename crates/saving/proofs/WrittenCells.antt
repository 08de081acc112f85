-- What the numbers or the instruments add to the text, written and counted one at a time.
use Rattle.std.specs.Prelude.{if◌then◌else◌, Some, None, is_some, unwrap_or}
use mathlib.Core.Path.{◌≡◌, refl, sym, ◌∙◌, ap}
use mathlib.Core.Bool.{Bool, true, false, not}
use mathlib.Core.List.{List, [], ◌++◌}
use Prim.Native.Nat.{ℕ, zero, suc, ◌+◌, ◌-◌, ◌*◌, ◌<◌, ◌≤◌}
use native.Mathlib.Nat.{add-zero, suc-mul}
use native.Mathlib.Numerals.{add-one}
use native.Mathlib.Omega.{arith}
use lib.ListN.{length, get_or, length-append}
use lib.Seq.{sets, length-sets}
use borrow.Author.Tests.{not-true, not-false}
use Rattle.rules.proofs.Tests.{by_bool}
use Rattle.forms.specs.Kinds.{FrameShape, frame_size, Kind}
use Rattle.forms.specs.Text.{frame, frame_of, cell_of, cells_from}
use Rattle.saving.specs.Written.{Written, values_of}
use Rattle.saving.proofs.WrittenFrames.{sets_append}
use Rattle.forms.proofs.FrameKinds.{frame_length}

-- ---- cells in a row

module _ (cell : ℕ → List ℕ) (n : ℕ) where
  -- the cells that are left of n, from k on, begin with that of k
  pub cells_next : (k : ℕ) → k < n → cells_from cell (n - k) k ≡ cell k ++ cells_from cell (n - (k + 1)) (k + 1)
  unfolding cells_from
  cells_next k l = let e : n - k ≡ suc (n - (k + 1)) = omega arith in rw (e, add-one)

  pub cells_done : (k : ℕ) → k ≡ n → cells_from cell (n - k) k ≡ []
  unfolding cells_from
  cells_done k e = let z : n - k ≡ 0 = omega arith in rw z

-- ---- cells, counted

-- a cell is empty where it is bare, and else has so many bytes
abbrev pub Sized : (ℕ → List ℕ) → (ℕ → Bool) → ℕ → Type 0
Sized cell bare size = (k : ℕ) → length (cell k) ≡ (if bare k then 0 else size)

-- cells that are bare at the same numbers are as long as each other
module _ (cell cell' : ℕ → List ℕ) (bare : ℕ → Bool) (size : ℕ) where
  pub same_long : Sized cell bare size → Sized cell' bare size → (n k : ℕ) → length (cells_from cell n k) ≡ length (cells_from cell' n k)
  unfolding cells_from
  same_long a b zero k = refl
  same_long a b (suc n) k =
      let rest = same_long a b n (suc k) in rw (length-append, length-append, a k, b k) (ap (λ m. (if bare k then 0 else size) + m) rest)

-- The cells below k of n are counted: their length and that of the others make that of all.
pub record Counted (cell : ℕ → List ℕ) (size n k total : ℕ) : Type 0 where
  pub passed : k ≤ n
  pub few : total ≤ k * size
  pub sum : total + length (cells_from cell (n - k) k) ≡ length (cells_from cell n 0)

module _ {cell : ℕ → List ℕ} {size n : ℕ} where
  pub none_counted : Counted cell size n 0 0
  none_counted = let e : n - 0 ≡ n = omega arith in record { passed = omega arith; few = omega arith; sum = rw e (omega arith) }

  module _ {k total : ℕ} (h : Counted cell size n k total) where
    pub one_counted : {more : ℕ} → k < n → more ≤ size → more ≡ length (cell k) → Counted cell size n (k + 1) (total + more)
    one_counted {more} l short here =
        let few : total ≤ k * size = h.few in
        let sum : total + length (cells_from cell (n - k) k) ≡ length (cells_from cell n 0) = h.sum in
        let split = simp length-append at (ap length (cells_next cell n k l)) in
        record { passed = omega arith; few = rw (add-one, suc-mul) (omega arith); sum = omega arith }

    -- all cells are counted
    pub all_counted : n ≤ k → (total ≤ n * size) × (total ≡ length (cells_from cell n 0))
    all_counted l =
        let passed : k ≤ n = h.passed in
        let e : k ≡ n = omega arith in
        (rw e at h.few, (let sum = rw (cells_done cell n k e) at h.sum in omega arith))

-- ---- cells, written

-- The cells below k of n are written, from `from` on: the others, written from `at` on, make all of the text.
pub record CellsLeft (cell : ℕ → List ℕ) (n : ℕ) (before : List ℕ) (from k : ℕ) (out : List ℕ) (at : ℕ) : Type 0 where
  pub passed : k ≤ n
  pub rest : sets out at (cells_from cell (n - k) k) ≡ sets before from (cells_from cell n 0)
  pub ends : at + length (cells_from cell (n - k) k) ≡ from + length (cells_from cell n 0)
  pub long : length out ≡ length before

module _ {cell : ℕ → List ℕ} {n : ℕ} {before : List ℕ} {from : ℕ} where
  pub all_left : CellsLeft cell n before from 0 before from
  all_left = let e : n - 0 ≡ n = omega arith in record { passed = omega arith; rest = rw e; ends = rw e; long = refl }

  module _ {k : ℕ} {out : List ℕ} {at : ℕ} (h : CellsLeft cell n before from k out at) where
    -- the cell of k has room
    pub room_left : k < n → from + length (cells_from cell n 0) ≤ length before → at + length (cell k) ≤ length out
    room_left l room =
        let ends : at + length (cells_from cell (n - k) k) ≡ from + length (cells_from cell n 0) = h.ends in
        let long : length out ≡ length before = h.long in
        let split = simp length-append at (ap length (cells_next cell n k l)) in omega arith

    -- the cell of k is written
    pub one_less : {after : List ℕ} {next : ℕ} → k < n → Written out at (cell k) after next → CellsLeft cell n before from (k + 1) after next
    one_less {after} {next} l w =
        let split = cells_next cell n k l in
        record {
          passed = omega arith;
          rest = rw (w.stored, w.ends, ← sets_append, ← split) h.rest;
          ends =
              (let ends : at + length (cells_from cell (n - k) k) ≡ from + length (cells_from cell n 0) = h.ends in
              let behind : next ≡ at + length (cell k) = w.ends in
              let sum = simp length-append at (ap length split) in omega arith);
          long = rw (w.stored, length-sets) h.long;
        }

    -- all cells are written
    pub none_left : n ≤ k → Written before from (cells_from cell n 0) out at
    none_left l =
        let passed : k ≤ n = h.passed in
        let done = cells_done cell n k (omega arith) in
        record { stored = rw done at h.rest; ends = (let ends = rw done at h.ends in omega arith) }

-- ---- one cell: nothing where it is bare, else a frame

-- the text has no frame of number k
abbrev pub bare_at : Kind → List ℕ → List ℕ → ℕ → Bool
bare_at K xs ys k = K.bare (get_or xs k 0) (get_or ys k 0)

module _ (K : Kind) (xs ys : List ℕ) where
  pub cell_sized : Sized (cell_of K xs ys) (bare_at K xs ys) (frame_size K.shape)
  unfolding cell_of
  cell_sized k =
      let x = get_or xs k 0 in
      let y = get_or ys k 0 in by_bool (K.bare x y) (λ e. rw e) (λ e. rw e (frame_length K k x y))

  module _ (k : ℕ) where
    pub bare_written : {l : List ℕ} {at : ℕ} → bare_at K xs ys k ≡ true → Written l at (cell_of K xs ys k) l at
    unfolding cell_of
    bare_written {l} {at} e = rw e (record { stored = refl; ends = sym (add-zero at) })

    module _ (used : bare_at K xs ys k ≡ false) where
      pub frame_written : {l after : List ℕ} {at next : ℕ}
          → Written l at (frame_of K k (get_or xs k 0) (get_or ys k 0)) after next → Written l at (cell_of K xs ys k) after next
      unfolding cell_of
      frame_written w = rw used w

      -- where there is room for the cell, there is room for its frame
      pub frame_room : (at room : ℕ) → at + length (cell_of K xs ys k) ≤ room → at + frame_size K.shape ≤ room
      frame_room at room h = rw (cell_sized k, used) at h

-- ---- the two values of a frame

module _ (K : Kind) (xs ys : List ℕ) (k : ℕ) where
  -- there are some where the cell isn't bare
  pub some_used : is_some (values_of K xs ys k) ≡ not (bare_at K xs ys k)
  some_used = by_bool (bare_at K xs ys k) (λ e. rw e) (λ e. rw e)

  pub none_bare : values_of K xs ys k ≡ None → bare_at K xs ys k ≡ true
  none_bare h = not-false (bare_at K xs ys k) (sym some_used ∙ ap is_some h)

  pub values_used : {v : ℕ × ℕ} → values_of K xs ys k ≡ Some v → bare_at K xs ys k ≡ false
  values_used h = not-true (bare_at K xs ys k) (sym some_used ∙ ap is_some h)

  -- and they are those of the cell's frame, of whatever shape that is the kind's
  module _ {v : ℕ × ℕ} (said : values_of K xs ys k ≡ Some v) (f : FrameShape) (shaped : f ≡ K.shape) where
    pub values_room : (at room : ℕ) → at + length (cell_of K xs ys k) ≤ room → at + frame_size f ≤ room
    values_room at room h = rw shaped (frame_room K xs ys k (values_used said) at room h)

    pub values_written : {l after : List ℕ} {at next : ℕ} → Written l at (frame f k v.0 v.1) after next → Written l at (cell_of K xs ys k) after next
    values_written {l} {after} {at} {next} w =
        let same : frame f k v.0 v.1 ≡ frame_of K k (get_or xs k 0) (get_or ys k 0) =
        rw shaped (rw (values_used said) at (ap (λ o. let u = unwrap_or o (0, 0) in frame K.shape k u.0 u.1) (sym said))) in
        frame_written K xs ys k (values_used said) (rw same at w)
