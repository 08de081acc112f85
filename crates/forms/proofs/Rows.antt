-- Cells in a row: n cells of a kind, written from two arrays, are taken as those arrays; and the arrays taken from a text write the cells that stood
-- there. Both inductions follow the recursion of cells_from and take_from, and say what is left of the text.
use mathlib.Core.Path.{◌≡◌, refl, sym, ◌∙◌, ap}
use mathlib.Core.Bool.{Bool, true, false}
use mathlib.Core.List.{List, ◌∷◌, ◌++◌, append_assoc, append-nil}
use Prim.Native.Nat.{ℕ, zero, suc, ◌+◌, ◌*◌, ◌≤◌, ◌<◌}
use native.Mathlib.Nat.{add-zero, zero-add, add_assoc, suc-mul}
use native.Mathlib.Omega.{arith}
use borrow.Author.Tests.{eqb-true, eqb-false}
use lib.Dec.{eqb}
use lib.ListN.{length, get_or, take, drop, set, replicate, length-append, length-set}
use lib.Seq.{take-suc, take_all, length-take-le, append_snoc, set_at, get_or-set_same, get_or-set_other}
use Rattle.rules.proofs.Tests.{by_bool}
use Rattle.forms.specs.Kinds.{frame_size, Kind}
use Rattle.forms.specs.Text.{frame_of, cell_of, cells_from}
use Rattle.forms.specs.WellShaped.{stands_at, first_in, second_in, Taken, take_of, take_from, none_taken}
use Rattle.forms.proofs.Hex.{past}
use Rattle.forms.proofs.FrameKinds.{Laws, frame_length, frame_reads, frame_says, frame_writes, frame_other}

-- ---- an array filled up to k

abbrev filled : List ℕ → ℕ → ℕ → List ℕ
filled xs k n = take k xs ++ replicate n 0

fill_more : (xs : List ℕ) (k n : ℕ) → k < length xs → filled xs (suc k) n ≡ take k xs ++ (get_or xs k 0 ∷ replicate n 0)
fill_more xs k n l = ap (λ l. l ++ replicate n 0) (take-suc xs k 0 l) ∙ append_snoc (take k xs) (get_or xs k 0) (replicate n 0)

fill_set : (xs : List ℕ) (k n : ℕ) → k < length xs → set (filled xs k (suc n)) k (get_or xs k 0) ≡ filled xs (suc k) n
fill_set xs k n l =
    set_at (take k xs) 0 (replicate n 0) (get_or xs k 0) k (length-take-le k xs (omega arith)) ∙ sym (fill_more xs k n l)

-- a zero is there before it is filled in
fill_zero : (xs : List ℕ) (k n : ℕ) → k < length xs → get_or xs k 0 ≡ 0 → filled xs k (suc n) ≡ filled xs (suc k) n
fill_zero xs k n l z = sym (fill_more xs k n l ∙ rw z)

fill_all : (xs : List ℕ) (k : ℕ) → k + 0 ≡ length xs → filled xs k 0 ≡ xs
fill_all xs k e = append-nil (take k xs) ∙ take_all k xs (omega arith)

-- ---- cells, taken

module _ (K : Kind) {Shaped : ℕ → ℕ → Type 0} (laws : Laws K Shaped) (xs ys : List ℕ) where
  -- A test fails at the start of a row if it fails where any frame of the row stands, and where what is behind the row stands.
  pub row_refutes : (t : Bool) (text rest : List ℕ) (at n k : ℕ) → ((j : ℕ) (r : List ℕ) → k ≤ j → j < k + n → drop at text ≡ frame_of K j (get_or xs j 0) (get_or ys j 0) ++ r → t ≡ false) → (drop at text ≡ rest → t ≡ false) → drop at text ≡ cells_from (cell_of K xs ys) n k ++ rest → t ≡ false
  unfolding cells_from cell_of
  row_refutes t text rest at zero k frames behind e = behind e
  row_refutes t text rest at (suc n) k frames behind e =
      by_bool (K.bare (get_or xs k 0) (get_or ys k 0))
      (λ b. row_refutes t text rest at n (suc k) (λ j r l u. frames j r (omega arith) (omega arith)) behind (rw b at e))
      (λ b. frames k (cells_from (cell_of K xs ys) n (suc k) ++ rest) (omega arith) (omega arith)
      ((rw b at e) ∙ append_assoc (frame_of K k (get_or xs k 0) (get_or ys k 0)) (cells_from (cell_of K xs ys) n (suc k)) rest))

  cell_short : (k : ℕ) → length (cell_of K xs ys k) ≤ frame_size K.shape
  unfolding cell_of
  cell_short k =
      by_bool (K.bare (get_or xs k 0) (get_or ys k 0)) (λ b. rw b (omega arith))
      (λ b. rw (b, frame_length K k (get_or xs k 0) (get_or ys k 0)) (omega arith))

  -- Each cell adds at most a frame.
  pub row_short : (n k : ℕ) → length (cells_from (cell_of K xs ys) n k) ≤ n * frame_size K.shape
  unfolding cells_from
  row_short zero k = omega arith
  row_short (suc n) k =
      rw (length-append (cell_of K xs ys k) (cells_from (cell_of K xs ys) n (suc k)), suc-mul n (frame_size K.shape))
      (omega (arith, cell_short k, row_short n (suc k)))

  module _ (text rest : List ℕ) (few : length xs ≤ 256) (long : length xs ≡ length ys)
      (shaped : (j : ℕ) → j < length xs → Shaped (get_or xs j 0) (get_or ys j 0))
      (ends : (at j : ℕ) → drop at text ≡ rest → stands_at K text at j ≡ false) where
    -- one number's turn
    turn : (n k at : ℕ) → k + suc n ≡ length xs → drop at text ≡ cell_of K xs ys k ++ (cells_from (cell_of K xs ys) n (suc k) ++ rest) → take_of K text k (record { at = at; first = filled xs k (suc n); second = filled ys k (suc n) }) ≡ record { at = at + length (cell_of K xs ys k); first = filled xs (suc k) n; second = filled ys (suc k) n }
    unfolding cell_of
    turn n k at size e =
        by_bool (K.bare x y)
        (λ b.
        let zeros = laws.bare_zeros x y (shaped k (omega arith)) b in
        rw (away b, b)
        (λ i. record { at = sym (add-zero at) i; first = fill_zero xs k n (omega arith) zeros.0 i; second = fill_zero ys k n (omega arith) zeros.1 i }))
        (λ b.
        let said = frame_reads K laws text (cells_from (cell_of K xs ys) n (suc k) ++ rest) at k x y (omega arith) (shaped k (omega arith)) b (rw b at e) in
        rw (said.stands, said.first_read, said.second_read, b)
        (λ i. record { at = at + sym (frame_length K k x y) i; first = fill_set xs k n (omega arith) i; second = fill_set ys k n (omega arith) i }))
      where
        x : ℕ
        x = get_or xs k 0

        y : ℕ
        y = get_or ys k 0

        -- a number with no frame: none of its own stands there, since the next one's or what is behind the row does
        away : K.bare x y ≡ true → stands_at K text at k ≡ false
        away b =
            row_refutes (stands_at K text at k) text rest at n (suc k)
            (λ j r l u. frame_other K laws K text r at j (get_or xs j 0) (get_or ys j 0) k (omega arith) (λ same here. omega arith))
            (ends at k)
            (rw b at e)

    row_taken : (n k at : ℕ) → k + n ≡ length xs → drop at text ≡ cells_from (cell_of K xs ys) n k ++ rest → take_from (take_of K text) n k (record { at = at; first = filled xs k n; second = filled ys k n }) ≡ record { at = at + length (cells_from (cell_of K xs ys) n k); first = xs; second = ys }
    unfolding cells_from take_from
    row_taken zero k at size e =
        λ i. record { at = sym (add-zero at) i; first = fill_all xs k size i; second = fill_all ys k (size ∙ long) i }
    row_taken (suc n) k at size e =
        let cell = cell_of K xs ys k in
        let cells = cells_from (cell_of K xs ys) n (suc k) in
        let here = e ∙ append_assoc cell cells rest in
        ap (take_from (take_of K text) n (suc k)) (turn n k at size here)
        ∙ row_taken n (suc k) (at + length cell) (omega arith) (past text cell (cells ++ rest) at here)
        ∙ rw (length-append cell cells, add_assoc at (length cell) (length cells))

    -- A whole row is taken as the arrays that it was written from.
    pub row_said : (n at : ℕ) → n ≡ length xs → drop at text ≡ cells_from (cell_of K xs ys) n 0 ++ rest → take_from (take_of K text) n 0 (none_taken n at) ≡ record { at = at + length (cells_from (cell_of K xs ys) n 0); first = xs; second = ys }
    row_said n at size e = row_taken n 0 at (zero-add n ∙ size) e

-- ---- what is taken, written

-- n numbers from k on are still to be taken: the arrays are long enough, and zero from k on
pub record Untaken (n k : ℕ) (t : Taken) : Type 0 where
  pub first_long : k + n ≤ length t.first
  pub second_long : k + n ≤ length t.second
  pub first_zeros : (j : ℕ) → k ≤ j → get_or t.first j 0 ≡ 0
  pub second_zeros : (j : ℕ) → k ≤ j → get_or t.second j 0 ≡ 0

module _ (K : Kind) {Shaped : ℕ → ℕ → Type 0} (laws : Laws K Shaped) (text : List ℕ) where
  -- taking number k touches no other element
  take_other : (k j : ℕ) (t : Taken) → (j ≡ k → ⊥) → (get_or (take_of K text k t).first j 0 ≡ get_or t.first j 0) × (get_or (take_of K text k t).second j 0 ≡ get_or t.second j 0)
  take_other k j t other =
      by_bool (stands_at K text t.at k)
      (λ h. rw h (get_or-set_other t.first k j (first_in K text t.at) 0 other, get_or-set_other t.second k j (second_in K text t.at) 0 other))
      (λ h. rw h (refl, refl))

  take_length : (k : ℕ) (t : Taken) → (length (take_of K text k t).first ≡ length t.first) × (length (take_of K text k t).second ≡ length t.second)
  take_length k t =
      by_bool (stands_at K text t.at k)
      (λ h. rw h (length-set t.first k (first_in K text t.at), length-set t.second k (second_in K text t.at)))
      (λ h. rw h (refl, refl))

  -- What no turn changes is as it was.
  untouched : {A : Type 0} (f : Taken → A) (n k : ℕ) (t : Taken) → ((j : ℕ) (u : Taken) → k ≤ j → f (take_of K text j u) ≡ f u) → f (take_from (take_of K text) n k t) ≡ f t
  unfolding take_from
  untouched f zero k t keeps = refl
  untouched f (suc n) k t keeps =
      untouched f n (suc k) (take_of K text k t) (λ j u l. keeps j u (omega arith)) ∙ keeps k t (omega arith)

  -- What is taken has the lengths that were there.
  pub taken_length : (n k : ℕ) (t : Taken) → (length (take_from (take_of K text) n k t).first ≡ length t.first) × (length (take_from (take_of K text) n k t).second ≡ length t.second)
  taken_length n k t =
      (untouched (λ u. length u.first) n k t (λ j u l. (take_length j u).0), untouched (λ u. length u.second) n k t (λ j u l. (take_length j u).1))

  untaken_more : (n k : ℕ) (t : Taken) → Untaken (suc n) k t → Untaken n (suc k) (take_of K text k t)
  untaken_more n k t u =
      record {
        first_long = rw (take_length k t).0 (let l = u.first_long in omega arith);
        second_long = rw (take_length k t).1 (let l = u.second_long in omega arith);
        first_zeros = λ j l. (take_other k j t (λ e. omega arith)).0 ∙ u.first_zeros j (omega arith);
        second_zeros = λ j l. (take_other k j t (λ e. omega arith)).1 ∙ u.second_zeros j (omega arith);
      }

  -- one number's turn, back: arrays that have at k what is taken there write what stood there
  turn_back : (n k : ℕ) (t : Taken) (xs ys : List ℕ) → Untaken (suc n) k t → get_or xs k 0 ≡ get_or (take_of K text k t).first k 0 → get_or ys k 0 ≡ get_or (take_of K text k t).second k 0 → drop t.at text ≡ cell_of K xs ys k ++ drop (take_of K text k t).at text
  unfolding cell_of
  turn_back n k t xs ys u ex ey =
      by_bool (stands_at K text t.at k)
      (λ h.
      let x = first_in K text t.at in
      let y = second_in K text t.at in
      let same_first : get_or xs k 0 ≡ x = (rw h at ex) ∙ get_or-set_same t.first k x 0 (let l = u.first_long in omega arith) in
      let same_second : get_or ys k 0 ≡ y = (rw h at ey) ∙ get_or-set_same t.second k y 0 (let l = u.second_long in omega arith) in
      rw (h, same_first, same_second, (frame_says K laws text t.at k h).in_use) (frame_writes K laws text t.at k h))
      (λ h.
      let no_first : get_or xs k 0 ≡ 0 = (rw h at ex) ∙ u.first_zeros k (omega arith) in
      let no_second : get_or ys k 0 ≡ 0 = (rw h at ey) ∙ u.second_zeros k (omega arith) in
      rw (h, no_first, no_second, laws.zeros_bare))

  -- The arrays taken write what stood there.
  pub taken_row : (n k : ℕ) (t : Taken) → Untaken n k t → drop t.at text ≡ cells_from (cell_of K (take_from (take_of K text) n k t).first (take_from (take_of K text) n k t).second) n k ++ drop (take_from (take_of K text) n k t).at text
  unfolding cells_from take_from
  taken_row zero k t u = refl
  taken_row (suc n) k t u =
      turn_back n k t end.first end.second u
      (untouched (λ v. get_or v.first k 0) n (suc k) (take_of K text k t) (λ j v l. (take_other j k v (λ e. omega arith)).0))
      (untouched (λ v. get_or v.second k 0) n (suc k) (take_of K text k t) (λ j v l. (take_other j k v (λ e. omega arith)).1))
      ∙ ap (λ l. cell_of K end.first end.second k ++ l) (taken_row n (suc k) (take_of K text k t) (untaken_more n k t u))
      ∙ sym (append_assoc (cell_of K end.first end.second k) (cells_from (cell_of K end.first end.second) n (suc k)) (drop end.at text))
    where
      end : Taken
      end = take_from (take_of K text) n (suc k) (take_of K text k t)

  -- all elements have a text
  abbrev AllShaped : Taken → Type 0
  AllShaped t = (j : ℕ) → Shaped (get_or t.first j 0) (get_or t.second j 0)

  turn_shaped : (n k : ℕ) (t : Taken) → Untaken (suc n) k t → AllShaped t → AllShaped (take_of K text k t)
  turn_shaped n k t u h j =
      by_bool (eqb j k)
      (λ e.
      by_bool (stands_at K text t.at k)
      (λ stands.
      let first = get_or-set_same t.first k (first_in K text t.at) 0 (let l = u.first_long in omega arith) in
      let second = get_or-set_same t.second k (second_in K text t.at) 0 (let l = u.second_long in omega arith) in
      rw (eqb-true j k e, stands, first, second) (frame_says K laws text t.at k stands).shaped)
      (λ stands. rw stands (h j)))
      (λ e. let other = take_other k j t (eqb-false j k e) in rw (other.0, other.1) (h j))

  pub taken_shaped : (n k : ℕ) (t : Taken) → Untaken n k t → AllShaped t → AllShaped (take_from (take_of K text) n k t)
  unfolding take_from
  taken_shaped zero k t u h = h
  taken_shaped (suc n) k t u h = taken_shaped n (suc k) (take_of K text k t) (untaken_more n k t u) (turn_shaped n k t u h)
