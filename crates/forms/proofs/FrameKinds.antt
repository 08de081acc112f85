-- What is shown of every kind of frame, from laws about its values alone: a frame is read as it was written, none stands where another does, and one that
-- stands is the writing of what is read. And the laws of frames of actions and of instruments.
use mathlib.Core.Path.{◌≡◌, refl, sym, ◌∙◌}
use mathlib.Core.Bool.{true, false, ◌&&◌, ◌||◌}
use mathlib.Core.List.{List, [], ◌++◌}
use Prim.Native.Nat.{ℕ, zero, suc, ◌+◌, ◌-◌, ◌^◌, ◌≤◌, ◌<◌}
use native.Mathlib.Omega.{arith}
use borrow.Author.Tests.{ltb-true, ltb-false, lt-ltb, le-ltb, eqb-true, eqb-false, ne_eqb, not-true}
use lib.Dec.{eqb, ltb}
use lib.ListN.{length, drop}
use Rattle.rules.proofs.Tests.{by_bool, by_or, clash, refuted, and_left, and_right}
use Rattle.forms.specs.Kinds.{frame_size, Kind, state_digits, parent_digits, parent_byte, state_fits, parent_fits, action, instrument}
use Rattle.forms.specs.Text.{frame_of}
use Rattle.forms.specs.WellShaped.{head_at, first_at, second_at, stands_at, first_in, second_in}
use Rattle.forms.proofs.Hex.{number_fits}
use Rattle.forms.proofs.Frames.{frame_long, frame_read, head_other, head_none, frame_written}

-- ---- the laws of a kind of frame

-- the values written for elements x and y are a frame's, and say x and y
pub record SaidAgain (K : Kind) (x y : ℕ) : Type 0 where
  pub fit : K.fits (K.first_value x y) (K.second_value x y) ≡ true
  pub first : K.first_element (K.first_value x y) (K.second_value x y) ≡ x
  pub second : K.second_element (K.first_value x y) (K.second_value x y) ≡ y

-- the elements that values v and w say have a frame, and it has v and w
pub record WrittenAgain (K : Kind) (Shaped : ℕ → ℕ → Type 0) (v w : ℕ) : Type 0 where
  pub first : K.first_value (K.first_element v w) (K.second_element v w) ≡ v
  pub second : K.second_value (K.first_element v w) (K.second_element v w) ≡ w
  pub in_use : K.bare (K.first_element v w) (K.second_element v w) ≡ false
  pub shaped : Shaped (K.first_element v w) (K.second_element v w)

-- what each kind has to show, where `Shaped` elements are those that have a text
pub record Laws (K : Kind) (Shaped : ℕ → ℕ → Type 0) : Type 0 where
  pub code_fits : K.shape.code < 256
  pub first_fits : (x y : ℕ) → Shaped x y → K.first_value x y < 16 ^ K.shape.first_digits
  pub second_fits : (x y : ℕ) → Shaped x y → K.second_value x y < 16 ^ K.shape.second_digits
  pub zeros_bare : K.bare 0 0 ≡ true
  pub bare_zeros : (x y : ℕ) → Shaped x y → K.bare x y ≡ true → (x ≡ 0) × (y ≡ 0)
  pub says : (x y : ℕ) → Shaped x y → K.bare x y ≡ false → SaidAgain K x y
  pub writes : (v w : ℕ) → v < 16 ^ K.shape.first_digits → w < 16 ^ K.shape.second_digits → K.fits v w ≡ true → WrittenAgain K Shaped v w

-- ---- what follows for frames in a text

-- elements x and y are read from the frame of number k that stands there
pub record Read (K : Kind) (k x y : ℕ) (text : List ℕ) (at : ℕ) : Type 0 where
  pub stands : stands_at K text at k ≡ true
  pub first_read : first_in K text at ≡ x
  pub second_read : second_in K text at ≡ y

pub frame_length : (K : Kind) (k x y : ℕ) → length (frame_of K k x y) ≡ frame_size K.shape
frame_length K k x y = frame_long K.shape k (K.first_value x y) (K.second_value x y)

module _ (K : Kind) (text : List ℕ) (at k : ℕ) (h : stands_at K text at k ≡ true) where
  head_stands : head_at K.shape text at k ≡ true
  unfolding stands_at
  head_stands = and_left (head_at K.shape text at k) (K.fits (first_at K.shape text at) (second_at K.shape text at)) h

  values_fit : K.fits (first_at K.shape text at) (second_at K.shape text at) ≡ true
  unfolding stands_at
  values_fit = and_right (head_at K.shape text at k) (K.fits (first_at K.shape text at) (second_at K.shape text at)) h

-- At the text's end none stands.
pub frame_none : (K : Kind) (text : List ℕ) (at j : ℕ) → drop at text ≡ [] → stands_at K text at j ≡ false
frame_none K text at j e =
    refuted (stands_at K text at j)
    (λ h. clash (head_at K.shape text at j) (head_stands K text at j h) (head_none K.shape j text at e))

module _ (K : Kind) {Shaped : ℕ → ℕ → Type 0} (laws : Laws K Shaped) where
  -- A frame is read as it was written.
  pub frame_reads : (text r : List ℕ) (at k x y : ℕ) → k < 256 → Shaped x y → K.bare x y ≡ false → drop at text ≡ frame_of K k x y ++ r → Read K k x y text at
  unfolding stands_at
  frame_reads text r at k x y lk shaped used e =
      let v = K.first_value x y in
      let w = K.second_value x y in
      let r = frame_read K.shape k v w text r at laws.code_fits lk e (laws.first_fits x y shaped) (laws.second_fits x y shaped) in
      let again = laws.says x y shaped used in
      record {
        stands = rw (r.head, r.first, r.second) again.fit;
        first_read = (λ i. K.first_element (r.first i) (r.second i)) ∙ again.first;
        second_read = (λ i. K.second_element (r.first i) (r.second i)) ∙ again.second;
      }

  -- What is read where a frame stands, written again.
  pub frame_says : (text : List ℕ) (at k : ℕ) → stands_at K text at k ≡ true → WrittenAgain K Shaped (first_at K.shape text at) (second_at K.shape text at)
  frame_says text at k h =
      let f = K.shape in
      laws.writes (first_at f text at) (second_at f text at) (number_fits f.first_digits text (at + 4))
      (number_fits f.second_digits text (at + (4 + f.first_digits)))
      (values_fit K text at k h)

  -- A frame that stands there is the writing of what is read.
  pub frame_writes : (text : List ℕ) (at k : ℕ) → stands_at K text at k ≡ true → drop at text ≡ frame_of K k (first_in K text at) (second_in K text at) ++ drop (at + frame_size K.shape) text
  frame_writes text at k h =
      let w = frame_says text at k h in rw (w.first, w.second) (frame_written K.shape k text at (head_stands K text at k h))

  -- Where a frame of this kind stands, none of another code or number does.
  pub frame_other : (L : Kind) (text r : List ℕ) (at k x y j : ℕ) → k < 256 → (K.shape.code ≡ L.shape.code → k ≡ j → ⊥) → drop at text ≡ frame_of K k x y ++ r → stands_at L text at j ≡ false
  frame_other L text r at k x y j lk differs e =
      refuted (stands_at L text at j)
      (λ h. clash (head_at L.shape text at j) (head_stands L text at j h)
      (head_other K.shape k (K.first_value x y) (K.second_value x y) text r at laws.code_fits lk e L.shape j differs))

-- ---- actions

-- p a parent's byte and s a state's. Of the bytes that mean nothing the text has one, 67; and who is neither running nor committed has no parent.
pub record ShapedAction (p s : ℕ) : Type 0 where
  pub parent_known : p ≤ 64
  pub state_known : s ≤ 67
  pub parent_in_tree : (s ≡ 1 → ⊥) → (s ≡ 2 → ⊥) → p ≡ 0

-- pp of a number of the tree is read as its parent's byte: the same for both states
record ParentRead (p : ℕ) : Type 0 where
  byte_back : parent_byte 1 (parent_digits p 1) ≡ p
  fits : parent_fits (parent_digits p 1) ≡ true

parent_read : (p : ℕ) → p ≤ 64 → ParentRead p
parent_read p l =
    by_bool (eqb p 0) (λ top. record { byte_back = rw top (sym (eqb-true p 0 top)); fits = rw top })
    (λ under.
    let above = eqb-false p 0 under in
    record {
      byte_back = rw (under, ne_eqb (p - 1) 0xff (λ z. absurd (omega arith))) (omega arith);
      fits = rw (under, lt-ltb (p - 1) 64 (omega arith));
    })

-- and written from it again
parent_written : (pp : ℕ) → parent_fits pp ≡ true → (parent_digits (parent_byte 1 pp) 1 ≡ pp) × (parent_byte 1 pp ≤ 64)
parent_written pp h =
    by_or (ltb pp 64) (eqb pp 0xff) h
    (λ low.
    let l = ltb-true pp 64 low in
    rw (ne_eqb pp 0xff (λ z. absurd (omega arith)), ne_eqb (pp + 1) 0 (λ z. absurd (omega arith))) (omega arith, omega arith))
    (λ top. rw (eqb-true pp 0xff top) (refl, omega arith))

-- a head is read as its group's byte
head_read : (p s : ℕ) → 3 ≤ s → s ≤ 67 → p ≡ 0 → SaidAgain action p s
head_read p s l u alone =
    by_bool (ltb s 67)
    (λ headed.
    let below = ltb-true s 67 headed in
    let known = lt-ltb (s - 3) 64 (omega arith) in
    record { fit = rw (left, headed, known); first = rw left (sym alone); second = rw (left, headed, known) (omega arith) })
    (λ none.
    let last : s ≡ 67 = (let above = ltb-false s 67 none in omega arith) in
    rw last (record { fit = refl; first = sym alone; second = refl }))
  where
    left : ltb s 3 ≡ false
    left = le-ltb s 3 l

-- and written from it again
head_written : (pp : ℕ) → parent_fits pp ≡ true → WrittenAgain action ShapedAction 3 pp
head_written pp h =
    by_or (ltb pp 64) (eqb pp 0xff) h
    (λ low.
    let l = ltb-true pp 64 low in
    let left = le-ltb (3 + pp) 3 (omega arith) in
    let headed = lt-ltb (3 + pp) 67 (omega arith) in
    record {
      first = rw (low, left);
      second = rw (low, left, headed) (omega arith);
      in_use = rw (low, ne_eqb (3 + pp) 0 (λ z. absurd (omega arith)));
      shaped = rw low (record { parent_known = omega arith; state_known = omega arith; parent_in_tree = λ a b. refl });
    })
    (λ top.
    rw (eqb-true pp 0xff top)
    (record { first = refl; second = refl; in_use = refl; shaped = record { parent_known = omega arith; state_known = omega arith; parent_in_tree = λ a b. refl } }))

action_said : (p s : ℕ) → ShapedAction p s → eqb s 0 ≡ false → SaidAgain action p s
action_said p zero h used = clash true refl used
action_said p (suc zero) h used = let up = parent_read p h.parent_known in record { fit = up.fits; first = up.byte_back; second = refl }
action_said p (suc (suc zero)) h used = let up = parent_read p h.parent_known in record { fit = up.fits; first = up.byte_back; second = refl }
action_said p (suc (suc (suc x))) h used =
    head_read p (suc (suc (suc x))) (omega arith) h.state_known (h.parent_in_tree (λ e. absurd (omega arith)) (λ e. absurd (omega arith)))

action_written : (ss pp : ℕ) → state_fits ss ≡ true → parent_fits pp ≡ true → WrittenAgain action ShapedAction ss pp
action_written ss pp hs hp =
    by_or (eqb ss 1 || eqb ss 2) (eqb ss 3) hs
    (λ tree.
    by_or (eqb ss 1) (eqb ss 2) tree
    (λ e.
    rw (eqb-true ss 1 e)
    (record { first = refl; second = up.0; in_use = refl; shaped = record { parent_known = up.1; state_known = omega arith; parent_in_tree = λ a b. absurd (a refl) } }))
    (λ e.
    rw (eqb-true ss 2 e)
    (record { first = refl; second = up.0; in_use = refl; shaped = record { parent_known = up.1; state_known = omega arith; parent_in_tree = λ a b. absurd (b refl) } })))
    (λ e. rw (eqb-true ss 3 e) (head_written pp hp))
  where
    up : (parent_digits (parent_byte 1 pp) 1 ≡ pp) × (parent_byte 1 pp ≤ 64)
    up = parent_written pp hp

-- both values have two digits
action_narrow : (p s : ℕ) → ShapedAction p s → (state_digits s < 256) × (parent_digits p s < 256)
action_narrow p s h =
    let lp = h.parent_known in
    let ls = h.state_known in
    by_bool (ltb s 3)
    (λ tree. rw tree (omega arith, by_bool (eqb p 0) (λ top. rw top (omega arith)) (λ under. rw under (omega arith))))
    (λ left. rw left (omega arith, by_bool (ltb s 67) (λ headed. rw headed (omega arith)) (λ none. rw none (omega arith))))

pub action_laws : Laws action ShapedAction
action_laws =
    record {
      code_fits = omega arith;
      first_fits = λ p s h. (action_narrow p s h).0;
      second_fits = λ p s h. (action_narrow p s h).1;
      zeros_bare = refl;
      bare_zeros = λ p s h b.
          let free = eqb-true s 0 b in (h.parent_in_tree (λ e. absurd (omega arith)) (λ e. absurd (omega arith)), free);
      says = action_said;
      writes = λ ss pp ls lp h. action_written ss pp (and_left (state_fits ss) (parent_fits pp) h) (and_right (state_fits ss) (parent_fits pp) h);
    }

-- ---- instruments

-- r and w an instrument's read and write set
pub record ShapedSets (r w : ℕ) : Type 0 where
  pub reads_fit : r < 2 ^ 64
  pub writes_fit : w < 2 ^ 64

pub instrument_laws : Laws instrument ShapedSets
instrument_laws =
    record {
      code_fits = omega arith;
      first_fits = λ r w h. h.reads_fit;
      second_fits = λ r w h. h.writes_fit;
      zeros_bare = refl;
      bare_zeros = λ r w h b. (eqb-true r 0 (and_left (eqb r 0) (eqb w 0) b), eqb-true w 0 (and_right (eqb r 0) (eqb w 0) b));
      says = λ r w h used. record { fit = rw used; first = refl; second = refl };
      writes = λ r w lr lw h.
          record { first = refl; second = refl; in_use = not-true (eqb r 0 && eqb w 0) h; shaped = record { reads_fit = lr; writes_fit = lw } };
    }
