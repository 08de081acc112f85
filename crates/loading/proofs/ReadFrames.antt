-- Where a frame stands, there is text: a place behind the text holds 0, which is no 0a. And what a test of the two values of a frame says of the text.
use mathlib.Core.Path.{◌≡◌, sym, ◌∙◌, ap, ap₂}
use mathlib.Core.List.{List}
use mathlib.Core.Bool.{Bool, true, false, not, ◌&&◌, and_comm}
use Prim.Native.Nat.{ℕ, ◌+◌, ◌<◌, ◌≤◌}
use Rattle.std.specs.Prelude.{Option, Some, None, is_some, unwrap_or}
use lib.Dec.{eqb, leb}
use lib.ListN.{length, get_or-eq_default}
use borrow.Author.Tests.{leb-true, leb-false, not-false}
use Rattle.rules.proofs.Tests.{by_bool, clash, and_left}
use Rattle.loading.specs.declared.fields.Fields.{Fields}
use Rattle.forms.specs.Kinds.{FrameShape, even_shape, frame_digits, Kind}
use Rattle.forms.specs.WellShaped.{number_at, frame_at, head_at, first_at, second_at, stands_at, first_in, second_in}
use Rattle.loading.specs.Fields.{fields_at, elements_of}

module _ (text : List ℕ) (at n : ℕ) where
  pub frame_past : length text ≤ at + n → frame_at text at n ≡ false
  frame_past h = rw (get_or-eq_default text 0 {n = at + n} h, and_comm)

  pub frame_fits : frame_at text at n ≡ true → at + n < length text
  frame_fits h =
      by_bool (leb (length text) (at + n)) (λ past. clash (frame_at text at n) h (frame_past (leb-true (length text) (at + n) past)))
      (λ within. leb-false (length text) (at + n) within)

-- ---- the two values of a frame

module _ (f : FrameShape) (text : List ℕ) (at k : ℕ) where
  head_within : head_at f text at k ≡ true → at + frame_digits f < length text
  head_within h =
      let stands = frame_at text at (frame_digits f) in
      let coded = eqb (number_at text at 2) f.code in
      frame_fits text at (frame_digits f) (and_left stands coded (and_left (stands && coded) (eqb (number_at text (at + 2) 2) k) h))

  -- the same where the test, r, isn't refused
  pub head_fits : (r : Bool) → r ≡ head_at f text at k → not r ≡ false → at + frame_digits f < length text
  head_fits r e h = head_within (sym e ∙ not-false r h)

-- ---- the two elements that they say

module _ (K : Kind) (text : List ℕ) (at k : ℕ) where
  -- there are values where a frame stands
  some_head : is_some (fields_at K.shape text at k) ≡ head_at K.shape text at k
  unfolding fields_at
  some_head = by_bool (head_at K.shape text at k) (λ e. rw e) (λ e. rw e)

  -- and elements where they are values of the kind
  some_fits : (x y : ℕ) → is_some (elements_of K x y) ≡ K.fits x y
  some_fits x y = by_bool (K.fits x y) (λ e. rw e) (λ e. rw e)

  pub none_stands : fields_at K.shape text at k ≡ None → stands_at K text at k ≡ false
  unfolding stands_at
  none_stands h = let none : head_at K.shape text at k ≡ false = sym some_head ∙ ap is_some h in rw none

  module _ {r : Fields} (said : fields_at K.shape text at k ≡ Some r) where
    headed : head_at K.shape text at k ≡ true
    headed = sym some_head ∙ ap is_some said

    pub said_within : at + frame_digits K.shape < length text
    said_within = head_within K.shape text at k headed

    values_said : record { first = first_at K.shape text at; second = second_at K.shape text at } ≡ r
    unfolding fields_at
    values_said = rw headed at (ap (λ o. unwrap_or o r) said)

    stands_said : stands_at K text at k ≡ is_some (elements_of K r.first r.second)
    unfolding stands_at
    stands_said = rw headed (ap (λ (v : Fields). K.fits v.first v.second) values_said ∙ sym (some_fits r.first r.second))

    pub other_stands : elements_of K r.first r.second ≡ None → stands_at K text at k ≡ false
    other_stands h = stands_said ∙ ap is_some h

    module _ {x y : ℕ} (given : elements_of K r.first r.second ≡ Some (x, y)) where
      pub frame_stands : stands_at K text at k ≡ true
      frame_stands = stands_said ∙ ap is_some given

      both_said : ◌≡◌ {A = ℕ × ℕ} (K.first_element r.first r.second, K.second_element r.first r.second) (x, y)
      both_said =
          let fits : K.fits r.first r.second ≡ true = sym (some_fits r.first r.second) ∙ ap is_some given in
          rw fits at (ap (λ o. unwrap_or o (x, y)) given)

      pub first_said : x ≡ first_in K text at
      first_said = sym (ap (λ v. v.0) both_said) ∙ sym (ap (λ (v : Fields). K.first_element v.first v.second) values_said)

      pub second_said : y ≡ second_in K text at
      second_said = sym (ap (λ v. v.1) both_said) ∙ sym (ap (λ (v : Fields). K.second_element v.first v.second) values_said)

-- code has a kind's digits and code as numbers: what it reads with them is what stands of the kind
pub fields_of : (K : Kind) (text : List ℕ) (at k : ℕ) {w code digits coded : ℕ} {r : Option Fields} → w ≡ digits → code ≡ coded → K.shape ≡ even_shape digits coded
    → r ≡ fields_at (even_shape w code) text at k → fields_at K.shape text at k ≡ r
fields_of K text at k {digits = digits} {coded = coded} ew ec shaped e =
    ap (λ f. fields_at f text at k) (shaped ∙ sym (ap₂ even_shape ew ec)) ∙ sym e
