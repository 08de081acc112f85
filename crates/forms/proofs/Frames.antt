-- Frames, as both kinds share them: a frame is read as it was written, no frame of another code or number stands where it does, and a frame that
-- stands in a text is the writing of what is read.
use mathlib.Core.Path.{◌≡◌, refl, sym, ◌∙◌, ap}
use mathlib.Core.Bool.{true, false, ◌&&◌}
use mathlib.Core.List.{List, [], ◌∷◌, ◌++◌, append_assoc}
use Prim.Native.Nat.{ℕ, suc, ◌+◌, ◌^◌, ◌<◌}
use native.Mathlib.Nat.{add_assoc}
use native.Mathlib.Omega.{arith}
use borrow.Author.Tests.{eqb-true, eq-eqb}
use lib.Dec.{eqb}
use lib.ListN.{length, get_or, drop, length-append}
use Rattle.rules.proofs.Tests.{refuted, and_left, and_right}
use Rattle.forms.specs.Kinds.{FrameShape, frame_digits, frame_size}
use Rattle.forms.specs.Text.{hex_of, frame}
use Rattle.forms.specs.WellShaped.{digits_at, number_at, frame_at, head_at, first_at, second_at}
use Rattle.forms.proofs.Hex.{past, byte_read, byte_stands, length_hex, hex_read, number_read_lem, digits_written, digits_join, digits_apart}

-- the length of a frame
pub frame_long : (f : FrameShape) (k x y : ℕ) → length (frame f k x y) ≡ frame_size f
frame_long f k x y = simp (length-append, length_hex) (omega arith)

after_hex : (n x : ℕ) (text r : List ℕ) (at : ℕ) → drop at text ≡ hex_of n x ++ r → drop (at + n) text ≡ r
after_hex n x text r at e = rw (length_hex n x) at (past text (hex_of n x) r at e)

-- what the test of a frame asks
record Head (f : FrameShape) (text : List ℕ) (at k : ℕ) : Type 0 where
  digits : digits_at text at (frame_digits f) ≡ true
  ends : get_or text (at + frame_digits f) 0 ≡ 10
  code_read : number_at text at 2 ≡ f.code
  number_read : number_at text (at + 2) 2 ≡ k

head_asks : (f : FrameShape) (text : List ℕ) (at k : ℕ) → head_at f text at k ≡ true → Head f text at k
head_asks f text at k h =
    let framed = frame_at text at (frame_digits f) in
    let coded = eqb (number_at text at 2) f.code in
    let numbered = eqb (number_at text (at + 2) 2) k in
    let ended = eqb (get_or text (at + frame_digits f) 0) 10 in
    let h2 = and_left (framed && coded) numbered h in
    let h1 = and_left framed coded h2 in
    record {
      digits = and_left (digits_at text at (frame_digits f)) ended h1;
      ends = eqb-true (get_or text (at + frame_digits f) 0) 10 (and_right (digits_at text at (frame_digits f)) ended h1);
      code_read = eqb-true (number_at text at 2) f.code (and_right framed coded h2);
      number_read = eqb-true (number_at text (at + 2) 2) k (and_right (framed && coded) numbered h);
    }

-- what is read where such a frame stands
pub record HeadRead (f : FrameShape) (k x y : ℕ) (text : List ℕ) (at : ℕ) : Type 0 where
  pub head : head_at f text at k ≡ true
  pub first : first_at f text at ≡ x
  pub second : second_at f text at ≡ y

module _ (f : FrameShape) (k x y : ℕ) (text r : List ℕ) (at : ℕ) (code_fits : f.code < 256) (number_fits : k < 256) (e : drop at text ≡ frame f k x y ++ r) where
  at_code : drop at text ≡ hex_of 2 f.code ++ (hex_of 2 k ++ (hex_of f.first_digits x ++ (hex_of f.second_digits y ++ (10 ∷ r))))
  at_code = e ∙ simp append_assoc

  at_number : drop (at + 2) text ≡ hex_of 2 k ++ (hex_of f.first_digits x ++ (hex_of f.second_digits y ++ (10 ∷ r)))
  at_number = after_hex 2 f.code text (hex_of 2 k ++ (hex_of f.first_digits x ++ (hex_of f.second_digits y ++ (10 ∷ r)))) at at_code

  at_first : drop (at + 4) text ≡ hex_of f.first_digits x ++ (hex_of f.second_digits y ++ (10 ∷ r))
  at_first = rw (add_assoc at 2 2) at (after_hex 2 k text (hex_of f.first_digits x ++ (hex_of f.second_digits y ++ (10 ∷ r))) (at + 2) at_number)

  at_second : drop (at + (4 + f.first_digits)) text ≡ hex_of f.second_digits y ++ (10 ∷ r)
  at_second = rw (add_assoc at 4 f.first_digits) at (after_hex f.first_digits x text (hex_of f.second_digits y ++ (10 ∷ r)) (at + 4) at_first)

  at_end : drop (at + frame_digits f) text ≡ 10 ∷ r
  at_end = rw (add_assoc at (4 + f.first_digits) f.second_digits) at (after_hex f.second_digits y text (10 ∷ r) (at + (4 + f.first_digits)) at_second)

  code_read_lem : number_at text at 2 ≡ f.code
  code_read_lem = number_read_lem 2 f.code text (hex_of 2 k ++ (hex_of f.first_digits x ++ (hex_of f.second_digits y ++ (10 ∷ r)))) at code_fits at_code

  number_here : number_at text (at + 2) 2 ≡ k
  number_here = number_read_lem 2 k text (hex_of f.first_digits x ++ (hex_of f.second_digits y ++ (10 ∷ r))) (at + 2) number_fits at_number

  -- no frame of another code or number stands there
  pub head_other : (g : FrameShape) (j : ℕ) → (f.code ≡ g.code → k ≡ j → ⊥) → head_at g text at j ≡ false
  head_other g j differs =
      refuted (head_at g text at j)
      (λ h.
      let asked = head_asks g text at j h in
      differs (sym code_read_lem ∙ asked.code_read) (sym number_here ∙ asked.number_read))

  pub frame_read : x < 16 ^ f.first_digits → y < 16 ^ f.second_digits → HeadRead f k x y text at
  frame_read lx ly =
      let code_digits = (hex_read 2 f.code text (hex_of 2 k ++ (hex_of f.first_digits x ++ (hex_of f.second_digits y ++ (10 ∷ r)))) at at_code).0 in
      let number_digits = (hex_read 2 k text (hex_of f.first_digits x ++ (hex_of f.second_digits y ++ (10 ∷ r))) (at + 2) at_number).0 in
      let firsts = (hex_read f.first_digits x text (hex_of f.second_digits y ++ (10 ∷ r)) (at + 4) at_first).0 in
      let seconds = (hex_read f.second_digits y text (10 ∷ r) (at + (4 + f.first_digits)) at_second).0 in
      let digits = digits_join (4 + f.first_digits) f.second_digits text at (digits_join 4 f.first_digits text at (digits_join 2 2 text at code_digits number_digits) firsts) seconds in
      record {
        head = rw (digits, byte_read text (at + frame_digits f) 10 r at_end, code_read_lem, number_here, eq-eqb f.code f.code refl) (eq-eqb k k refl);
        first = number_read_lem f.first_digits x text (hex_of f.second_digits y ++ (10 ∷ r)) (at + 4) lx at_first;
        second = number_read_lem f.second_digits y text (10 ∷ r) (at + (4 + f.first_digits)) ly at_second;
      }

-- a frame that stands there is the writing of what is read
pub frame_written : (f : FrameShape) (k : ℕ) (text : List ℕ) (at : ℕ) → head_at f text at k ≡ true → drop at text ≡ frame f k (first_at f text at) (second_at f text at) ++ drop (at + frame_size f) text
frame_written f k text at h =
    digits_written 2 text at four.0
    ∙ rw (asked.code_read, digits_written 2 text (at + 2) four.1, asked.number_read, add_assoc at 2 2)
    (rw (digits_written f.first_digits text (at + 4) fields.1, add_assoc at 4 f.first_digits, digits_written f.second_digits text (at + (4 + f.first_digits)) whole.1, add_assoc at (4 + f.first_digits) f.second_digits, newline)
    (simp append_assoc))
  where
    asked : Head f text at k
    asked = head_asks f text at k h

    whole : (digits_at text at (4 + f.first_digits) ≡ true) × (digits_at text (at + (4 + f.first_digits)) f.second_digits ≡ true)
    whole = digits_apart (4 + f.first_digits) f.second_digits text at asked.digits

    fields : (digits_at text at 4 ≡ true) × (digits_at text (at + 4) f.first_digits ≡ true)
    fields = digits_apart 4 f.first_digits text at whole.0

    four : (digits_at text at 2 ≡ true) × (digits_at text (at + 2) 2 ≡ true)
    four = digits_apart 2 2 text at fields.0

    newline : drop (at + frame_digits f) text ≡ 10 ∷ drop (at + frame_size f) text
    newline =
        byte_stands text (at + frame_digits f) (λ z. absurd (omega (arith, asked.ends)))
        ∙ (let place : suc (at + frame_digits f) ≡ at + (frame_size f) = omega arith in rw (asked.ends, place))

-- at the text's end none stands
pub head_none : (f : FrameShape) (k : ℕ) (text : List ℕ) (at : ℕ) → drop at text ≡ [] → head_at f text at k ≡ false
head_none f k text at e =
    refuted (head_at f text at k)
    (λ h. let long = ap length (sym e ∙ frame_written f k text at h) in omega (arith, simp (length-append, length_hex) at long))
