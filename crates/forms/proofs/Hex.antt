-- Digits: a number written in hexadecimal digits is read back as it was, and digits that stand in a text are the writing of the number read.
use mathlib.Core.Path.{◌≡◌, refl, sym, ◌∙◌, ap}
use mathlib.Core.Bool.{Bool, true, not, ◌||◌}
use mathlib.Core.List.{List, [], ◌∷◌, ◌++◌, append_assoc}
use Prim.Native.Nat.{ℕ, zero, suc, ◌+◌, ◌-◌, ◌*◌, ◌/◌, ◌%◌, ◌^◌, ◌<◌}
use native.Mathlib.Nat.{add-zero, add_assoc, add-suc, pow-suc, mod-lt, mod-eq_of_lt, div-div-eq-div-mul, mul_comm, one-le-pow, div-one, mod-one}
use native.Mathlib.Omega.{arith}
use borrow.Author.Tests.{ltb-true, ltb-false, lt-ltb, le-leb, lt-leb, eqb-true}
use lib.Arith.{digits_lt, digits_div, digits_mod, mod-mul}
use lib.Dec.{eqb, ltb}
use lib.ListN.{length, get_or, drop, get_or-eq_default}
use lib.Seq.{drop-drop, drop-append_seam, drop-cons, get_or-drop}
use Rattle.rules.specs.Tests.{all}
use Rattle.rules.proofs.Tests.{by_bool, clash, and_left, and_right, all_at, all_by}
use Rattle.forms.specs.Text.{hex_digit, hex_of}
use Rattle.forms.specs.WellShaped.{digit_of, digits_at, number_at}

-- ---- what stands at a place of a text

-- behind v stands what stood behind it
pub past : (text v r : List ℕ) (at : ℕ) → drop at text ≡ v ++ r → drop (at + length v) text ≡ r
past text v r at e = sym (drop-drop (length v) at text) ∙ ap (drop (length v)) e ∙ drop-append_seam v r

pub byte_read : (text : List ℕ) (at c : ℕ) (r : List ℕ) → drop at text ≡ c ∷ r → get_or text at 0 ≡ c
byte_read text at c r e = ap (λ i. get_or text i 0) (sym (add-zero at)) ∙ sym (get_or-drop at text 0 0) ∙ ap (λ l. get_or l 0 0) e

-- a byte that isn't the default is there
pub byte_stands : (text : List ℕ) (at : ℕ) → (get_or text at 0 ≡ 0 → ⊥) → drop at text ≡ get_or text at 0 ∷ drop (suc at) text
byte_stands text at there =
    by_bool (ltb at (length text)) (λ h. drop-cons text at 0 (ltb-true at (length text) h))
    (λ h. absurd (there (get_or-eq_default text 0 (ltb-false at (length text) h))))

-- ---- one digit

pub digit_read : (d : ℕ) → d < 16 → digit_of (hex_digit d) ≡ d
unfolding all
digit_read d l = eqb-true (digit_of (hex_digit d)) d (all_at 16 (λ x. eqb (digit_of (hex_digit x)) x) refl d l)

pub digit_written : (c : ℕ) → ltb (digit_of c) 16 ≡ true → hex_digit (digit_of c) ≡ c
unfolding all
digit_written c h =
    by_bool (ltb c 103) (λ l. eqb-true (hex_digit (digit_of c)) c (rw h at (all_at 103 written refl c (ltb-true c 103 l))))
    (λ l.
    let above = ltb-false c 103 l in
    clash (ltb 16 16) (rw (le-leb 48 c (omega arith), lt-leb c 57 (omega arith), le-leb 97 c (omega arith), lt-leb c 102 (omega arith)) at h) refl)
  where
    written : ℕ → Bool
    written x = not (ltb (digit_of x) 16) || eqb (hex_digit (digit_of x)) x

-- ---- n digits

pub length_hex : (n x : ℕ) → length (hex_of n x) ≡ n
unfolding hex_of
length_hex zero x = refl
length_hex (suc n) x = ap suc (length_hex n x)

-- the lowest digit apart
hex_last : (n x : ℕ) → hex_of (suc n) x ≡ hex_of n (x / 16) ++ (hex_digit (x % 16) ∷ [])
unfolding hex_of
hex_last zero x = rw (div-one x)
hex_last (suc n) x =
    rw (hex_last n x, pow-suc 16 n, mul_comm (16 ^ n) 16, ← div-div-eq-div-mul x 16 (16 ^ n))

-- A number of n digits at a place is read as it was written.
pub hex_read : (n x : ℕ) (text r : List ℕ) (at : ℕ) → drop at text ≡ hex_of n x ++ r → (digits_at text at n ≡ true) × (number_at text at n ≡ x % 16 ^ n)
unfolding digits_at number_at all hex_of
hex_read zero x text r at e = (refl, sym (mod-one x))
hex_read (suc n) x text r at e =
    let high = hex_read n (x / 16) text (hex_digit (x % 16) ∷ r) at split in
    let small : x % 16 < 16 = mod-lt x (omega arith) in
    let low : digit_of (get_or text (at + n) 0) ≡ x % 16 = rw last (digit_read (x % 16) small) in (
      rw (low, lt-ltb (x % 16) 16 small) high.0,
      rw (low, high.1, pow-suc 16 n, mod-mul x {m = 16 ^ n} {c = 16} (one-le-pow n 16 (omega arith)) (omega arith), mod-eq_of_lt small),
    )
  where
    split : drop at text ≡ hex_of n (x / 16) ++ (hex_digit (x % 16) ∷ r)
    split = e ∙ ap (λ l. l ++ r) (hex_last n x) ∙ append_assoc (hex_of n (x / 16)) (hex_digit (x % 16) ∷ []) r

    last : get_or text (at + n) 0 ≡ hex_digit (x % 16)
    last =
        byte_read text (at + n) (hex_digit (x % 16)) r
        (rw (length_hex n (x / 16)) at (past text (hex_of n (x / 16)) (hex_digit (x % 16) ∷ r) at split))

-- one that has n digits whole
pub number_read_lem : (n x : ℕ) (text r : List ℕ) (at : ℕ) → x < 16 ^ n → drop at text ≡ hex_of n x ++ r → number_at text at n ≡ x
number_read_lem n x text r at l e = (hex_read n x text r at e).1 ∙ mod-eq_of_lt l

pub number_fits : (n : ℕ) (text : List ℕ) (at : ℕ) → number_at text at n < 16 ^ n
unfolding number_at
number_fits zero text at = omega arith
number_fits (suc n) text at = rw (pow-suc 16 n) (digits_lt (number_fits n text at) (mod-lt (digit_of (get_or text (at + n) 0)) (omega arith)))

-- one digit more
hex_more : (n x d : ℕ) → d < 16 → hex_of (suc n) (x * 16 + d % 16) ≡ hex_of n x ++ (hex_digit d ∷ [])
hex_more n x d l =
    hex_last n (x * 16 + d % 16)
    ∙ rw (digits_div x {m = 16} {r = d % 16} (mod-lt d (omega arith)), digits_mod x {m = 16} {r = d % 16} (mod-lt d (omega arith)), mod-eq_of_lt l)

-- Digits that stand at a place are the writing of the number read there.
pub digits_written : (n : ℕ) (text : List ℕ) (at : ℕ) → digits_at text at n ≡ true → drop at text ≡ hex_of n (number_at text at n) ++ drop (at + n) text
unfolding digits_at number_at all hex_of
digits_written zero text at h = rw (add-zero at)
digits_written (suc n) text at h =
    digits_written n text at (and_right (ltb (digit_of c) 16) (digits_at text at n) h)
    ∙ ap (λ l. hex_of n (number_at text at n) ++ l) (byte_stands text (at + n) (λ z. clash (ltb (digit_of c) 16) low (rw z)))
    ∙ sym
    (ap (λ l. l ++ drop (at + suc n) text) (hex_more n (number_at text at n) (digit_of c) (ltb-true (digit_of c) 16 low))
    ∙ rw (append_assoc, digit_written c low, add-suc at n))
  where
    c : ℕ
    c = get_or text (at + n) 0

    low : ltb (digit_of c) 16 ≡ true
    low = and_left (ltb (digit_of c) 16) (digits_at text at n) h

-- digits after digits are digits, and back
pub digits_join : (m n : ℕ) (text : List ℕ) (at : ℕ) → digits_at text at m ≡ true → digits_at text (at + m) n ≡ true → digits_at text at (m + n) ≡ true
unfolding digits_at
digits_join m n text at h g =
    all_by (m + n) (λ j. ltb (digit_of (get_or text (at + j) 0)) 16)
    (λ j l.
    by_bool (ltb j m) (λ low. all_at m (λ i. ltb (digit_of (get_or text (at + i) 0)) 16) h j (ltb-true j m low))
    (λ high.
    let above = ltb-false j m high in
    let place : at + m + (j - m) ≡ at + j = omega arith in
    rw place at (all_at n (λ i. ltb (digit_of (get_or text (at + m + i) 0)) 16) g (j - m) (omega arith))))

pub digits_apart : (m n : ℕ) (text : List ℕ) (at : ℕ) → digits_at text at (m + n) ≡ true → (digits_at text at m ≡ true) × (digits_at text (at + m) n ≡ true)
unfolding digits_at
digits_apart m n text at h = (
  all_by m digit (λ j l. all_at (m + n) digit h j (omega arith)),
  all_by n (λ j. ltb (digit_of (get_or text (at + m + j) 0)) 16) (λ j l. rw (add_assoc at m j) (all_at (m + n) digit h (m + j) (omega arith))),
)
  where
    digit : ℕ → Bool
    digit j = ltb (digit_of (get_or text (at + j) 0)) 16
