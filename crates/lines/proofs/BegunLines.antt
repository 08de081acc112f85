-- What a feeding knows of the line that has begun, kept by one more character: how many digits and the number that they write, from which the line's
-- request can be told. Assumes nothing.
use Rattle.std.specs.Prelude.{if◌then◌else◌}
use mathlib.Core.Path.{◌≡◌, refl, sym, ◌∙◌, ap, ap₂}
use mathlib.Core.Bool.{Bool, true, false, ◌&&◌, and-true, and_assoc}
use mathlib.Core.List.{List, [], ◌∷◌, ◌++◌}
use mathlib.Core.Option.{none}
use Prim.Native.Nat.{ℕ, suc, ◌+◌, ◌*◌, ◌/◌, ◌%◌, ◌^◌, ◌≤◌, ◌<◌}
use native.Mathlib.Nat.{pow-suc, pow-le-pow_right, mod-eq_of_lt}
use native.Mathlib.Omega.{arith}
use lib.Dec.{eqb, leb, ltb}
use lib.ListN.{length, length-append}
use borrow.Author.Tests.{ltb-true, leb-true, leb-false, le-leb, lt-ltb}
use Rattle.digits.specs.Digits.{digit_of}
use Rattle.rules.specs.Bench as rules
use Rattle.rules.proofs.Tests.{by_bool, and_left, and_right, and_both, same}
use Rattle.rules.specs.Answers.{answered}
use Rattle.rules.specs.ReadWrite.{read_write}
use Rattle.lines.specs.Lines.{are_digits, short_frame, long_frame, frame_of, request_of}
use Rattle.lines.specs.Feeding.{Feeding, between, held_request, may_go_on, count_after, value_after, fed_byte}

-- the number that digits write after a number v
abbrev pub number_from : ℕ → List ℕ → ℕ
number_from v [] = v
number_from v (c ∷ rest) = number_from (v * 16 + digit_of c) rest

-- at most six characters, all of them digits
abbrev pub fits : List ℕ → Bool
fits line = are_digits line && leb (length line) 6

-- What is known of the line that has begun: how many digits and the number that they write, or that no request can come of it.
pub record Begun (f : Feeding) (line : List ℕ) : Type 0 where
  pub counted : f.count ≡ (if fits line then length line else 7)
  pub valued : f.value ≡ (if fits line then number_from 0 line else 0)

pub begun_none : (b : rules.Bench) → Begun (between b) []
begun_none b = record { counted = refl; valued = refl }

first_digit : (c : ℕ) (rest : List ℕ) → are_digits (c ∷ rest) ≡ true → digit_of c < 16
first_digit c rest h = ltb-true (digit_of c) 16 (and_left (ltb (digit_of c) 16) (are_digits rest) h)

more_digits : (c : ℕ) (rest : List ℕ) → are_digits (c ∷ rest) ≡ true → are_digits rest ≡ true
more_digits c rest h = and_right (ltb (digit_of c) 16) (are_digits rest) h

number_more : (v : ℕ) (line : List ℕ) (c : ℕ) → number_from v (line ++ (c ∷ [])) ≡ number_from v line * 16 + digit_of c
number_more v [] c = refl
number_more v (a ∷ line) c = number_more (v * 16 + digit_of a) line c

digits_more : (line : List ℕ) (c : ℕ) → are_digits (line ++ (c ∷ [])) ≡ (are_digits line && ltb (digit_of c) 16)
digits_more [] c = and-true (ltb (digit_of c) 16)
digits_more (a ∷ line) c =
    ap (λ t. ltb (digit_of a) 16 && t) (digits_more line c)
    ∙ sym (and_assoc (ltb (digit_of a) 16) (are_digits line) (ltb (digit_of c) 16))

-- n digits write a number below 16 to the n-th
pub number_below : (v n : ℕ) (line : List ℕ) → are_digits line ≡ true → v < 16 ^ n → number_from v line < 16 ^ (n + length line)
number_below v n [] h l = let e : n + 0 ≡ n = omega arith in rw e l
number_below v n (c ∷ line) h l =
    let d = first_digit c line h in
    let e : n + suc (length line) ≡ suc n + length line = omega arith in
    rw e (number_below (v * 16 + digit_of c) (suc n) line (more_digits c line h) (rw (pow-suc 16 n) (omega arith)))

-- the count, by whether the line fits
pub count_by : (f : Feeding) (line : List ℕ) → Begun f line → (t : Bool) → fits line ≡ t → f.count ≡ (if t then length line else 7)
count_by f line h t e = h.counted ∙ ap (λ u. if u then length line else 7) e

value_fits : (f : Feeding) (line : List ℕ) → Begun f line → fits line ≡ true → f.value ≡ number_from 0 line
value_fits f line h fit = h.valued ∙ ap (λ u. if u then number_from 0 line else 0) fit

length_more : (line : List ℕ) (c : ℕ) → length (line ++ (c ∷ [])) ≡ length line + 1
length_more line c = length-append line (c ∷ [])

-- what fits with one more character fitted without it, with room for one
fits_less : (line : List ℕ) (c : ℕ) → fits (line ++ (c ∷ [])) ≡ true → (fits line ≡ true) × (length line ≤ 5) × (ltb (digit_of c) 16 ≡ true)
fits_less line c h =
    let longer = line ++ (c ∷ []) in
    let digits = sym (digits_more line c) ∙ and_left (are_digits longer) (leb (length longer) 6) h in
    let short = leb-true (length longer) 6 (and_right (are_digits longer) (leb (length longer) 6) h) in
    let e = length_more line c in
    let room : length line ≤ 5 = omega arith in (
      and_both (are_digits line) (leb (length line) 6) (and_left (are_digits line) (ltb (digit_of c) 16) digits) (le-leb (length line) 6 (omega arith)),
      room,
      and_right (are_digits line) (ltb (digit_of c) 16) digits,
    )

-- a character may go on just where the line with it fits
fits_more : (f : Feeding) (line : List ℕ) (c : ℕ) → Begun f line → may_go_on f.count c ≡ fits (line ++ (c ∷ []))
fits_more f line c h = same (may_go_on f.count c) (fits (line ++ (c ∷ []))) goes_on fits_on
  where
    goes_on : may_go_on f.count c ≡ true → fits (line ++ (c ∷ [])) ≡ true
    goes_on on =
        let below = ltb-true f.count 6 (and_left (ltb f.count 6) (ltb (digit_of c) 16) on) in
        let digit = and_right (ltb f.count 6) (ltb (digit_of c) 16) on in
        let longer = line ++ (c ∷ []) in
        let e = length_more line c in
        by_bool (fits line)
        (λ fit. let known = count_by f line h true fit in
        let digits = and_both (are_digits line) (ltb (digit_of c) 16) (and_left (are_digits line) (leb (length line) 6) fit) digit in
        and_both (are_digits longer) (leb (length longer) 6) (digits_more line c ∙ digits) (le-leb (length longer) 6 (omega arith)))
        (λ spoilt. let known = count_by f line h false spoilt in absurd (omega arith))

    fits_on : fits (line ++ (c ∷ [])) ≡ true → may_go_on f.count c ≡ true
    fits_on fit =
        let less = fits_less line c fit in
        let known = count_by f line h true less.0 in
        let room = less.1 in
        and_both (ltb f.count 6) (ltb (digit_of c) 16) (lt-ltb f.count 6 (omega arith)) less.2

-- two choices by equal tests, with the same other way
same_choice : {A : Type 0} (s t : Bool) (x x' y : A) → s ≡ t → (t ≡ true → x ≡ x') → (if s then x else y) ≡ (if t then x' else y)
same_choice s true x x' y e h = ap (λ u. if u then x else y) e ∙ h refl
same_choice s false x x' y e h = ap (λ u. if u then x else y) e

-- a byte that ends no line
pub fed_character : (f : Feeding) (c : ℕ) → eqb c 10 ≡ false → fed_byte f c ≡ record { bench = f.bench; count = count_after f.count c; value = value_after f.count f.value c }
unfolding fed_byte
fed_character f c e =
    ap (λ t. if t then between (answered read_write f.bench (held_request f.count f.value)).next
    else record { bench = f.bench; count = count_after f.count c; value = value_after f.count f.value c }) e

-- five digits and one more have room
value_room : (line : List ℕ) → fits line ≡ true → length line ≤ 5 → number_from 0 line % 16777216 ≡ number_from 0 line
value_room line fit room =
    let below = number_below 0 0 line (and_left (are_digits line) (leb (length line) 6) fit) (omega arith) in
    let e : 0 + length line ≡ length line = omega arith in
    let below' = rw e at below in
    let most = pow-le-pow_right {n = 16} (omega arith) room in
    mod-eq_of_lt (omega arith)

-- one more character
pub begun_more : (f : Feeding) (line : List ℕ) (c : ℕ) → eqb c 10 ≡ false → Begun f line → Begun (fed_byte f c) (line ++ (c ∷ []))
begun_more f line c e h =
    let longer = line ++ (c ∷ []) in
    let on = fits_more f line c h in
    rw (fed_character f c e)
    (record {
      counted = same_choice (may_go_on f.count c) (fits longer) (f.count + 1) (length longer) 7 on
          (λ fit. ap (λ n. n + 1) (count_by f line h true (fits_less line c fit).0) ∙ sym (length_more line c));
      valued = same_choice (may_go_on f.count c) (fits longer) (f.value % 16777216 * 16 + digit_of c) (number_from 0 longer) 0 on
          (λ fit. let less = fits_less line c fit in
          ap (λ v. v % 16777216 * 16 + digit_of c) (value_fits f line h less.0)
          ∙ ap (λ v. v * 16 + digit_of c) (value_room line less.0 less.1)
          ∙ sym (number_more 0 line c));
    })

-- ---- the line's request

-- the last two digits are the low byte, and the digits before them are what is above it
low_byte : (v c d : ℕ) → c < 16 → d < 16 → ((v * 16 + c) * 16 + d) % 256 ≡ c * 16 + d
low_byte v c d lc ld = omega arith

above_byte : (v c d : ℕ) → c < 16 → d < 16 → ((v * 16 + c) * 16 + d) / 256 ≡ v
above_byte v c d lc ld = omega arith

-- the same of four digits: the two bytes above the low one
middle_byte : (v c d e f : ℕ) → c < 16 → d < 16 → e < 16 → f < 16 → ((((v * 16 + c) * 16 + d) * 16 + e) * 16 + f) / 256 % 256 ≡ c * 16 + d
middle_byte v c d e f lc ld le lf = omega arith

above_bytes : (v c d e f : ℕ) → c < 16 → d < 16 → e < 16 → f < 16 → ((((v * 16 + c) * 16 + d) * 16 + e) * 16 + f) / 65536 ≡ v
above_bytes v c d e f lc ld le lf = omega arith

high_byte : (a b : ℕ) → (0 + a) * 16 + b ≡ a * 16 + b
high_byte a b = omega arith

-- digits that fit hold their frame
request_fits : (line : List ℕ) → are_digits line ≡ true → length line ≤ 6 → held_request (length line) (number_from 0 line) ≡ frame_of line
unfolding held_request
request_fits [] h l = refl
request_fits (a ∷ []) h l = refl
request_fits (a ∷ b ∷ []) h l = refl
request_fits (a ∷ b ∷ c ∷ []) h l = refl
request_fits (a ∷ b ∷ c ∷ d ∷ []) h l =
    let h₂ = more_digits b (c ∷ d ∷ []) (more_digits a (b ∷ c ∷ d ∷ []) h) in
    let lc = first_digit c (d ∷ []) h₂ in
    let ld = first_digit d [] (more_digits c (d ∷ []) h₂) in
    let v = (0 + digit_of a) * 16 + digit_of b in
    ap₂ short_frame (above_byte v (digit_of c) (digit_of d) lc ld ∙ high_byte (digit_of a) (digit_of b)) (low_byte v (digit_of c) (digit_of d) lc ld)
request_fits (a ∷ b ∷ c ∷ d ∷ e ∷ []) h l = refl
request_fits (a ∷ b ∷ c ∷ d ∷ e ∷ f ∷ []) h l =
    let h₂ = more_digits b (c ∷ d ∷ e ∷ f ∷ []) (more_digits a (b ∷ c ∷ d ∷ e ∷ f ∷ []) h) in
    let h₃ = more_digits c (d ∷ e ∷ f ∷ []) h₂ in
    let h₄ = more_digits d (e ∷ f ∷ []) h₃ in
    let lc = first_digit c (d ∷ e ∷ f ∷ []) h₂ in
    let ld = first_digit d (e ∷ f ∷ []) h₃ in
    let le = first_digit e (f ∷ []) h₄ in
    let lf = first_digit f [] (more_digits e (f ∷ []) h₄) in
    let v = (0 + digit_of a) * 16 + digit_of b in
    let high = above_bytes v (digit_of c) (digit_of d) (digit_of e) (digit_of f) lc ld le lf ∙ high_byte (digit_of a) (digit_of b) in
    let middle = middle_byte v (digit_of c) (digit_of d) (digit_of e) (digit_of f) lc ld le lf in
    let low = low_byte ((v * 16 + digit_of c) * 16 + digit_of d) (digit_of e) (digit_of f) le lf in
    λ i. long_frame (high i) (middle i) (low i)
request_fits (a ∷ b ∷ c ∷ d ∷ e ∷ f ∷ g ∷ rest) h l = absurd (omega arith)

-- a line of more than six characters has no frame
frame_long : (line : List ℕ) → 6 < length line → frame_of line ≡ none
frame_long [] l = absurd (omega arith)
frame_long (a ∷ []) l = refl
frame_long (a ∷ b ∷ []) l = refl
frame_long (a ∷ b ∷ c ∷ []) l = refl
frame_long (a ∷ b ∷ c ∷ d ∷ []) l = absurd (omega arith)
frame_long (a ∷ b ∷ c ∷ d ∷ e ∷ []) l = refl
frame_long (a ∷ b ∷ c ∷ d ∷ e ∷ f ∷ []) l = absurd (omega arith)
frame_long (a ∷ b ∷ c ∷ d ∷ e ∷ f ∷ g ∷ rest) l = refl

-- a line that doesn't fit has no request
request_spoilt : (line : List ℕ) → fits line ≡ false → none ≡ request_of line
unfolding request_of
request_spoilt line h =
    by_bool (are_digits line)
    (λ digits. sym (ap (λ t. if t then frame_of line else none) digits
    ∙ frame_long line (leb-false (length line) 6 (sym (ap (λ t. t && leb (length line) 6) digits) ∙ h))))
    (λ other. sym (ap (λ t. if t then frame_of line else none) other))

-- what is known of a line holds its request
pub begun_request : (f : Feeding) (line : List ℕ) → Begun f line → held_request f.count f.value ≡ request_of line
unfolding held_request request_of
begun_request f line h =
    by_bool (fits line)
    (λ fit. let digits = and_left (are_digits line) (leb (length line) 6) fit in
    ap₂ held_request (count_by f line h true fit) (value_fits f line h fit)
    ∙ request_fits line digits (leb-true (length line) 6 (and_right (are_digits line) (leb (length line) 6) fit))
    ∙ sym (ap (λ t. if t then frame_of line else none) digits))
    (λ spoilt. ap (λ n. held_request n f.value) (count_by f line h false spoilt) ∙ request_spoilt line spoilt)
