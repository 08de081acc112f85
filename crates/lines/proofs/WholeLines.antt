-- Lines that end within the input: digits and 0a, fed from a line's start, are answered as the frame of the digits is. Assumes nothing.
use Rattle.std.specs.Prelude.{if◌then◌else◌}
use mathlib.Core.Path.{◌≡◌, refl, ◌∙◌, ap, ap₂, subst}
use mathlib.Core.Bool.{true, false, ◌&&◌}
use mathlib.Core.List.{List, [], ◌∷◌, ◌++◌, append_assoc, append-nil}
use mathlib.Core.Option.{Option, none}
use Prim.Native.Nat.{ℕ, zero, suc, ◌+◌, ◌≤◌, ◌<◌}
use native.Mathlib.Nat.{add-zero}
use native.Mathlib.Omega.{arith}
use borrow.Author.Tests.{ne_eqb, ltb-true}
use lib.Dec.{eqb, ltb}
use lib.ListN.{length, get_or, take, drop}
use lib.Seq.{drop-cons}
use Rattle.digits.specs.Digits.{digit_of}
use Rattle.rules.specs.Bench as rules
use Rattle.rules.specs.Requests.{Request}
use Rattle.rules.proofs.Tests.{by_bool, and_left, and_right}
use Rattle.rules.specs.Answers.{answered}
use Rattle.rules.specs.ReadWrite.{read_write}
use Rattle.lines.specs.Lines.{are_digits, byte_of, short_frame, long_frame, frame_of, request_of}
use Rattle.lines.specs.Feeding.{Feeding, between, held_request, fed_byte, said_byte_by, fed, said_by}
use Rattle.lines.specs.NextEnds.{pair_of, EndsAs}
use Rattle.lines.proofs.BegunLines.{Begun, begun_none, begun_more, begun_request, fed_character}
use Rattle.lines.proofs.LineFeeding.{fed_append, said_append}

-- a digit ends no line
digit_unended : (c : ℕ) → ltb (digit_of c) 16 ≡ true → eqb c 10 ≡ false
digit_unended c h =
    ne_eqb c 10 (λ e. let below = rw e at (ltb-true (digit_of c) 16 h) in let other : digit_of 10 ≡ 16 = refl in absurd (omega arith))

-- ---- digits, fed one by one

-- Digits have come after a line that had begun: nothing was said, the bench stayed, and they are known.
record DigitsFed (f : Feeding) (before line : List ℕ) : Type 0 where
  silent : (say : rules.Bench → Option Request → List ℕ) → said_by say f line ≡ []
  kept : (fed f line).bench ≡ f.bench
  begun : Begun (fed f line) (before ++ line)

digits_fed : (line : List ℕ) (f : Feeding) (before : List ℕ) → are_digits line ≡ true → Begun f before → DigitsFed f before line
unfolding fed said_by said_byte_by
digits_fed [] f before h g = record { silent = λ say. refl; kept = refl; begun = rw append-nil g }
digits_fed (c ∷ line) f before h g =
    let on = digit_unended c (and_left (ltb (digit_of c) 16) (are_digits line) h) in
    let more = digits_fed line (fed_byte f c) (before ++ (c ∷ [])) (and_right (ltb (digit_of c) 16) (are_digits line) h) (begun_more f before c on g) in
    record {
      silent = λ say. rw on (more.silent say);
      kept = more.kept ∙ ap (λ (x : Feeding). x.bench) (fed_character f c on);
      begun = subst (λ l. Begun (fed (fed_byte f c) line) l) (append_assoc before (c ∷ []) line) more.begun;
    }

-- the end of a line of digits
pub digits_end : (line : List ℕ) → are_digits line ≡ true → EndsAs 0 0 (line ++ (10 ∷ [])) (frame_of line)
unfolding fed said_by fed_byte said_byte_by request_of
digits_end line h = record { leads = leads; says = says }
  where
    ended : (b : rules.Bench) → DigitsFed (between b) [] line
    ended b = digits_fed line (between b) [] h (begun_none b)

    request : (b : rules.Bench) → held_request (fed (between b) line).count (fed (between b) line).value ≡ frame_of line
    request b =
        begun_request (fed (between b) line) line (ended b).begun ∙ ap (λ t. if t then frame_of line else none) h

    leads : (b : rules.Bench) → fed (between b) (line ++ (10 ∷ [])) ≡ between (answered read_write b (frame_of line)).next
    leads b =
        fed_append (between b) line (10 ∷ [])
        ∙ ap₂ (λ bench r. between (answered read_write bench r).next) (ended b).kept (request b)

    says : (say : rules.Bench → Option Request → List ℕ) (b : rules.Bench) → said_by say (between b) (line ++ (10 ∷ [])) ≡ say b (frame_of line)
    says say b =
        said_append say (between b) line (10 ∷ [])
        ∙ ap (λ text. text ++ said_by say (fed (between b) line) (10 ∷ [])) ((ended b).silent say)
        ∙ append-nil (say (fed (between b) line).bench (held_request (fed (between b) line).count (fed (between b) line).value))
        ∙ ap₂ say (ended b).kept (request b)

-- ---- characters of the input

-- n characters of a list, from place at + i on
abbrev pub characters : ℕ → List ℕ → ℕ → ℕ → List ℕ
characters zero l at i = []
characters (suc n) l at i = get_or l (at + i) 0 ∷ characters n l at (i + 1)

pub take_characters : (n : ℕ) (l : List ℕ) (at i : ℕ) → at + i + n ≤ length l → take n (drop (at + i) l) ≡ characters n l at i
take_characters zero l at i h = refl
take_characters (suc n) l at i h =
    let next : suc (at + i) ≡ at + (i + 1) = omega arith in
    rw (drop-cons l (at + i) 0 (omega arith), next)
    (ap (λ (rest : List ℕ). get_or l (at + i) 0 ∷ rest) (take_characters n l at (i + 1) (omega arith)))

-- ---- pairs of digits

pub pair_digits : (high low : ℕ) → pair_of high low < 256 → (ltb (digit_of high) 16 ≡ true) × (ltb (digit_of low) 16 ≡ true) × (pair_of high low ≡ byte_of high low)
pair_digits high low h =
    by_bool (ltb (digit_of high) 16 && ltb (digit_of low) 16)
    (λ both. (
      and_left (ltb (digit_of high) 16) (ltb (digit_of low) 16) both,
      and_right (ltb (digit_of high) 16) (ltb (digit_of low) 16) both,
      ap (λ t. if t then byte_of high low else 256) both,
    ))
    (λ other. let e = ap (λ t. if t then byte_of high low else 256) other in absurd (omega arith))

-- four digits and 0a
pub short_ends : (a b c d : ℕ) → pair_of a b < 256 → pair_of c d < 256 → EndsAs 0 0 (a ∷ b ∷ c ∷ d ∷ 10 ∷ []) (short_frame (pair_of a b) (pair_of c d))
short_ends a b c d h g =
    let first = pair_digits a b h in
    let second = pair_digits c d g in
    rw (first.2, second.2) (digits_end (a ∷ b ∷ c ∷ d ∷ []) (rw (first.0, first.1, second.0, second.1)))

-- six digits and 0a
pub long_ends : (a b c d e f : ℕ) → pair_of a b < 256 → pair_of c d < 256 → pair_of e f < 256 → EndsAs 0 0 (a ∷ b ∷ c ∷ d ∷ e ∷ f ∷ 10 ∷ []) (long_frame (pair_of a b) (pair_of c d) (pair_of e f))
long_ends a b c d e f h g k =
    let first = pair_digits a b h in
    let second = pair_digits c d g in
    let third = pair_digits e f k in
    rw (first.2, second.2, third.2)
    (digits_end (a ∷ b ∷ c ∷ d ∷ e ∷ f ∷ []) (rw (first.0, first.1, second.0, second.1, third.0, third.1)))

-- ---- in the input

module _ (input : List ℕ) (at : ℕ) (room : at + 7 ≤ length input) where
  -- so many characters from a place on
  front : (n : ℕ) → n ≤ 7 → take n (drop at input) ≡ characters n input at 0
  front n h = rw add-zero at (take_characters n input at 0 (omega arith))

  -- p and q are what the first four characters write
  module _ {p q : ℕ} (e : p ≡ pair_of (get_or input at 0) (get_or input (at + 1) 0)) (h : p < 256)
      (g : q ≡ pair_of (get_or input (at + 2) 0) (get_or input (at + 3) 0)) (k : q < 256) where
    pub short_whole : get_or input (at + 4) 0 ≡ 10 → EndsAs 0 0 (take 5 (drop at input)) (short_frame p q)
    short_whole end = rw (line, end, e, g) (short_ends _ _ _ _ (rw e at h) (rw g at k))
      where
        line : take 5 (drop at input) ≡ get_or input at 0 ∷ get_or input (at + 1) 0 ∷ get_or input (at + 2) 0 ∷ get_or input (at + 3) 0 ∷ get_or input (at + 4) 0 ∷ []
        line = rw add-zero at (front 5 (omega arith))

    -- and r what the next two write
    pub long_whole : {r : ℕ} → r ≡ pair_of (get_or input (at + 4) 0) (get_or input (at + 5) 0) → r < 256 → get_or input (at + 6) 0 ≡ 10 → EndsAs 0 0 (take 7 (drop at input)) (long_frame p q r)
    long_whole e₃ h₃ end = rw (line, end, e, g, e₃) (long_ends _ _ _ _ _ _ (rw e at h) (rw g at k) (rw e₃ at h₃))
      where
        line : take 7 (drop at input) ≡ get_or input at 0 ∷ get_or input (at + 1) 0 ∷ get_or input (at + 2) 0 ∷ get_or input (at + 3) 0 ∷ get_or input (at + 4) 0 ∷ get_or input (at + 5) 0 ∷ get_or input (at + 6) 0 ∷ []
        line = rw add-zero at (front 7 (omega arith))

-- the 0a of the line that has begun
pub begun_ends : {count value : ℕ} (input : List ℕ) (at : ℕ) → at < length input → get_or input at 0 ≡ 10 → EndsAs count value (take 1 (drop at input)) (held_request count value)
unfolding fed said_by fed_byte said_byte_by
begun_ends {count} {value} input at inside end =
    let line : take 1 (drop at input) ≡ get_or input at 0 ∷ [] = rw add-zero at (take_characters 1 input at 0 (omega arith)) in
    rw (line, end) (record { leads = λ b. refl; says = λ say b. append-nil (say b (held_request count value)) })
