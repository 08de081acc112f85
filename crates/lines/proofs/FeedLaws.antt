-- Feeding, byte by byte: what one byte gives, what is left after each turn of the loop over bytes, and how long what is written can be. Assumes
-- nothing.
use mathlib.Core.Path.{◌≡◌, refl, sym, ◌∙◌, ap}
use mathlib.Core.Bool.{Bool, true, false, ◌&&◌, and_comm}
use mathlib.Core.List.{List, [], ◌∷◌, ◌++◌}
use mathlib.Core.Option.{Option}
use Prim.Native.Nat.{ℕ, zero, suc, ◌+◌, ◌*◌, ◌-◌, ◌/◌, ◌%◌, ◌≤◌, ◌<◌}
use native.Mathlib.Nat.{add-zero, add-suc, suc-add, zero-add, mul-suc, mul-add, mul-le-mul_left, mul-div-le, mod-eq_of_lt}
use native.Mathlib.Numerals.{add-one}
use native.Mathlib.Omega.{arith}
use borrow.Author.Tests.{ne_eqb, lt-ltb, le-ltb}
use lib.Dec.{eqb, ltb}
use lib.ListN.{length, set, take, drop, length-append, length-drop, take-append-drop}
use lib.Seq.{sets, length-sets, drop-drop, drop-length, length-take-le}
use Rattle.digits.specs.Digits.{hex_digit, digit_of}
use Rattle.rules.specs.Bench as rules
use Rattle.rules.specs.Requests.{Request}
use Rattle.rules.proofs.Tests.{by_bool, and_both}
use Rattle.views.specs.View.{view}
use Rattle.views.specs.Arrays.{LineEnded}
use Rattle.lines.specs.Lines.{answer_text}
use Rattle.lines.specs.Feeding.{Feeding, between, held_request, may_go_on, count_after, value_after, fed_byte, said_byte_by, fed, said_by, taken_by, taken, feeding_of, FedBytesBy}
use Rattle.lines.specs.NextEnds.{EndsAs, FedOnBy}
use Rattle.lines.proofs.LineFeeding.{fed_append, said_append}

-- ---- how long

-- no line's text is longer than so many bytes
abbrev pub Within : (rules.Bench → Option Request → List ℕ) → ℕ → Type 0
Within say width = (b : rules.Bench) (r : Option Request) → length (say b r) ≤ width

module _ (say : rules.Bench → Option Request → List ℕ) (width : ℕ) (short : Within say width) where
  pub said_byte_short : (f : Feeding) (c : ℕ) → length (said_byte_by say f c) ≤ width
  unfolding said_byte_by
  said_byte_short f c =
      by_bool (eqb c 10) (λ t. rw t (short f.bench (held_request f.count f.value))) (λ t. rw t (omega arith))

  pub said_short : (f : Feeding) (bytes : List ℕ) → length (said_by say f bytes) ≤ width * length bytes
  unfolding said_by
  said_short f [] = omega arith
  said_short f (c ∷ rest) =
      let here = said_byte_short f c in
      let later = said_short (fed_byte f c) rest in
      let more : width * suc (length rest) ≡ width * length rest + width = mul-suc width (length rest) in
      rw length-append (omega arith)

-- stores of two runs, one after the other
pub sets_append : (l : List ℕ) (at : ℕ) (xs ys : List ℕ) → sets l at (xs ++ ys) ≡ sets (sets l at xs) (at + length xs) ys
sets_append l at [] ys = ap (λ k. sets l k ys) (sym (add-zero at))
sets_append l at (x ∷ xs) ys =
    sets_append (set l at x) (suc at) xs ys
    ∙ ap (λ k. sets (sets (set l at x) (suc at) xs) k ys) (suc-add at (length xs) ∙ sym (add-suc at (length xs)))

-- an answer's three characters, as they are put one by one
pub answer_put : (out : List ℕ) (at answer d : ℕ) → answer < 16 → d ≡ hex_digit (answer % 16) → set (set (set out at 48) (at + 1) d) (at + 2) 10 ≡ sets out at (answer_text answer)
answer_put out at answer d h e =
    let two : at + 2 ≡ suc (suc at) = omega arith in
    let f : d ≡ hex_digit answer = e ∙ ap hex_digit (mod-eq_of_lt h) in
    rw (two, add-one, f)

-- ---- whether a line goes on

module _ (count c : ℕ) where
  pub ends_long : 6 ≤ count → may_go_on count c ≡ false
  ends_long h = rw (le-ltb count 6 h)

  -- d is what the character is worth
  module _ (d : ℕ) (e : d ≡ digit_of c) where
    pub goes_on : count < 6 → ltb d 16 ≡ true → may_go_on count c ≡ true
    goes_on h t = and_both (ltb count 6) (ltb (digit_of c) 16) (lt-ltb count 6 h) (rw e at t)

    pub ends_other : ltb d 16 ≡ false → may_go_on count c ≡ false
    ends_other t = and_comm (ltb count 6) (ltb (digit_of c) 16) ∙ ap (λ (t : Bool). t && ltb count 6) (rw e at t)

-- ---- what comes next

-- the end of a line, where its text is put
pub line_fed : {say : rules.Bench → Option Request → List ℕ} {ok : Bool} {r : Option Request} {parents states reads writes : List ℕ} {count value : ℕ} {bytes : List ℕ} {answer : ℕ} {parents' states' reads' writes' out out' text : List ℕ} {at at' : ℕ} → EndsAs count value bytes r → LineEnded ok r parents states reads writes answer parents' states' reads' writes' → text ≡ say (view parents states reads writes) r → out' ≡ sets out at text → at' ≡ at + length text → FedBytesBy say (feeding_of parents states reads writes count value) bytes out at (feeding_of parents' states' reads' writes' 0 0) out' at'
line_fed {say = say} {parents = parents} {states = states} {reads = reads} {writes = writes} {out = out} {at = at} e m is put up =
    let b : rules.Bench = view parents states reads writes in
    record {
      is = ap (λ o. between o.next) m.outcome ∙ sym (e.leads b);
      wrote = put ∙ ap (sets out at) (is ∙ sym (e.says say b));
      up_to = up ∙ ap (λ l. at + length l) (is ∙ sym (e.says say b));
    }

-- any other byte
pub character_fed : {say : rules.Bench → Option Request → List ℕ} {f : Feeding} {c count value : ℕ} {out : List ℕ} {at : ℕ} → (c ≡ 10 → ⊥) → count ≡ count_after f.count c → value ≡ value_after f.count f.value c → FedBytesBy say f (c ∷ []) out at (record { bench = f.bench; count = count; value = value }) out at
unfolding fed fed_byte said_by said_byte_by
character_fed {c = c} {at = at} other e g =
    let t = ne_eqb c 10 other in record { is = rw (t, e, g); wrote = rw t; up_to = rw t (sym (add-zero at)) }

-- so many bytes from a place on have been fed
pub fed_on : {say : rules.Bench → Option Request → List ℕ} {from : Feeding} {input : List ℕ} {at size at' : ℕ} {bytes out : List ℕ} {written : ℕ} {now : Feeding} {out' : List ℕ} {written' : ℕ} → at' ≡ at + size → (size ≡ 0 → ⊥) → at' ≤ length input → bytes ≡ take size (drop at input) → FedBytesBy say from bytes out written now out' written' → FedOnBy say from input at at' out written now out' written'
fed_on {at = at} {size = size} e some within same m =
    let more = positive size some in
    let n : at + size - at ≡ size = omega arith in
    record { moved = omega arith; within = within; bytes = rw (e, n, ← same) m }
  where
    positive : (n : ℕ) → (n ≡ 0 → ⊥) → 0 < n
    positive zero h = absurd (h refl)
    positive (suc n) h = omega arith

-- ---- the loop over bytes

-- What is left after i bytes: the rest, fed from here, leads where all bytes lead from the start, and there is room for
-- what is written for it.
pub record Left (say : rules.Bench → Option Request → List ℕ) (width : ℕ) (start : Feeding) (input out₀ : List ℕ) (now : Feeding) (out : List ℕ) (written i : ℕ) : Type 0 where
  pub within : i ≤ length input
  pub leads : fed now (drop i input) ≡ fed start input
  pub writes : sets out written (said_by say now (drop i input)) ≡ sets out₀ 0 (said_by say start input)
  pub ends : written + length (said_by say now (drop i input)) ≡ length (said_by say start input)
  pub room : written + width * (length input - i) ≤ length out
  pub long : length out ≡ length out₀

module _ {say : rules.Bench → Option Request → List ℕ} {width : ℕ} {start : Feeding} {input out₀ : List ℕ} where
  pub left_none : width * length input ≤ length out₀ → Left say width start input out₀ start out₀ 0 0
  left_none h =
      let all : length input - 0 ≡ length input = omega arith in
      record { within = omega arith; leads = refl; writes = refl; ends = zero-add _; room = rw all (omega arith); long = refl }

  pub left_more : {now now' : Feeding} {out out' : List ℕ} {written written' i i' : ℕ} → Within say width → Left say width start input out₀ now out written i → FedOnBy say now input i i' out written now' out' written' → Left say width start input out₀ now' out' written' i'
  left_more {now} {now'} {out} {out'} {written} {written'} {i} {i'} within_width l on =
      let m = on.bytes in
      let moved = on.moved in
      let within = on.within in
      let bytes : List ℕ = take (i' - i) (drop i input) in
      let rest : List ℕ = drop i' input in
      let there : i + (i' - i) ≡ i' = omega arith in
      let split : drop i input ≡ bytes ++ rest = sym (take-append-drop (i' - i) (drop i input)) ∙ ap (λ l. bytes ++ l) (drop-drop (i' - i) i input ∙ ap (λ k. drop k input) there) in
      let long : length out' ≡ length out = ap length m.wrote ∙ length-sets out written (said_by say now bytes) in
      let short = said_short say width within_width now bytes in
      let many : length bytes ≡ i' - i = length-take-le (i' - i) (drop i input) (rw length-drop (omega arith)) in
      let room = l.room in
      let parts : length input - i ≡ (i' - i) + (length input - i') = omega arith in
      let split_room : width * (length input - i) ≡ width * (i' - i) + width * (length input - i') = ap (λ n. width * n) parts ∙ mul-add width (i' - i) (length input - i') in
      let fed_room : width * length bytes ≡ width * (i' - i) = ap (λ n. width * n) many in
      let up_to = m.up_to in
      let said_all : said_by say now (drop i input) ≡ said_by say now bytes ++ said_by say now' rest = ap (said_by say now) split ∙ said_append say now bytes rest ∙ ap (λ f. said_by say now bytes ++ said_by say f rest) (sym m.is) in
      record {
        within = within;
        leads = ap (λ f. fed f rest) m.is ∙ sym (fed_append now bytes rest) ∙ ap (fed now) (sym split) ∙ l.leads;
        writes =
            rw (m.wrote, up_to)
            (sym (sets_append out written (said_by say now bytes) (said_by say now' rest)) ∙ ap (sets out written) (sym said_all) ∙ l.writes);
        ends =
            (let e : length (said_by say now (drop i input)) ≡ length (said_by say now bytes) + length (said_by say now' rest) = ap length said_all ∙ length-append (said_by say now bytes) (said_by say now' rest) in
            let ends = l.ends in
            omega arith);
        room = omega arith;
        long = long ∙ l.long;
      }

  -- room for the next line
  pub left_room : {now : Feeding} {out : List ℕ} {written i : ℕ} → i < length input → Left say width start input out₀ now out written i → written + width ≤ length out
  left_room {i = i} inside l =
      let room = l.room in
      let one : length input - i ≡ suc (length input - suc i) = omega arith in
      let more : width * (length input - i) ≡ width * (length input - suc i) + width = ap (λ n. width * n) one ∙ mul-suc width (length input - suc i) in
      omega arith

  pub left_all : {now : Feeding} {out : List ℕ} {written i : ℕ} → length input ≤ i → Left say width start input out₀ now out written i → FedBytesBy say start input out₀ 0 now out written
  unfolding fed said_by
  left_all {i = i} h l =
      let within = l.within in
      let e : i ≡ length input = omega arith in
      let d : drop i input ≡ [] = rw e (drop-length input) in
      let ends = rw d at l.ends in
      record { is = rw d at l.leads; wrote = rw d at l.writes; up_to = omega arith }

pub fed_long : {say : rules.Bench → Option Request → List ℕ} {from : Feeding} {bytes out : List ℕ} {at : ℕ} {now : Feeding} {out' : List ℕ} {at' : ℕ} → FedBytesBy say from bytes out at now out' at' → length out' ≡ length out
fed_long {say} {from} {bytes} {out} {at} m = ap length m.wrote ∙ length-sets out at (said_by say from bytes)

-- ---- a player

-- what is taken of the input
module _ (width : ℕ) (input out : List ℕ) (used : ℕ) (e : used ≡ taken_by width input out) where
  pub taken_by_long : used ≡ length (take used input)
  taken_by_long = let h : used ≤ length input = omega arith in sym (length-take-le used input h)

  pub taken_by_fits : width * length (take used input) ≤ length out
  taken_by_fits =
      let long = taken_by_long in
      let least : length (take used input) ≤ length out / width = omega arith in
      let scaled = mul-le-mul_left width least in
      let most = mul-div-le (length out) width in
      omega arith

-- with room for answers
module _ (input out : List ℕ) (used : ℕ) (e : used ≡ taken input out) where
  pub taken_long : used ≡ length (take used input)
  taken_long = taken_by_long 3 input out used e

  pub taken_fits : 3 * length (take used input) ≤ length out
  taken_fits = taken_by_fits 3 input out used e
