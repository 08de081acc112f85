-- A reason's text: at most 23 bytes, put together from words, at the start of its buffer. Assumes nothing.
use mathlib.Core.Bool.{Bool, true, false}
use mathlib.Core.List.{List, [], ◌++◌}
use mathlib.Core.Option as math
use mathlib.Core.Path.{◌≡◌, refl, sym, ◌∙◌, ap}
use Prim.Native.Nat.{ℕ, zero, suc, ◌+◌, ◌-◌, ◌≤◌}
use native.Mathlib.Nat.{add-zero, add_assoc}
use native.Mathlib.Omega.{arith}
use lib.ListN.{length, take, drop, replicate, length-append}
use lib.Seq.{sets, sets-eq, take_at}
use Rattle.rules.specs.Bench as rules
use Rattle.rules.specs.Requests.{Request}
use Rattle.rules.specs.ReadWrite.{read_write}
use Rattle.rules.specs.Reasons.{reason_of}
use Rattle.lines.specs.Bytes.{bytes_of}
use Rattle.lines.proofs.FeedLaws.{sets_append}
use Rattle.std.specs.Prelude.{Option, Some, None}
use Rattle.std.specs.Option.{option_map_or}
use Rattle.naming.specs.declared.Somebody.{Somebody}
use Rattle.naming.specs.declared.Reason.{Reason}
use Rattle.naming.specs.declared.text.Text.{Text}
use Rattle.naming.specs.Told.{told}
use Rattle.naming.specs.Text.{two_digits, ways_text, drains_text, named_text, reason_text, longest, padded, text_of, joined_to, reason_line}

-- ---- how long it is

pub ways_short : (reads writes : Bool) → length (ways_text reads writes) ≤ 8
ways_short true true = omega arith
ways_short true false = omega arith
ways_short false true = omega arith
ways_short false false = omega arith

pub drains_short : (drains : Bool) → length (drains_text drains) ≤ 9
drains_short true = omega arith
drains_short false = omega arith

pub name_short : (r : Somebody) → length (named_text r) ≤ 20
name_short r =
    rw (length-append (ways_text r.reads r.writes) (drains_text r.drains))
    (let ways = ways_short r.reads r.writes in let drains = drains_short r.drains in omega arith)

-- the text of whom a reason names, if it names somebody
who_short : (o : Option Somebody) → length (option_map_or named_text o []) ≤ 20
who_short None = omega arith
who_short (Some n) = name_short n

pub text_short : (r : Reason) → length (reason_text r) ≤ longest
text_short r =
    rw (length-append (option_map_or named_text r.names []) (bytes_of "\n")) (let short = who_short r.names in omega arith)

-- no line is explained in more
pub reason_short : (b : rules.Bench) (q : math.Option Request) → length (reason_line b q) ≤ longest
reason_short b q = text_short (told (reason_of read_write b q))

-- the first bytes of the buffer are the text
pub text_front : (r : Reason) → take (text_of r).size (text_of r).bytes ≡ reason_text r
text_front r = take_at (reason_text r) (replicate (longest - length (reason_text r)) 0) (length (reason_text r)) refl

-- ---- word by word

-- a text with no word more, and with two
pub joined_none : (t : Text) → t ≡ joined_to t []
joined_none t = ap (λ (n : ℕ). record { bytes = t.bytes; size = n }) (sym (add-zero t.size))

pub joined_twice : (t : Text) (x y : List ℕ) → joined_to (joined_to t x) y ≡ joined_to t (x ++ y)
joined_twice t x y = rw (sets_append, length-append x y, add_assoc)

-- and with four, who is named
pub joined_name : (t : Text) (r : Somebody) → joined_to (joined_to (joined_to (joined_to t (bytes_of " ")) (two_digits r.number)) (ways_text r.reads r.writes)) (drains_text r.drains) ≡ joined_to t (named_text r)
joined_name t r =
    joined_twice (joined_to (joined_to t (bytes_of " ")) (two_digits r.number)) (ways_text r.reads r.writes) (drains_text r.drains)
    ∙ joined_twice (joined_to t (bytes_of " ")) (two_digits r.number) (ways_text r.reads r.writes ++ drains_text r.drains)
    ∙ joined_twice t (bytes_of " ") (two_digits r.number ++ (ways_text r.reads r.writes ++ drains_text r.drains))

drop_zeros : (n k : ℕ) → drop {A = ℕ} k (replicate n 0) ≡ replicate (n - k) 0
drop_zeros n zero = let e : n - 0 ≡ n = omega arith in rw e
drop_zeros zero (suc k) = let e : zero - suc k ≡ 0 = omega arith in rw e
drop_zeros (suc n) (suc k) = let e : suc n - suc k ≡ n - k = omega arith in rw e (drop_zeros n k)

-- a text that is put together from nothing stands at the start of the buffer, with 0 behind it
pub joined_blank : (text : List ℕ) → length text ≤ longest → joined_to (padded []) text ≡ padded text
joined_blank text fits = λ i. record { bytes = stored i; size = count i }
  where
    count : 0 + length text ≡ length text
    count = omega arith

    stored : sets (replicate longest 0) 0 text ≡ text ++ replicate (longest - length text) 0
    stored =
        sets-eq text (replicate longest 0) 0 (rw count fits)
        ∙ ap (λ (n : ℕ). text ++ drop n (replicate longest 0)) count
        ∙ ap (λ (rest : List ℕ). text ++ rest) (drop_zeros longest (length text))

-- the words of a reason that names somebody, and of one that names nobody, are its text
pub named_text_lem : (r : Reason) (s : Somebody) → r.names ≡ Some s → joined_to (joined_to (joined_to (padded []) (two_digits r.answer)) (named_text s)) (bytes_of "\n") ≡ text_of r
named_text_lem r s names =
    joined_twice (joined_to (padded []) (two_digits r.answer)) (named_text s) (bytes_of "\n")
    ∙ joined_twice (padded []) (two_digits r.answer) (named_text s ++ bytes_of "\n")
    ∙ ap (joined_to (padded [])) whole
    ∙ joined_blank (reason_text r) (text_short r)
  where
    whole : two_digits r.answer ++ (named_text s ++ bytes_of "\n") ≡ reason_text r
    whole = rw names

pub nobody_text : (r : Reason) → r.names ≡ None → joined_to (joined_to (padded []) (two_digits r.answer)) (bytes_of "\n") ≡ text_of r
nobody_text r names =
    joined_twice (padded []) (two_digits r.answer) (bytes_of "\n") ∙ ap (joined_to (padded [])) whole ∙ joined_blank (reason_text r) (text_short r)
  where
    whole : two_digits r.answer ++ bytes_of "\n" ≡ reason_text r
    whole = rw names
