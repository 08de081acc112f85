-- Feeding a trace byte by byte, in chunks cut anywhere, gives what the definition of trace lines gives: the same answers and the same bench in the end.
-- Assumes nothing.
use Rattle.std.specs.Prelude.{if◌then◌else◌}
use mathlib.Core.Path.{◌≡◌, refl, sym, ◌∙◌, ap, ap₂, subst}
use mathlib.Core.Bool.{Bool, true, false, not, ◌&&◌}
use mathlib.Core.List.{List, [], ◌∷◌, ◌++◌, append_assoc, append-nil, flatten}
use mathlib.Core.Option.{Option}
use Prim.Native.Nat.{ℕ}
use native.Mathlib.Omega.{arith}
use lib.Dec.{eqb}
use borrow.Author.Tests.{eqb-true, ne_eqb, not-true}
use Rattle.rules.specs.Bench as rules
use Rattle.rules.specs.Requests.{Request}
use Rattle.rules.proofs.Tests.{by_bool, and_left, and_right, and_both}
use Rattle.rules.specs.Answers.{answered}
use Rattle.rules.specs.ReadWrite.{read_write}
use Rattle.lines.specs.Lines.{before, lines_of, request_of, answer_line, written_by, left_by, output_by}
use Rattle.lines.specs.Feeding.{Feeding, between, held_request, fed_byte, said_byte_by, fed, said_by, said_at_end_by}
use Rattle.lines.proofs.BegunLines.{fits, Begun, begun_none, begun_more, begun_request, count_by, fed_character}

-- ---- any way to cut the input

pub fed_append : (f : Feeding) (xs ys : List ℕ) → fed f (xs ++ ys) ≡ fed (fed f xs) ys
unfolding fed
fed_append f [] ys = refl
fed_append f (c ∷ xs) ys = fed_append (fed_byte f c) xs ys

-- after chunks
unfoldable pub fed_chunks : Feeding → List (List ℕ) → Feeding
fed_chunks f [] = f
fed_chunks f (chunk ∷ chunks) = fed_chunks (fed f chunk) chunks

pub any_cut_fed : (f : Feeding) (chunks : List (List ℕ)) → fed_chunks f chunks ≡ fed f (flatten chunks)
unfolding fed_chunks fed flatten
any_cut_fed f [] = refl
any_cut_fed f (chunk ∷ chunks) = any_cut_fed (fed f chunk) chunks ∙ sym (fed_append f chunk (flatten chunks))

module _ (say : rules.Bench → Option Request → List ℕ) where
  pub said_append : (f : Feeding) (xs ys : List ℕ) → said_by say f (xs ++ ys) ≡ said_by say f xs ++ said_by say (fed f xs) ys
  unfolding fed said_by
  said_append f [] ys = refl
  said_append f (c ∷ xs) ys =
      ap (λ said'. said_byte_by say f c ++ said') (said_append (fed_byte f c) xs ys)
      ∙ sym (append_assoc (said_byte_by say f c) (said_by say (fed_byte f c) xs) (said_by say (fed (fed_byte f c) xs) ys))

  -- what is written for chunks
  unfoldable pub said_chunks : Feeding → List (List ℕ) → List ℕ
  said_chunks f [] = []
  said_chunks f (chunk ∷ chunks) = said_by say f chunk ++ said_chunks (fed f chunk) chunks

  pub any_cut : (f : Feeding) (chunks : List (List ℕ)) → said_chunks f chunks ≡ said_by say f (flatten chunks)
  unfolding said_chunks said_by flatten
  any_cut f [] = refl
  any_cut f (chunk ∷ chunks) =
      ap (λ rest. said_by say f chunk ++ rest) (any_cut (fed f chunk) chunks)
      ∙ sym (said_append f chunk (flatten chunks))

-- ---- the lines of a trace

-- no character ends the line
abbrev pub unended : List ℕ → Bool
unended [] = true
unended (c ∷ rest) = not (eqb c 10) && unended rest

unended_more : (line : List ℕ) (c : ℕ) → unended line ≡ true → eqb c 10 ≡ false → unended (line ++ (c ∷ [])) ≡ true
unended_more [] c h e = rw e
unended_more (a ∷ line) c h e =
    and_both (not (eqb a 10)) (unended (line ++ (c ∷ []))) (and_left (not (eqb a 10)) (unended line) h)
    (unended_more line c (and_right (not (eqb a 10)) (unended line) h) e)

lines_character : (c : ℕ) (rest : List ℕ) → eqb c 10 ≡ false → lines_of (c ∷ rest) ≡ before c (lines_of rest)
unfolding lines_of
lines_character c rest e = ap (λ t. if t then [] ∷ lines_of rest else before c (lines_of rest)) e

first_goes_on : (c : ℕ) (line : List ℕ) → unended (c ∷ line) ≡ true → eqb c 10 ≡ false
first_goes_on c line h = not-true (eqb c 10) (and_left (not (eqb c 10)) (unended line) h)

lines_ended : (line rest : List ℕ) → unended line ≡ true → lines_of (line ++ (10 ∷ rest)) ≡ line ∷ lines_of rest
unfolding lines_of
lines_ended [] rest h = refl
lines_ended (c ∷ line) rest h =
    lines_character c (line ++ (10 ∷ rest)) (first_goes_on c line h)
    ∙ ap (before c) (lines_ended line rest (and_right (not (eqb c 10)) (unended line) h))

-- a last line that lacks its 0a
lines_last : (c : ℕ) (line : List ℕ) → unended (c ∷ line) ≡ true → lines_of (c ∷ line) ≡ (c ∷ line) ∷ []
unfolding lines_of
lines_last c [] h = lines_character c [] (first_goes_on c [] h)
lines_last c (d ∷ line) h =
    lines_character c (d ∷ line) (first_goes_on c (d ∷ line) h)
    ∙ ap (before c) (lines_last d line (and_right (not (eqb c 10)) (unended (d ∷ line)) h))

-- ---- feeding is the lines

-- The bench after the end of the input: a last line that lacks its 0a is done if it has at least one character.
unfoldable pub left_at_end : Feeding → rules.Bench
left_at_end f = if eqb f.count 0 then f.bench else (fed_byte f 10).bench

-- a line of at least one character shows in the count
count_begun : (f : Feeding) (c : ℕ) (line : List ℕ) → Begun f (c ∷ line) → eqb f.count 0 ≡ false
count_begun f c line h =
    ne_eqb f.count 0
    (λ z. by_bool (fits (c ∷ line)) (λ fit. let e = count_by f (c ∷ line) h true fit in omega arith)
    (λ spoilt. let e = count_by f (c ∷ line) h false spoilt in omega arith))

module _ (say : rules.Bench → Option Request → List ℕ) where
  -- From f on, what is written for the rest of a trace is what is written for these lines, and it leaves what they leave.
  pub record PlaysAs (f : Feeding) (rest : List ℕ) (lines : List (List ℕ)) : Type 0 where
    pub says : said_by say f rest ++ said_at_end_by say (fed f rest) ≡ written_by say f.bench lines
    pub leaves : left_at_end (fed f rest) ≡ left_by f.bench lines

  -- the end of the input, with a line begun or none
  at_end : (f : Feeding) (line : List ℕ) → Begun f line → unended line ≡ true → PlaysAs f [] (lines_of line)
  unfolding said_by fed said_at_end_by left_at_end said_byte_by fed_byte lines_of written_by left_by
  at_end f [] h u =
      record {
        says = ap (λ n. if eqb n 0 then [] else said_byte_by say f 10) h.counted;
        leaves = ap (λ n. if eqb n 0 then f.bench else (fed_byte f 10).bench) h.counted;
      }
  at_end f (c ∷ line) h u =
      let e = count_begun f c line h in
      let r = begun_request f (c ∷ line) h in
      subst (λ lines. PlaysAs f [] lines) (sym (lines_last c line u))
      (record {
        says = ap (λ t. if t then [] else said_byte_by say f 10) e
            ∙ ap (λ q. say f.bench q) r
            ∙ sym (append-nil (say f.bench (request_of (c ∷ line))));
        leaves = ap (λ t. if t then f.bench else (fed_byte f 10).bench) e ∙ ap (λ q. (answered read_write f.bench q).next) r;
      })

  -- a byte 0a
  line_ends : (f : Feeding) (line rest : List ℕ) → Begun f line → unended line ≡ true →
      PlaysAs (between (answered read_write f.bench (request_of line)).next) rest (lines_of rest) → PlaysAs f (10 ∷ rest) (lines_of (line ++ (10 ∷ rest)))
  unfolding said_by fed said_byte_by fed_byte written_by left_by
  line_ends f line rest h u p =
      let e = begun_request f line h in
      rw (lines_ended line rest u)
      (record {
        says = append_assoc (say f.bench (held_request f.count f.value))
            (said_by say (between (answered read_write f.bench (held_request f.count f.value)).next) rest)
            (said_at_end_by say (fed (between (answered read_write f.bench (held_request f.count f.value)).next) rest))
            ∙ ap (λ r. let next = (answered read_write f.bench r).next in say f.bench r ++ (said_by say (between next) rest ++ said_at_end_by say (fed (between next) rest))) e
            ∙ ap (λ text. say f.bench (request_of line) ++ text) p.says;
        leaves = ap (λ r. left_at_end (fed (between (answered read_write f.bench r).next) rest)) e ∙ p.leaves;
      })

  -- any other byte
  line_goes_on : (f : Feeding) (line : List ℕ) (c : ℕ) (rest : List ℕ) → eqb c 10 ≡ false → PlaysAs (fed_byte f c) rest (lines_of ((line ++ (c ∷ [])) ++ rest)) → PlaysAs f (c ∷ rest) (lines_of (line ++ (c ∷ rest)))
  unfolding said_by fed said_byte_by
  line_goes_on f line c rest e p =
      let same_bench = fed_character f c e in
      let same_lines = append_assoc line (c ∷ []) rest in
      record {
        says = ap (λ t. ((if t then say f.bench (held_request f.count f.value) else []) ++ said_by say (fed_byte f c) rest) ++ said_at_end_by say (fed (fed_byte f c) rest)) e
            ∙ p.says
            ∙ (λ i. written_by say (same_bench i).bench (lines_of (same_lines i)));
        leaves = p.leaves ∙ (λ i. left_by (same_bench i).bench (lines_of (same_lines i)));
      }

  -- from a line that has begun
  pub plays_lines : (rest : List ℕ) (f : Feeding) (line : List ℕ) → Begun f line → unended line ≡ true → PlaysAs f rest (lines_of (line ++ rest))
  plays_lines [] f line h u = rw (append-nil line) (at_end f line h u)
  plays_lines (c ∷ rest) f line h u =
      by_bool (eqb c 10)
      (λ end. let next = (answered read_write f.bench (request_of line)).next in
      rw (eqb-true c 10 end) (line_ends f line rest h u (plays_lines rest (between next) [] (begun_none next) refl)))
      (λ on. line_goes_on f line c rest on (plays_lines rest (fed_byte f c) (line ++ (c ∷ [])) (begun_more f line c on h) (unended_more line c u on)))

  -- what is written for a trace fed byte by byte is what is written for its lines
  pub feeding_is_lines : (b : rules.Bench) (trace : List ℕ) → said_by say (between b) trace ++ said_at_end_by say (fed (between b) trace) ≡ written_by say b (lines_of trace)
  feeding_is_lines b trace = (plays_lines trace (between b) [] (begun_none b) refl).says

  pub output_of_feeding : (trace : List ℕ) → said_by say (between rules.empty) trace ++ said_at_end_by say (fed (between rules.empty) trace) ≡ output_by say trace
  unfolding output_by
  output_of_feeding trace = feeding_is_lines rules.empty trace

  -- however the input is cut
  pub output_of_chunks : (chunks : List (List ℕ)) → said_chunks say (between rules.empty) chunks ++ said_at_end_by say (fed_chunks (between rules.empty) chunks) ≡ output_by say (flatten chunks)
  output_of_chunks chunks =
      ap₂ (λ text f. text ++ said_at_end_by say f) (any_cut say (between rules.empty) chunks) (any_cut_fed (between rules.empty) chunks)
      ∙ output_of_feeding (flatten chunks)

-- a trace fed byte by byte leaves the bench that its lines leave
pub fed_leaves : (b : rules.Bench) (trace : List ℕ) → left_at_end (fed (between b) trace) ≡ left_by b (lines_of trace)
fed_leaves b trace = (plays_lines answer_line trace (between b) [] (begun_none b) refl).leaves

pub chunks_leave : (b : rules.Bench) (chunks : List (List ℕ)) → left_at_end (fed_chunks (between b) chunks) ≡ left_by b (lines_of (flatten chunks))
chunks_leave b chunks = ap left_at_end (any_cut_fed (between b) chunks) ∙ fed_leaves b (flatten chunks)
