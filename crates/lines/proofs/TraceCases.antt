-- Trace lines on small inputs, by computation: document 01's whole case, lines that have no request, and where lines end. Assumes nothing.
use mathlib.Core.Path.{◌≡◌, refl, ◌∙◌, ap}
use mathlib.Core.List.{List, [], ◌∷◌, ◌++◌, map, flatten}
use mathlib.Core.Option.{Option, some}
use Prim.Native.Nat.{ℕ}
use Prim.Native.String.{String}
use lib.ListN.{get_or}
use Rattle.rules.specs.Bench as rules
use Rattle.rules.specs.Requests.{Request, open_top, open_sub, commit, abort, quiet}
use Rattle.rules.specs.Answers.{answers, answered}
use Rattle.rules.specs.ReadWrite.{read_write, read, write}
use Rattle.rules.specs.Sessions.{sessions}
use Rattle.rules.proofs.Sessions.{requests_of, answers_of, sessions_hold}
use Rattle.lines.specs.Bytes.{bytes_of}
use Rattle.lines.specs.Lines.{lines_of, request_of, answer_text, written_by, written, left_by, output_by, output_of}

-- ---- the whole case, in which since order 2 number 3 drains at the end

-- what is written for requests that lines may have
played : rules.Bench → List (Option Request) → List ℕ
played b [] = []
played b (q ∷ rest) = let o = answered read_write b q in answer_text o.answer ++ played o.next rest

written_played : (b : rules.Bench) (lines : List (List ℕ)) → written b lines ≡ played b (map request_of lines)
unfolding written_by played
written_played b [] = refl
written_played b (line ∷ rest) =
    let o = answered read_write b (request_of line) in ap (λ text. answer_text o.answer ++ text) (written_played o.next rest)

played_answers : (b : rules.Bench) (rs : List Request) → played b (map some rs) ≡ flatten (map answer_text (answers read_write b rs))
unfolding played flatten answers
played_answers b [] = refl
played_answers b (r ∷ rs) =
    let o = answered read_write b (some r) in ap (λ text. answer_text o.answer ++ text) (played_answers o.next rs)

whole_requests : List Request
whole_requests =
    open_top 1
    ∷ open_sub 2 1
    ∷ open_sub 3 1
    ∷ write 2 5
    ∷ read 3 5
    ∷ commit 2
    ∷ read 3 5
    ∷ write 3 5
    ∷ commit 1
    ∷ abort 3
    ∷ write 1 5
    ∷ commit 1
    ∷ []

whole_answers : answers read_write rules.empty whole_requests ≡ 0 ∷ 0 ∷ 0 ∷ 0 ∷ 6 ∷ 0 ∷ 0 ∷ 0 ∷ 5 ∷ 0 ∷ 6 ∷ 0 ∷ []
unfolding whole_requests sessions requests_of answers_of
whole_answers = ap (λ xs. get_or xs 5 []) sessions_hold

whole_trace : List ℕ
whole_trace = bytes_of "0101\n020201\n020301\n040205\n030305\n0502\n030305\n040305\n0501\n0603\n040105\n0501\n"

whole_requests_lem : map request_of (lines_of whole_trace) ≡ map some whole_requests
unfolding whole_trace whole_requests lines_of request_of
whole_requests_lem = refl

-- document 01's case whole
pub whole_case : output_of (bytes_of "0101\n020201\n020301\n040205\n030305\n0502\n030305\n040305\n0501\n0603\n040105\n0501\n") ≡ bytes_of "00\n00\n00\n00\n06\n00\n00\n00\n05\n00\n06\n00\n"
unfolding output_by whole_trace flatten
whole_case =
    written_played rules.empty (lines_of whole_trace)
    ∙ ap (played rules.empty) whole_requests_lem
    ∙ played_answers rules.empty whole_requests
    ∙ ap (λ answers'. flatten (map answer_text answers')) whole_answers

-- ---- lines with a request and without one

-- each code, with high bytes
pub readable_requests : map (λ text. request_of (bytes_of text)) ("01ff" ∷ "02fe0a" ∷ "03a0b1" ∷ "04c2d3" ∷ "05e4" ∷ "06f5" ∷ "07f6a7" ∷ []) ≡ some (open_top 255) ∷ some (open_sub 254 10) ∷ some (read 160 177) ∷ some (write 194 211) ∷ some (commit 228) ∷ some (abort 245) ∷ some (quiet 246 167) ∷ []
unfolding request_of
readable_requests = refl

-- an empty line, an uppercase digit, a carriage return, a space, one digit short or spare, a frame of another length, an unknown code
abbrev pub unreadable : List String
unreadable =
    ""
    ∷ "010A"
    ∷ "0101\r"
    ∷ "\r"
    ∷ " 0101"
    ∷ "01 01"
    ∷ "010"
    ∷ "01010"
    ∷ "0"
    ∷ "01"
    ∷ "010101"
    ∷ "01010101"
    ∷ "0201"
    ∷ "050101"
    ∷ "02020101"
    ∷ "0001"
    ∷ "000101"
    ∷ "0701"
    ∷ "07010101"
    ∷ "0801"
    ∷ "080101"
    ∷ "1101"
    ∷ "110101"
    ∷ []

-- each gets 08
pub unreadable_answers : (b : rules.Bench) → written b (map bytes_of unreadable) ≡ flatten (map (λ text. bytes_of "08\n") unreadable)
unfolding written_by request_of flatten
unreadable_answers b = refl

-- and nothing changes
pub unreadable_leave : (b : rules.Bench) → left_by b (map bytes_of unreadable) ≡ b
unfolding left_by request_of
unreadable_leave b = refl

-- ---- where lines end

pub empty_input : output_of [] ≡ []
unfolding output_by lines_of written_by
empty_input = refl

-- a lone 0a is one line
pub lone_end : output_of (10 ∷ []) ≡ bytes_of "08\n"
unfolding output_by lines_of written_by request_of
lone_end = refl

-- a last line that lacks its 0a is answered as if it had it
pub last_line : output_of (bytes_of "0101\n0601") ≡ output_of (bytes_of "0101\n0601\n")
unfolding output_by lines_of
last_line = refl

-- empty lines between lines count
pub empty_lines : lines_of (bytes_of "0101\n\n\n0601") ≡ bytes_of "0101" ∷ [] ∷ [] ∷ bytes_of "0601" ∷ []
unfolding lines_of
empty_lines = refl
