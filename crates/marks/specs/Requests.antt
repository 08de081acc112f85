-- The requests as code has them, and which of the rules' requests each is.
use Rattle.std.proofs.Math.Option as math
use Rattle.std.specs.Prelude.{ℕ, Option, Some, None}
use Rattle.rules.specs.Requests as rules
use Rattle.rules.specs.ReadWrite.{read, write}
use Rattle.marks.specs.declared.requests.Request.{Request}
use Rattle.marks.specs.declared.requests.Request.TheVariants.{OpenTop, OpenSub, Read, Write, Commit, Abort, Quiet}

-- the rules' request
abbrev pub meant : Request → rules.Request
meant (OpenTop n) = rules.open_top n
meant (OpenSub n p) = rules.open_sub n p
meant (Read a i) = read a i
meant (Write a i) = write a i
meant (Commit a) = rules.commit a
meant (Abort a) = rules.abort a
meant (Quiet a i) = rules.quiet a i

-- the rules' request, where there is one
abbrev pub meant_by : Option Request → math.Option rules.Request
meant_by None = math.none
meant_by (Some request) = math.some (meant request)

-- ---- as a frame writes it: a code and two numbers, of which the second may be spare

-- the code of a frame, 0 where it makes no request
abbrev pub code_of : Option Request → ℕ
code_of None = 0
code_of (Some (OpenTop n)) = 1
code_of (Some (OpenSub n p)) = 2
code_of (Some (Read a i)) = 3
code_of (Some (Write a i)) = 4
code_of (Some (Commit a)) = 5
code_of (Some (Abort a)) = 6
code_of (Some (Quiet a i)) = 7

-- its first number
abbrev pub first_of : Option Request → ℕ
first_of None = 0
first_of (Some (OpenTop n)) = n
first_of (Some (OpenSub n p)) = n
first_of (Some (Read a i)) = a
first_of (Some (Write a i)) = a
first_of (Some (Commit a)) = a
first_of (Some (Abort a)) = a
first_of (Some (Quiet a i)) = a

-- its second number, 0 where there is none
abbrev pub second_of : Option Request → ℕ
second_of None = 0
second_of (Some (OpenTop n)) = 0
second_of (Some (OpenSub n p)) = p
second_of (Some (Read a i)) = i
second_of (Some (Write a i)) = i
second_of (Some (Commit a)) = 0
second_of (Some (Abort a)) = 0
second_of (Some (Quiet a i)) = i
