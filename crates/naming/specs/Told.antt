-- A reason as the record that says it: none where nobody is named, and for every answer but 6 the two modes and `drains` false.
use Rattle.std.specs.Prelude.{false, ℕ, Some, None}
use Rattle.rules.specs.Tests.{from}
use Rattle.rules.specs.Reasons as rules
use Rattle.rules.specs.ReadWrite.{reading, writing}
use Rattle.naming.specs.declared.Somebody.{Somebody}
use Rattle.naming.specs.declared.Reason.{Reason}

-- whom a reason names, by the number
abbrev pub told_of : rules.Reason → ℕ → Somebody
told_of e n =
    record {
      number = n;
      reads = e.owns reading;
      writes = e.owns writing;
      drains = e.drains;
    }

abbrev pub told : rules.Reason → Reason
told e = record { answer = e.answer; names = from e.names None (λ n. Some (told_of e n)) }

-- somebody of whom the number alone is told
abbrev pub number_alone : ℕ → Somebody
number_alone number = record { number = number; reads = false; writes = false; drains = false }

-- an answer that names nobody, one that names somebody, and one from 1 to 5, or 10, that names a number
abbrev pub nobody_for : ℕ → Reason
nobody_for answer = record { answer = answer; names = None }

abbrev pub somebody_for : ℕ → Somebody → Reason
somebody_for answer somebody = record { answer = answer; names = Some somebody }

abbrev pub named_for : ℕ → ℕ → Reason
named_for answer number = somebody_for answer (number_alone number)
