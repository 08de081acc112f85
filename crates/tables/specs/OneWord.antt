-- Tables whose sets are words: each mode has one word for each instrument.
use Rattle.std.specs.Prelude.{List, ℕ, get_or, set}
use Rattle.sets.specs.Sets.{member, difference}
use Rattle.rules.specs.Bench.{Shape}
use Rattle.tables.specs.Table.{Layout}

-- Number k is bit k of the word of instrument i.
abbrev pub one_word : Shape → Layout
one_word sh = record { shape = sh; words = sh.instruments; holds = λ words i k. member (get_or words i 0) k }

-- the words without the numbers of a set in the one of instrument i
abbrev pub left_at : List ℕ → ℕ → ℕ → List ℕ
left_at words i gone = set words i (difference (get_or words i 0) gone)
