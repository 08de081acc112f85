-- The sums that the test programs write: a value, a word, a record and a buffer folded into a sum so far.
use Rattle.std.specs.Prelude.{Bool, ◌&&◌, List, ℕ, zero, suc, ◌+◌, ◌*◌, ◌/◌, ◌%◌, eqb, get_or, fold, if◌then◌else◌}
use Rattle.bench.specs.declared.Bench.{Bench}

-- The sum with a further value; 4,294,967,291 is a prime.
abbrev pub with_value : ℕ → ℕ → ℕ
with_value sum value = (sum % 4294967291 * 31 + value % 4294967296) % 4294967291

-- The sum with a word, its lower half first.
abbrev pub with_word : ℕ → ℕ → ℕ
with_word sum word = with_value (with_value sum (word % 4294967296)) (word / 4294967296)

-- The sum with a place and its two values, or as it was where both are 0.
abbrev pub with_place : ℕ → ℕ → ℕ → ℕ → ℕ
with_place sum place first second =
    if eqb first 0 && eqb second 0 then sum else with_word (with_word (with_value sum place) first) second

-- The sum with the parent and the state of number n.
abbrev pub with_number : Bool → ℕ → ℕ → ℕ → ℕ → ℕ
with_number sparse n parent state sum = if sparse then with_place sum n parent state else with_value (with_value sum parent) state

-- The sum with the sets of instrument i.
abbrev pub with_sets : Bool → ℕ → ℕ → ℕ → ℕ → ℕ
with_sets sparse i reads writes sum = if sparse then with_place sum i reads writes else with_word (with_word sum reads) writes

-- What the steps 0 to n - 1 make of a sum, one after another.
unfoldable pub after_steps : ℕ → (ℕ → ℕ → ℕ) → ℕ → ℕ
after_steps zero step sum = sum
after_steps (suc n) step sum = step n (after_steps n step sum)

-- The sum with parents and states, number by number.
abbrev pub with_numbers : ℕ → Bool → Bench → ℕ → ℕ
with_numbers n sparse b sum = after_steps n (λ k. with_number sparse k (get_or b.parents k 0) (get_or b.states k 0)) sum

-- The sum with read sets and write sets, instrument by instrument.
abbrev pub with_instruments : ℕ → Bool → Bench → ℕ → ℕ
with_instruments n sparse b sum = after_steps n (λ i. with_sets sparse i (get_or b.reads i 0) (get_or b.writes i 0)) sum

-- The sum with a whole record.
abbrev pub with_record : ℕ → Bool → Bench → ℕ
with_record sum sparse b = with_instruments 128 sparse b (with_numbers 64 sparse b sum)

-- The sum of a list of bytes.
abbrev pub with_bytes : List ℕ → ℕ
with_bytes bytes = fold with_value 0 bytes
