-- Demands 2 and 3 of what `lists::play_list` returns (document 02, order 3). Assumes nothing.
use mathlib.Core.Path.{◌≡◌, refl, sym, ◌∙◌, ap}
use mathlib.Core.Bool.{true}
use mathlib.Core.List.{List, map}
use Prim.Native.Nat.{ℕ, ◌≤◌}
use lib.ListN.{length}
use Rattle.rules.specs.Bench as rules
use Rattle.rules.specs.Bench.{empty}
use Rattle.rules.specs.Sound.{sound}
use Rattle.rules.specs.Requests.{Request}
use Rattle.rules.specs.ReadWrite.{read_write}
use Rattle.rules.specs.Plain.{plain_empty, plain_answers, plain_after}
use Rattle.rules.specs.Agrees.{Agrees, plain_of}
use Rattle.rules.specs.Merging.{Apart}
use Rattle.rules.specs.Lists.{Entry, list_answered, after_list, Call}
use Rattle.rules.specs.SingleCalls.{requests_in, answers_in, others_hold}
use Rattle.rules.proofs.DemandTwo.{demand_two_of}
use Rattle.rules.proofs.DemandThree.{read_write_symmetric}
use Rattle.rules.proofs.Lists.{answers_single, after_single, others_get_8}
use Rattle.rules.proofs.ListOrders.{apart_swapped, first_called, second_as_first, either_order}
use Rattle.bench.specs.declared.Bench.{Bench}
use Rattle.bench.specs.declared.Reply.{Reply}
use Rattle.bench.specs.Record.{viewed}
use Rattle.bench.specs.Plays.{IsEmpty}
use Rattle.bench.proofs.Unique.{Fits, view_injective}
use Rattle.lists.specs.declared.Request as lists
use Rattle.lists.specs.Listed.{entry, called, ReturnsList}
use Rattle.lists.proofs.SingleCalls.{as_played}
use Rattle.lists.proofs.Unique.{entries_injective}

-- the requests of a list of records, and the answers at their places
abbrev pub requests_of : List lists.Request → List Request
requests_of list = requests_in (map entry list)

abbrev pub answers_of : List lists.Request → List ℕ
answers_of list = answers_in (map entry list)

-- Demand 2. From each sound record on, the requests of a list get the answers of the record's plain machine of Moss's rules, every other place gets 8, and after the
-- call the heirs of the record's sets are the machine's owners.
pub list_by_moss : (b : Bench) (list : List lists.Request) (r : Reply) (after : List lists.Request) → ReturnsList b list r after → sound read_write (viewed b) ≡ true → length list ≤ 32 →
    (answers_of after ≡ plain_answers read_write (plain_of read_write (viewed b)) (requests_of list))
    × (others_hold 8 (map entry after) ≡ true)
    × Agrees read_write (viewed r.bench) (plain_after read_write (plain_of read_write (viewed b)) (requests_of list))
list_by_moss b list r after returned ok short =
    let is = as_played b list r after returned short in
    let by_moss = demand_two_of read_write (viewed b) ok (requests_of list) in (
      ap (λ c. answers_in c.list) is ∙ answers_single read_write (viewed b) (map entry list) ∙ by_moss.0,
      ap (λ c. others_hold 8 c.list) is ∙ others_get_8 read_write (viewed b) (map entry list),
      rw (ap (λ c. c.next) is ∙ after_single read_write (viewed b) (map entry list)) by_moss.1,
    )

-- What two calls return on the record b: `first` is played, and then `second` on the record that the first call handed back.
pub record InTurn (b : Bench) (first second : List lists.Request) : Type 0 where
  pub reply : Reply
  pub first_after : List lists.Request
  pub first_returned : ReturnsList b first reply first_after
  pub last : Reply
  pub second_after : List lists.Request
  pub second_returned : ReturnsList reply.bench second last second_after

module _ (b : Bench) (e : IsEmpty b) (xs ys : List lists.Request) (short_xs : length xs ≤ 32) (short_ys : length ys ≤ 32) (apart : Apart read_write (requests_of xs) (requests_of ys)) (calls : InTurn b xs ys) where
  first_is : called calls.reply calls.first_after ≡ record { answer = 0; list = list_answered read_write empty (map entry xs); next = after_list read_write empty (map entry xs) }
  first_is =
      as_played b xs calls.reply calls.first_after calls.first_returned short_xs
      ∙ ap (λ v. record { answer = 0; list = list_answered read_write v (map entry xs); next = after_list read_write v (map entry xs) }) e

  second_is : called calls.last calls.second_after ≡ record {
    answer = 0;
    list = list_answered read_write empty (map entry ys);
    next = after_list read_write (after_list read_write empty (map entry xs)) (map entry ys);
  }
  second_is =
      as_played calls.reply.bench ys calls.last calls.second_after calls.second_returned short_ys
      ∙ ap (λ v. record { answer = 0; list = list_answered read_write v (map entry ys); next = after_list read_write v (map entry ys) }) (ap (λ c. c.next) first_is)
      ∙ ap (λ list. record { answer = 0; list = list; next = after_list read_write (after_list read_write empty (map entry xs)) (map entry ys) })
      (second_as_first read_write read_write_symmetric (map entry xs) (map entry ys) apart)

  -- Whoever calls second gets the answers that its list gets alone by Moss's rules, as whoever calls first does.
  pub first_alone : answers_of calls.first_after ≡ plain_answers read_write plain_empty (requests_of xs)
  first_alone = ap (λ c. answers_in c.list) first_is ∙ first_called read_write read_write_symmetric (map entry xs)

  pub second_alone : answers_of calls.second_after ≡ plain_answers read_write plain_empty (requests_of ys)
  second_alone = ap (λ c. answers_in c.list) second_is ∙ first_called read_write read_write_symmetric (map entry ys)

-- Demand 3. On an empty bench, the lists of two desks name no action number in common, and no instrument except those both only ask to read. In either order of their
-- calls each desk gets the answers that Moss's rules give its list alone, place by place the same in both orders, and both orders end in the same record.
pub desks_in_either_order : (b : Bench) (xs ys : List lists.Request) → IsEmpty b → length xs ≤ 32 → length ys ≤ 32 → Apart read_write (requests_of xs) (requests_of ys) → (one : InTurn b xs ys) (other : InTurn b ys xs) →
    (answers_of one.first_after ≡ plain_answers read_write plain_empty (requests_of xs))
    × (answers_of one.second_after ≡ plain_answers read_write plain_empty (requests_of ys))
    × (other.second_after ≡ one.first_after)
    × (other.first_after ≡ one.second_after)
    × (Fits one.last.bench → Fits other.last.bench → other.last.bench ≡ one.last.bench)
desks_in_either_order b xs ys e short_xs short_ys apart one other =
    let swapped = apart_swapped read_write read_write_symmetric (requests_of xs) (requests_of ys) apart in
    let first = first_is b e xs ys short_xs short_ys apart one in
    let second = second_is b e xs ys short_xs short_ys apart one in
    let other_first = first_is b e ys xs short_ys short_xs swapped other in
    let other_second = second_is b e ys xs short_ys short_xs swapped other in (
      first_alone b e xs ys short_xs short_ys apart one,
      second_alone b e xs ys short_xs short_ys apart one,
      entries_injective other.second_after one.first_after (ap (λ c. c.list) other_second ∙ sym (ap (λ c. c.list) first)),
      entries_injective other.first_after one.second_after (ap (λ c. c.list) other_first ∙ sym (ap (λ c. c.list) second)),
      λ fits fits_other. view_injective other.last.bench one.last.bench fits_other fits
          (ap (λ c. c.next) other_second
          ∙ sym (either_order read_write read_write_symmetric (map entry xs) (map entry ys) apart)
          ∙ sym (ap (λ c. c.next) second)),
    )
