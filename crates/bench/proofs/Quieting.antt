-- Quiet by value: the row that was found is the answer of a sound bench, and the arrays that it leaves are the step's. Assumes nothing.
use mathlib.Core.Path.{◌≡◌, refl, sym, ◌∙◌}
use mathlib.Core.Bool.{true, false, ◌&&◌}
use mathlib.Core.List.{List}
use mathlib.Core.Option.{some}
use Prim.Native.Nat.{ℕ, ◌+◌, ◌%◌, ◌<◌}
use native.Mathlib.Omega.{arith}
use native.Mathlib.Nat.{mod-eq_of_lt}
use borrow.Author.Tests.{eqb-true, lt-ltb}
use lib.Dec.{eqb, ltb}
use lib.ListN.{get_or}
use Rattle.sets.specs.Sets.{member, union, meet}
use Rattle.sets.proofs.Laws.{member_union, member_inside}
use Rattle.rules.specs.Owners.{drains_under, stand_at}
use Rattle.rules.specs.Sound.{sound}
use Rattle.rules.specs.Requests.{quiet}
use Rattle.rules.specs.Answers.{answer_of}
use Rattle.rules.specs.ReadWrite.{read_write}
use Rattle.rules.proofs.Tests.{by_bool, and_right}
use Rattle.tables.specs.Table.{Table}
use Rattle.tables.specs.Owners.{stands_at}
use Rattle.tables.specs.OneWord.{left_at}
use Rattle.tables.specs.Steps.{OutcomeIs}
use Rattle.tables.proofs.Members.{meet_any}
use Rattle.tables.proofs.Groups.{group_at}
use Rattle.tables.proofs.Rows.{quiet_row_shown}
use Rattle.tables.proofs.Steps.{answer_sound, answer_unsound}
use Rattle.views.specs.View.{view, layout, arrays}
use Rattle.views.specs.Families.{given}
use Rattle.views.specs.Arrays.{SoundArrays}
use Rattle.views.proofs.Words.{stands_at_lem}
use Rattle.views.proofs.Quiets.{quiet_stays, quiet_frees}
use Rattle.steps.specs.Changes.{bytes_put, bytes_left, group_in}
use Rattle.steps.proofs.Clears.{bytes_put_lem, changed_put}
use Rattle.steps.proofs.Gathered.{set_fits, set_members, group_members}
use Rattle.bench.specs.Draining.{DrainByte, quiet_found}

-- Those that drain under a have the byte of numbers that do.
pub group_stays : (states : List ℕ) (a : ℕ) → bytes_put (group_in states a) (3 + a % 64) states ≡ states
group_stays states a = sym (changed_put (group_in states a) (3 + a % 64) states states (record { long = refl; each = λ k l. same_byte k }))
  where
    same_byte : (k : ℕ) → get_or states k 0 ≡ given (group_in states a) (3 + a % 64) k (get_or states k 0)
    same_byte k =
        let byte = eqb (get_or states k 0) (3 + a % 64) in
        by_bool (member (group_in states a) k)
        (λ m. rw m (eqb-true (get_or states k 0) (3 + a % 64)
        (and_right (ltb k 64) byte (sym (set_members (λ j. eqb (get_or states j 0) (3 + a % 64)) 64 (omega arith) k) ∙ m))))
        (λ m. rw m)

-- ---- the answer

module _ (parents states reads writes : List ℕ) where
  abbrev table : Table
  table = arrays parents states reads writes

  -- One of the group stands at the instrument where it has a number in common with those in its sets, `here`.
  group_here : (a i here group : ℕ) → here ≡ union (get_or reads (i % 128) 0) (get_or writes (i % 128) 0) → group ≡ group_in states a → a < 64 → i < 128 →
      meet here group ≡ stand_at read_write (view parents states reads writes) (drains_under (view parents states reads writes) a) i
  group_here a i here group are grouped la li =
      meet_any 64 here group (λ k. stands_at layout table k i && eqb (get_or states k 0) (3 + a)) (λ k s m. member_inside 64 group k (rw grouped (set_fits _ 64)) m)
      (λ k l. rw (at_instrument k, of_group k l))
      ∙ group_at layout table a i la
    where
      at_instrument : (k : ℕ) → member here k ≡ stands_at layout table k i
      at_instrument k = rw (are, mod-eq_of_lt li, member_union) (stands_at_lem parents states reads writes k i)

      of_group : (k : ℕ) → k < 64 → member group k ≡ eqb (get_or states k 0) (3 + a)
      of_group k l =
          rw grouped (set_members (λ j. eqb (get_or states j 0) (3 + a % 64)) 64 (omega arith) k ∙ rw (lt-ltb k 64 l, mod-eq_of_lt la))

  pub quiet_answered : (a i group answer : ℕ) → group ≡ group_in states a → answer ≡ quiet_found parents states reads writes group a i →
      answer ≡ answer_of read_write (view parents states reads writes) (quiet a i)
  quiet_answered a i group answer grouped found =
      by_bool (sound read_write (view parents states reads writes))
      (λ ok. (rw ok at found)
      ∙ quiet_row_shown layout table _ a i (λ la li. group_here a i _ group refl grouped la li)
      ∙ answer_sound read_write (view parents states reads writes) (quiet a i) true (sym ok) refl)
      (λ bad. (rw bad at found) ∙ answer_unsound read_write (view parents states reads writes) (quiet a i) false (sym bad) refl)

-- ---- what it leaves

module _ {parents states reads writes : List ℕ} (pre : SoundArrays parents states reads writes) (a i group answer : ℕ) (grouped : group ≡ group_in states a) where
  -- the group has left the sets of the instrument, and its byte says whether it still drains
  pub quiet_accepted : {states' reads' writes' : List ℕ} (byte : ℕ) → reads' ≡ left_at reads (i % 128) group → writes' ≡ left_at writes (i % 128) group →
      DrainByte reads' writes' group a byte → states' ≡ bytes_put group byte states →
      answer ≡ answer_of read_write (view parents states reads writes) (quiet a i) → answer ≡ 0 →
      OutcomeIs layout (some (quiet a i)) (arrays parents states reads writes) answer (arrays parents states' reads' writes')
  quiet_accepted byte r w drains s e z =
      let standing = drains.standing in
      let left = (rw (r, w, grouped) at drains.tells) in
      by_bool (meet standing group)
      (λ t. rw (s, drains.is, r, w, t, grouped, group_stays states a)
      (quiet_stays pre a i (group_in states a) (set_fits _ 64) (group_members states pre.long.states_long a) standing answer left e z (rw grouped at t)).outcome)
      (λ t. rw (s, drains.is, r, w, t, grouped)
      (quiet_frees pre a i (group_in states a) (set_fits _ 64) (group_members states pre.long.states_long a) standing answer left e z
      (bytes_left (group_in states a) states) (bytes_put_lem (group_in states a) 0 states) (rw grouped at t)).outcome)
