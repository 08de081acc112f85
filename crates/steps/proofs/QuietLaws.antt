-- On the arrays of a sound bench quiet in place is the step of the rules. Assumes nothing.
use mathlib.Core.Path.{◌≡◌, refl, ◌∙◌}
use mathlib.Core.Bool.{Bool, true, false}
use mathlib.Core.List.{List, []}
use mathlib.Core.Option.{some}
use Prim.Native.Nat.{ℕ, ◌+◌, ◌%◌, ◌<◌, ◌^◌}
use native.Mathlib.Omega.{arith}
use lib.Dec.{eqb}
use lib.ListN.{length, get_or, length-set}
use Rattle.sets.specs.Sets.{member, union, difference}
use Rattle.rules.specs.Requests.{quiet}
use Rattle.rules.specs.Answers.{answer_of}
use Rattle.rules.specs.ReadWrite.{read_write}
use Rattle.tables.specs.OneWord.{left_at}
use Rattle.views.specs.Owners.{Standing}
use Rattle.views.specs.Arrays.{Stepped}
use Rattle.views.proofs.Quiets.{quiet_found, quiet_stays, quiet_frees}
use Rattle.steps.specs.Arrays.{Arrays, lent, view_of, read_sets, write_sets, place_of, SoundLists, SteppedTo}
use Rattle.steps.specs.Changes.{group_in, standing_in, stand_in, left_instrument, bytes_left, freed_unless, quieted}
use Rattle.steps.specs.Steps.{Quieted, quiet_answer}
use Rattle.steps.proofs.Clears.{bytes_put_lem}
use Rattle.steps.proofs.Gathered.{set_fits, group_members}
use Rattle.steps.proofs.Standing.{standing_halves}
use Rattle.steps.proofs.Halves.{read_set_at, write_set_at, read_left, read_left_other, write_left, write_left_other}
use Rattle.steps.proofs.Steps.{with_parents}
use Rattle.steps.proofs.Laws.{took_steps}

-- ---- numbers that have left the sets of an instrument

module _ (owners : List ℕ) (i gone : ℕ) where
  left_long : length (left_instrument owners i gone) ≡ length owners
  left_long =
      let once = left_at owners (i % 128) gone in
      length-set once (128 + i % 128) (difference (get_or once (128 + i % 128) 0) gone)
      ∙ length-set owners (i % 128) (difference (get_or owners (i % 128) 0) gone)

  left_reads : read_sets (left_instrument owners i gone) ≡ left_at (read_sets owners) (i % 128) gone
  left_reads = write_left_other (left_at owners (i % 128) gone) (i % 128) gone ∙ read_left owners (i % 128) gone (omega arith)

  left_writes : write_sets (left_instrument owners i gone) ≡ left_at (write_sets owners) (i % 128) gone
  left_writes =
      write_left (left_at owners (i % 128) gone) (i % 128) gone (omega arith)
      ∙ rw (read_left_other owners (i % 128) gone (omega arith))

  left_standing : length owners ≡ 256 →
      Standing (left_at (read_sets owners) (i % 128) gone) (left_at (write_sets owners) (i % 128) gone) (standing_in (left_instrument owners i gone))
  left_standing long = rw (left_reads, left_writes) at (standing_halves (left_instrument owners i gone) (left_long ∙ long))

-- ---- the step

module _ {before : Arrays} (ok : SoundLists before) (a i : ℕ) where
  abbrev group : ℕ
  group = group_in before.states a

  abbrev left : List ℕ
  left = left_instrument before.owners i group

  grouped : a < 64 → (k : ℕ) → member group k ≡ eqb (get_or before.states k 0) (3 + a)
  grouped = group_members before.states ok.table.long.states_long a

  fits : group < 2 ^ 64
  fits = set_fits (λ k. eqb (get_or before.states k 0) (3 + a % 64)) 64

  found : quiet_answer a i before ≡ answer_of read_write (view_of before) (quiet a i)
  found =
      quiet_found ok.table a i group fits grouped (union (get_or before.owners (place_of false i) 0) (get_or before.owners (place_of true i) 0)) (quiet_answer a i before)
      (rw (read_set_at before.owners (i % 128) (omega arith), write_set_at before.owners (i % 128) (omega arith))) refl

  -- the arrays that are left, where `stands` says whether one of the group still stands in a set
  left_arrays : (stands : Bool) → stand_in left group ≡ stands → quiet_answer a i before ≡ 0 →
      Stepped (some (quiet a i)) before.parents before.states (read_sets before.owners) (write_sets before.owners) (quiet_answer a i before)
      before.parents (freed_unless stands group before.states) (left_at (read_sets before.owners) (i % 128) group) (left_at (write_sets before.owners) (i % 128) group)
  left_arrays true t z =
      quiet_stays ok.table a i group fits grouped (standing_in left) (quiet_answer a i before) (left_standing before.owners i group ok.owners_long) found z t
  left_arrays false t z =
      quiet_frees ok.table a i group fits grouped (standing_in left) (quiet_answer a i before) (left_standing before.owners i group ok.owners_long) found z
      (bytes_left group before.states) (bytes_put_lem group 0 before.states) t

  granted : quiet_answer a i before ≡ 0 → SteppedTo (some (quiet a i)) before (quiet_answer a i before) (quieted a i before)
  granted z =
      record {
        stepped = rw (left_reads before.owners i group, left_writes before.owners i group) (left_arrays (stand_in left group) refl z);
        owners_long = left_long before.owners i group ∙ ok.owners_long;
      }

  pub quieted_steps : {answer : ℕ} {after : Arrays} → Quieted a i before answer after → SteppedTo (some (quiet a i)) before answer after
  quieted_steps d = took_steps ok (quiet a i) (quiet_answer a i before) (quieted a i before) found granted d

-- the same from what is said of states and owners alone
pub quiet_steps : {parents states owners : List ℕ} → SoundLists (lent parents states owners) → {states' owners' : List ℕ} {answer : ℕ} (a i : ℕ) →
    Quieted a i (lent [] states owners) answer (lent [] states' owners') → SteppedTo (some (quiet a i)) (lent parents states owners) answer (lent parents states' owners')
quiet_steps {parents} ok a i d = quieted_steps ok a i (with_parents parents a i d)
