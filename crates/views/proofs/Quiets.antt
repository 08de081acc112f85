-- Quiet: its answer from the word of the group that drains and the words of the instrument, and the arrays that it leaves. Assumes nothing.
use mathlib.Core.Path.{◌≡◌, sym, ◌∙◌}
use mathlib.Core.Bool.{true, false}
use mathlib.Core.List.{List}
use mathlib.Core.Option.{some}
use Prim.Native.Nat.{ℕ, zero, suc, ◌+◌, ◌%◌, ◌<◌, ◌^◌}
use native.Mathlib.Nat.{mod-eq_of_lt}
use native.Mathlib.Omega.{arith}
use lib.Dec.{eqb}
use lib.ListN.{length, get_or, length-set}
use Rattle.sets.specs.Sets.{member, union, difference, meet}
use Rattle.sets.proofs.Laws.{member_empty, member_union}
use Rattle.rules.specs.Owners.{stand_somewhere}
use Rattle.rules.specs.Requests.{quiet}
use Rattle.rules.specs.Answers.{answer_of}
use Rattle.rules.specs.ReadWrite.{read_write}
use Rattle.tables.specs.Changes.{Changed}
use Rattle.tables.specs.OneWord.{left_at}
use Rattle.tables.proofs.Stores.{Quieted}
use Rattle.tables.proofs.Rows.{quiet_row}
use Rattle.tables.proofs.InPlace as tables
use Rattle.tables.proofs.OneWord.{word_stands, word_group_at, word_quieted}
use Rattle.views.specs.View.{layout, arrays, sets_of, view}
use Rattle.views.specs.Owners.{Standing}
use Rattle.views.specs.Families.{kept}
use Rattle.views.specs.Arrays.{SoundArrays, Stepped}
use Rattle.views.proofs.Words.{reads_long_lem, writes_long_lem, arrays_bounded, stands_at_lem, tells_standing}

-- `group` are the numbers that drain under a
module _ {parents states reads writes : List ℕ} (pre : SoundArrays parents states reads writes) (a i group : ℕ) (fits : group < 2 ^ 64)
    (grouped : a < 64 → (k : ℕ) → member group k ≡ eqb (get_or states k 0) (3 + a)) where
  -- One of them stands at the instrument where they have a number in common with those in its sets, `here`.
  pub quiet_found : (here answer : ℕ) → here ≡ union (get_or reads (i % 128) 0) (get_or writes (i % 128) 0) →
      answer ≡ quiet_row read_write states (meet here group) a i → answer ≡ answer_of read_write (view parents states reads writes) (quiet a i)
  quiet_found here answer are =
      tables.quiet_found pre (meet here group) a i answer
      (λ la li. word_group_at read_write (arrays parents states reads writes) here group a i
      (λ k l. rw (are, mod-eq_of_lt li, member_union) (stands_at_lem parents states reads writes k i))
      fits
      (grouped la))

  -- ---- what it leaves

  left : a < 64 → i < 128 →
      Quieted layout (arrays parents states reads writes) (member group) i (λ m. sets_of m (left_at reads (i % 128) group) (left_at writes (i % 128) group))
  left la li zero at k = rw (mod-eq_of_lt li) (word_quieted read_write reads group i (rw (reads_long_lem pre.long) li) at k)
  left la li (suc zero) at k = rw (mod-eq_of_lt li) (word_quieted read_write writes group i (rw (writes_long_lem pre.long) li) at k)
  left la li (suc (suc m)) at k = rw (member_empty k)

  long : (m : ℕ) → m < 2 → length (sets_of m (left_at reads (i % 128) group) (left_at writes (i % 128) group)) ≡ 128
  long zero l = length-set reads (i % 128) (difference (get_or reads (i % 128) 0) group) ∙ reads_long_lem pre.long
  long (suc zero) l = length-set writes (i % 128) (difference (get_or writes (i % 128) 0) group) ∙ writes_long_lem pre.long
  long (suc (suc m)) l = absurd (omega arith)

  -- `standing` are the numbers that stand in a set once the group has left those of the instrument
  module _ (standing answer : ℕ) (tells : Standing (left_at reads (i % 128) group) (left_at writes (i % 128) group) standing)
      (e : answer ≡ answer_of read_write (view parents states reads writes) (quiet a i)) (z : answer ≡ 0) where
    stands : meet standing group ≡ stand_somewhere read_write (view parents states (left_at reads (i % 128) group) (left_at writes (i % 128) group)) (member group)
    stands =
        word_stands read_write (arrays parents states (left_at reads (i % 128) group) (left_at writes (i % 128) group)) standing group
        (tells_standing parents states (left_at reads (i % 128) group) (left_at writes (i % 128) group) standing tells)
        fits

    pub quiet_stays : meet standing group ≡ true →
        Stepped (some (quiet a i)) parents states reads writes answer parents states (left_at reads (i % 128) group) (left_at writes (i % 128) group)
    quiet_stays still =
        tables.quiet_stays_in_place pre a i answer (member group) (λ m. sets_of m (left_at reads (i % 128) group) (left_at writes (i % 128) group)) grouped long left e z
        (sym stands ∙ still)

    pub quiet_frees : (states' : List ℕ) → Changed (kept group) states states' → meet standing group ≡ false →
        Stepped (some (quiet a i)) parents states reads writes answer parents states' (left_at reads (i % 128) group) (left_at writes (i % 128) group)
    quiet_frees states' states_kept out =
        tables.quiet_frees_in_place pre a i answer (member group) (λ m. sets_of m (left_at reads (i % 128) group) (left_at writes (i % 128) group)) grouped long left e z
        states'
        (arrays_bounded parents states (left_at reads (i % 128) group) (left_at writes (i % 128) group) (long 0 (omega arith)) (long 1 (omega arith)))
        states_kept
        (sym stands ∙ out)
