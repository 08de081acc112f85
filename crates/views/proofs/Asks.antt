-- A read or a write: its answer from the row of the owners in the conflicting sets, and the arrays that it leaves. Assumes nothing.
use Rattle.std.specs.Prelude.{if◌then◌else◌}
use mathlib.Core.Path.{◌≡◌, refl, sym, ◌∙◌, ap}
use mathlib.Core.Bool.{Bool, true, false, not, ◌||◌, or-false, or_comm}
use mathlib.Core.List.{List}
use mathlib.Core.Option.{some}
use Prim.Native.Nat.{ℕ, zero, suc, ◌%◌, ◌<◌}
use native.Mathlib.Omega.{arith}
use lib.Dec.{eqb-suc-suc, eqb-suc-zero}
use lib.ListN.{length, get_or, set, length-set}
use Rattle.sets.specs.Sets.{member, with}
use Rattle.sets.proofs.Laws.{member_union}
use Rattle.rules.specs.Tests.{any}
use Rattle.rules.specs.Requests.{ask}
use Rattle.rules.specs.Answers.{answer_of}
use Rattle.rules.specs.Sound.{sound}
use Rattle.rules.specs.ReadWrite.{read_write, mode_of}
use Rattle.tables.specs.Owners.{TellsOwners}
use Rattle.tables.specs.Steps.{OutcomeIs}
use Rattle.tables.proofs.Stores.{Asked, with_shown}
use Rattle.tables.proofs.Rows.{ask_row, found_sound, ask_answered}
use Rattle.tables.proofs.ViewLaws.{tree_sound}
use Rattle.tables.proofs.Accepts.{ask_accepted}
use Rattle.tables.proofs.InPlace as tables
use Rattle.views.specs.View.{layout, arrays, sets_of, view}
use Rattle.views.specs.Tree.{SoundTree}
use Rattle.views.specs.Owners.{conflicting_at}
use Rattle.views.specs.Arrays.{SoundArrays, Stepped}
use Rattle.views.proofs.Words.{reads_long_lem, writes_long_lem}

-- the read sets with another word at instrument i, unless it is a write; and the write sets with it, if it is one
abbrev reads_with : List ℕ → Bool → ℕ → ℕ → List ℕ
reads_with reads is_write i word = if is_write then reads else set reads i word

abbrev writes_with : List ℕ → Bool → ℕ → ℕ → List ℕ
writes_with writes is_write i word = if is_write then set writes i word else writes

module _ (parents states reads writes : List ℕ) where
  -- the words of the conflicting sets tell who stands in them
  conflicting_tells : (is_write : Bool) (i owners : ℕ) → owners ≡ conflicting_at reads writes is_write i →
      TellsOwners layout (arrays parents states reads writes) (mode_of is_write) i (member owners)
  unfolding any
  conflicting_tells false i owners e k l = rw e (sym (or-false (member (get_or writes i 0) k)))
  conflicting_tells true i owners e k l =
      rw (e, member_union)
      (or_comm (member (get_or reads i 0) k) (member (get_or writes i 0) k)
      ∙ ap (λ x. member (get_or writes i 0) k || x) (sym (or-false (member (get_or reads i 0) k))))

  -- `ok` is what the soundness test found
  module _ (ok : Bool) (e : ok ≡ sound read_write (view parents states reads writes)) (h : not ok ≡ false) where
    pub asked_tree : SoundTree parents states
    asked_tree = tree_sound layout (arrays parents states reads writes) (found_sound layout (arrays parents states reads writes) ok e h)

    -- the owners are those in the conflicting sets
    pub asked_answered : (is_write : Bool) (i owners : ℕ) → owners ≡ conflicting_at reads writes is_write (i % 128) → (a answer : ℕ) →
        answer ≡ ask_row read_write parents states (member owners) a i → answer ≡ answer_of read_write (view parents states reads writes) (ask (mode_of is_write) a i)
    asked_answered is_write i owners are =
        ask_answered layout (arrays parents states reads writes) ok e h (mode_of is_write) i (member owners) (conflicting_tells is_write (i % 128) owners are)

  -- ---- what is stored

  asked_stored : (is_write : Bool) (a i word : ℕ) → word ≡ with 64 (get_or (sets_of (mode_of is_write) reads writes) i 0) a → a < 64 →
      i < length (sets_of (mode_of is_write) reads writes) →
      Asked layout (arrays parents states reads writes) (mode_of is_write) a i (λ m. sets_of m (reads_with reads is_write i word) (writes_with writes is_write i word))
  asked_stored false a i word stored la li zero at k = rw stored (with_shown 64 reads a i at k la li)
  asked_stored false a i word stored la li (suc zero) at k = sym (or-false (member (get_or writes at 0) k))
  asked_stored false a i word stored la li (suc (suc m)) at k = rw eqb-suc-zero (sym (or-false (member 0 k)))
  asked_stored true a i word stored la li zero at k = sym (or-false (member (get_or reads at 0) k))
  asked_stored true a i word stored la li (suc zero) at k = rw stored (with_shown 64 writes a i at k la li)
  asked_stored true a i word stored la li (suc (suc m)) at k = rw (eqb-suc-suc, eqb-suc-zero) (sym (or-false (member 0 k)))

  -- An ask that is accepted: the arrays after its store, with the answer 0, are the step.
  pub asked_accepted : (is_write : Bool) (answer a i word : ℕ) → length (sets_of (mode_of is_write) reads writes) ≡ 128 →
      word ≡ with 64 (get_or (sets_of (mode_of is_write) reads writes) (i % 128) 0) (a % 64) →
      answer ≡ answer_of read_write (view parents states reads writes) (ask (mode_of is_write) a i) → answer ≡ 0 →
      OutcomeIs layout (some (ask (mode_of is_write) a i)) (arrays parents states reads writes) answer
      (arrays parents states (reads_with reads is_write (i % 128) word) (writes_with writes is_write (i % 128) word))
  asked_accepted is_write answer a i word long stored e z =
      ask_accepted layout (arrays parents states reads writes) answer (mode_of is_write) a i
      (λ m. sets_of m (reads_with reads is_write (i % 128) word) (writes_with writes is_write (i % 128) word))
      (λ la li. asked_stored is_write (a % 64) (i % 128) word stored (omega arith) (rw long (omega arith))) e z

-- ---- in place, on the arrays of a sound bench

module _ {parents states reads writes : List ℕ} (pre : SoundArrays parents states reads writes) where
  pub ask_found : (is_write : Bool) (a i owners answer : ℕ) → owners ≡ conflicting_at reads writes is_write (i % 128) →
      answer ≡ ask_row read_write parents states (member owners) a i → answer ≡ answer_of read_write (view parents states reads writes) (ask (mode_of is_write) a i)
  ask_found is_write a i owners answer are row =
      asked_answered parents states reads writes true (sym pre.is_sound) refl is_write i owners are a answer row

  -- An ask that is granted stores one word.
  pub granted_in_place : (is_write : Bool) (a i word answer : ℕ) → word ≡ with 64 (get_or (sets_of (mode_of is_write) reads writes) (i % 128) 0) (a % 64) →
      answer ≡ answer_of read_write (view parents states reads writes) (ask (mode_of is_write) a i) → answer ≡ 0 →
      Stepped (some (ask (mode_of is_write) a i)) parents states reads writes answer parents states
      (reads_with reads is_write (i % 128) word) (writes_with writes is_write (i % 128) word)
  granted_in_place is_write a i word answer stored e z =
      tables.ask_in_place pre (mode_of is_write) a i answer
      (λ m. sets_of m (reads_with reads is_write (i % 128) word) (writes_with writes is_write (i % 128) word))
      (long is_write)
      (λ la li. asked_stored parents states reads writes is_write (a % 64) (i % 128) word stored (omega arith) (rw (asked_long is_write) (omega arith))) e z
    where
      asked_long : (is_write : Bool) → length (sets_of (mode_of is_write) reads writes) ≡ 128
      asked_long false = reads_long_lem pre.long
      asked_long true = writes_long_lem pre.long

      long : (is_write : Bool) (m : ℕ) → m < 2 → length (sets_of m (reads_with reads is_write (i % 128) word) (writes_with writes is_write (i % 128) word)) ≡ 128
      long false zero l = length-set reads (i % 128) word ∙ reads_long_lem pre.long
      long false (suc zero) l = writes_long_lem pre.long
      long true zero l = reads_long_lem pre.long
      long true (suc zero) l = length-set writes (i % 128) word ∙ writes_long_lem pre.long
      long is_write (suc (suc m)) l = absurd (omega arith)
