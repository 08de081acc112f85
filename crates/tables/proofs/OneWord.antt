-- Where each set is one word: what a table's stores and loops over words say of its sets. Assumes nothing.
use mathlib.Core.Path.{◌≡◌, refl, sym, ◌∙◌, ap}
use mathlib.Core.Bool.{false, not, ◌&&◌}
use mathlib.Core.List.{List}
use Prim.Native.Nat.{ℕ, ◌+◌, ◌<◌, ◌^◌}
use lib.Dec.{eqb}
use lib.ListN.{length, get_or, set, replicate}
use Rattle.sets.specs.Sets.{member, with, difference, meet}
use Rattle.sets.proofs.Laws.{member_empty, member_difference, member_inside}
use Rattle.rules.specs.Tests.{any}
use Rattle.rules.specs.Bench.{Shape}
use Rattle.rules.specs.Owners.{stand_somewhere}
use Rattle.rules.specs.Requests.{put}
use Rattle.tables.specs.Table.{Table, view}
use Rattle.tables.specs.OneWord.{one_word, left_at}
use Rattle.tables.specs.Owners.{stands_at, TellsStanding}
use Rattle.tables.specs.Changes.{kept, Changed}
use Rattle.tables.proofs.Stores.{Asked, Cleared, asked_one, with_shown, left_shown, zeros}
use Rattle.tables.proofs.Groups.{stand_somewhere_lem}
use Rattle.tables.proofs.Members.{meet_any}
use Rattle.tables.proofs.Cleared.{changed_at, kept_at, difference_empty}

module _ (sh : Shape) where
  -- words that are 0 hold nobody
  pub nobody_in_zeros : (count i k : ℕ) → (one_word sh).holds (replicate count 0) i k ≡ false
  nobody_in_zeros count i k = ap (λ s. member s k) (zeros count i) ∙ member_empty k

  -- a taken into the word of mode m at instrument i
  pub word_asked : (t : Table) (m a i : ℕ) → a < sh.actions → i < length (t.sets m) →
      Asked (one_word sh) t m a i (put m (set (t.sets m) i (with sh.actions (get_or (t.sets m) i 0) a)) t.sets)
  word_asked t m a i la li =
      asked_one (one_word sh) t m a i (set (t.sets m) i (with sh.actions (get_or (t.sets m) i 0) a))
      (λ at k. with_shown sh.actions (t.sets m) a i at k la li)

  -- the numbers of a word gone from the words of a mode
  pub word_left : (before after : List ℕ) (gone : ℕ) → Changed (λ j s. difference s gone) before after → (i k : ℕ) →
      (one_word sh).holds after i k ≡ ((one_word sh).holds before i k && not (member gone k))
  word_left before after gone c i k =
      ap (λ s. member s k) (changed_at (λ j s. difference s gone) before after c i (λ past. difference_empty gone)) ∙ member_difference (get_or before i 0) gone k

  -- and from all arrays
  pub words_cleared : (before after : Table) (gone : ℕ) → Changed (kept (member gone)) before.parents after.parents →
      Changed (kept (member gone)) before.states after.states → ((m : ℕ) → Changed (λ j s. difference s gone) (before.sets m) (after.sets m)) →
      Cleared (one_word sh) (member gone) before after
  words_cleared before after gone parents states sets =
      record {
        parents_kept = kept_at (member gone) before.parents after.parents parents;
        states_kept = kept_at (member gone) before.states after.states states;
        sets_left = λ m i k. word_left (before.sets m) (after.sets m) gone (sets m) i k;
      }

  -- ---- numbers that stand in sets

  module _ (t : Table) where
    -- One of the numbers of a word stands in a set: the word and that of all who do have one in common.
    pub word_stands : (standing numbers : ℕ) → TellsStanding (one_word sh) t (member standing) → numbers < 2 ^ sh.actions →
        meet standing numbers ≡ stand_somewhere sh (view (one_word sh) t) (member numbers)
    word_stands standing numbers tells fits =
        meet_any sh.actions standing numbers (λ k. member standing k && member numbers k) (λ k s m. member_inside sh.actions numbers k fits m) (λ k l. refl)
        ∙ sym (stand_somewhere_lem (one_word sh) t (member standing) (member numbers) tells)

    -- One of those that drain under a stands at instrument i: `here` is the word of all who stand there.
    pub word_group_at : (here group a i : ℕ) → ((k : ℕ) → k < sh.actions → member here k ≡ stands_at (one_word sh) t k i) → group < 2 ^ sh.actions →
        ((k : ℕ) → member group k ≡ eqb (get_or t.states k 0) (3 + a)) →
        meet here group ≡ any sh.actions (λ k. stands_at (one_word sh) t k i && eqb (get_or t.states k 0) (3 + a))
    word_group_at here group a i tells fits grouped =
        meet_any sh.actions here group (λ k. stands_at (one_word sh) t k i && eqb (get_or t.states k 0) (3 + a)) (λ k s m. member_inside sh.actions group k fits m)
        (λ k l. rw (tells k l, grouped k))

  -- the numbers of a group leave the word of instrument i in one mode
  pub word_quieted : (words : List ℕ) (group i : ℕ) → i < length words → (at k : ℕ) →
      (one_word sh).holds (left_at words i group) at k ≡ ((one_word sh).holds words at k && not (eqb at i && member group k))
  word_quieted words group i l at k = left_shown words i group at k l
