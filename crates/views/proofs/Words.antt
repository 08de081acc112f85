-- The four arrays as one table: their lengths, the numbers that stand in their sets, and a family that has left them or drains. Assumes nothing.
use Rattle.std.specs.Prelude.{if◌then◌else◌}
use mathlib.Core.Path.{◌≡◌, refl, sym, ◌∙◌, ap}
use mathlib.Core.Bool.{Bool, true, false, ◌||◌, or-false, or_comm}
use mathlib.Core.List.{List}
use Prim.Native.Nat.{ℕ, zero, suc, ◌+◌, ◌<◌, ◌^◌}
use native.Mathlib.Omega.{arith}
use borrow.Author.Tests.{ltb-true, ltb-false}
use lib.Dec.{ltb}
use lib.ListN.{length, get_or, replicate, get_or-eq_default}
use Rattle.sets.specs.Sets.{member, union, difference, meet}
use Rattle.sets.proofs.Laws.{member_union, member_empty}
use Rattle.rules.specs.Tests.{all, any}
use Rattle.rules.specs.Bench as rules
use Rattle.rules.specs.Owners.{in_family}
use Rattle.rules.specs.Requests.{without}
use Rattle.rules.specs.Sound.{sound, reaches_top}
use Rattle.rules.specs.ReadWrite.{read_write}
use Rattle.rules.proofs.Tests.{by_bool, clash, and_left, and_right, by_or, or_left, or_right, any_at, any_by, any_cong, same}
use Rattle.tables.specs.Table.{Table}
use Rattle.tables.specs.Tree.{up_of}
use Rattle.tables.specs.Owners as tables
use Rattle.tables.specs.Owners.{TellsStanding}
use Rattle.tables.specs.Soundness.{permitted}
use Rattle.tables.specs.Changes.{Changed}
use Rattle.tables.specs.Steps.{Long, Bounded}
use Rattle.tables.proofs.SoundParts.{standing_decides, sound_fits, sound_permits, sound_ends, sound_standing, sound_groups}
use Rattle.tables.proofs.Stores as stores
use Rattle.tables.proofs.InPlace as in_place
use Rattle.tables.proofs.OneWord.{nobody_in_zeros, words_cleared, word_stands}
use Rattle.views.specs.View.{layout, arrays, sets_of, view}
use Rattle.views.specs.Tree.{descends}
use Rattle.views.specs.Owners.{stands_at, Standing}
use Rattle.views.specs.Soundness.{bytes_fit, sound_with}
use Rattle.views.specs.Families.{given, kept}
use Rattle.views.specs.Arrays.{SoundArrays, Aborted}

-- ---- lengths

module _ {parents states reads writes : List ℕ} where
  pub arrays_long : length parents ≡ 64 → length states ≡ 64 → length reads ≡ 128 → length writes ≡ 128 → Long layout (arrays parents states reads writes)
  arrays_long parents_long states_long reads_long writes_long =
      record { parents_long = parents_long; states_long = states_long; sets_long = sets }
    where
      sets : (m : ℕ) → m < 2 → length (sets_of m reads writes) ≡ 128
      sets zero l = reads_long
      sets (suc zero) l = writes_long
      sets (suc (suc m)) l = absurd (omega arith)

  pub reads_long_lem : Long layout (arrays parents states reads writes) → length reads ≡ 128
  reads_long_lem h = h.sets_long 0 (omega arith)

  pub writes_long_lem : Long layout (arrays parents states reads writes) → length writes ≡ 128
  writes_long_lem h = h.sets_long 1 (omega arith)

-- past the ends of the sets nobody stands
pub arrays_bounded : (parents states reads writes : List ℕ) → length reads ≡ 128 → length writes ≡ 128 → Bounded layout (arrays parents states reads writes)
arrays_bounded parents states reads writes reads_long writes_long = bounded
  where
    inside : (words : List ℕ) → length words ≡ 128 → (i k : ℕ) → member (get_or words i 0) k ≡ true → i < 128
    inside words long i k m =
        by_bool (ltb i 128) (ltb-true i 128)
        (λ t. let nothing : get_or words i 0 ≡ 0 = get_or-eq_default words 0 (rw long (ltb-false i 128 t)) in
        clash (member 0 k) (rw nothing at m) (member_empty k))

    bounded : (m i k : ℕ) → layout.holds (sets_of m reads writes) i k ≡ true → (m < 2) × (i < 128)
    bounded zero i k m = (omega arith, inside reads reads_long i k m)
    bounded (suc zero) i k m = (omega arith, inside writes writes_long i k m)
    bounded (suc (suc mode)) i k m = clash (member 0 k) m (member_empty k)

-- ---- arrays of zeros

pub empty_shown : view (replicate 64 0) (replicate 64 0) (replicate 128 0) (replicate 128 0) ≡ rules.empty
empty_shown = stores.empty_shown layout 64 (λ m. sets_of m (replicate 128 0) (replicate 128 0)) nobody
  where
    nobody : (m i k : ℕ) → layout.holds (sets_of m (replicate 128 0) (replicate 128 0)) i k ≡ false
    nobody zero i k = nobody_in_zeros read_write 128 i k
    nobody (suc zero) i k = nobody_in_zeros read_write 128 i k
    nobody (suc (suc m)) i k = member_empty k

-- ---- numbers that stand in sets

-- The numbers that stand in a read set, with those that stand in a write set, are those that stand in a set.
pub standing_both : (reads writes : List ℕ) (readers writers numbers : ℕ) → length reads ≡ 128 → length writes ≡ 128 →
    ((k : ℕ) → member readers k ≡ any (length reads) (λ i. member (get_or reads i 0) k)) →
    ((k : ℕ) → member writers k ≡ any (length writes) (λ i. member (get_or writes i 0) k)) → numbers ≡ union readers writers → Standing reads writes numbers
standing_both reads writes readers writers numbers reads_long writes_long in_reads in_writes both k =
    rw (both, member_union, in_reads k, in_writes k, reads_long, writes_long) (any_either 128 (λ i. member (get_or reads i 0) k) (λ i. member (get_or writes i 0) k))
  where
    any_either : (n : ℕ) (f g : ℕ → Bool) → (any n f || any n g) ≡ any n (λ i. f i || g i)
    any_either n f g =
        same (any n f || any n g) (any n (λ i. f i || g i))
        (λ h. by_or (any n f) (any n g) h
        (λ x. let a = any_at n f x in any_by n (λ i. f i || g i) a.0 a.1 (or_left (f a.0) (g a.0) a.2))
        (λ x. let a = any_at n g x in any_by n (λ i. f i || g i) a.0 a.1 (or_right (f a.0) (g a.0) a.2)))
        (λ h. let a = any_at n (λ i. f i || g i) h in
        by_or (f a.0) (g a.0) a.2
        (λ x. or_left (any n f) (any n g) (any_by n f a.0 a.1 x))
        (λ x. or_right (any n f) (any n g) (any_by n g a.0 a.1 x)))

module _ (parents states reads writes : List ℕ) where
  abbrev table : Table
  table = arrays parents states reads writes

  -- the two modes one by one
  pub stands_at_lem : (k i : ℕ) → stands_at reads writes k i ≡ tables.stands_at layout table k i
  unfolding any
  stands_at_lem k i =
      or_comm (member (get_or reads i 0) k) (member (get_or writes i 0) k) ∙ ap (λ x. member (get_or writes i 0) k || x) (sym (or-false (member (get_or reads i 0) k)))

  module _ (numbers : ℕ) (standing : Standing reads writes numbers) where
    pub tells_standing : TellsStanding layout table (member numbers)
    tells_standing k l = standing k ∙ any_cong 128 (stands_at reads writes k) (tables.stands_at layout table k) (λ i li. stands_at_lem k i)

    -- What the soundness test computes is soundness.
    pub sound_with_lem : sound_with parents states numbers ≡ sound read_write (view parents states reads writes)
    sound_with_lem =
        same (sound_with parents states numbers) (sound read_write (view parents states reads writes))
        (λ h.
        let fits = and_left (all 64 (bytes_fit parents states)) _ h in
        let more = and_right (all 64 (bytes_fit parents states)) _ h in
        let permits = and_left (all 64 (permitted parents states)) _ more in
        let most = and_right (all 64 (permitted parents states)) _ more in
        let ends = and_left (all 64 (reaches_top 63 (up_of parents))) _ most in
        let last = and_right (all 64 (reaches_top 63 (up_of parents))) _ most in
        sym (standing_decides layout table (member numbers) tells_standing fits permits ends) ∙ last)
        (λ ok. rw (
          sound_fits layout table ok,
          sound_permits layout table ok,
          sound_ends layout table ok,
          sound_standing layout table (member numbers) tells_standing ok,
          sound_groups layout table (member numbers) tells_standing ok,
        ))

-- ---- numbers that have gone

-- A family that has left the four arrays has left the bench.
pub family_left : (parents states reads writes parents' states' reads' writes' : List ℕ) (a gone : ℕ) → ((k : ℕ) → member gone k ≡ descends parents a k) →
    Changed (kept gone) parents parents' → Changed (kept gone) states states' → Changed (λ j s. difference s gone) reads reads' →
    Changed (λ j s. difference s gone) writes writes' →
    view parents' states' reads' writes' ≡ without (in_family read_write (view parents states reads writes) a) (view parents states reads writes)
family_left parents states reads writes parents' states' reads' writes' a gone family parents_kept states_kept reads_left writes_left =
    stores.family_left layout (arrays parents states reads writes) (arrays parents' states' reads' writes') a (member gone) family
    (words_cleared read_write (arrays parents states reads writes) (arrays parents' states' reads' writes') gone parents_kept states_kept sets)
  where
    sets : (m : ℕ) → Changed (λ j s. difference s gone) (sets_of m reads writes) (sets_of m reads' writes')
    sets zero = reads_left
    sets (suc zero) = writes_left
    sets (suc (suc m)) = record { long = refl; each = λ k l. absurd (omega arith) }

-- A family that was aborted, as one word: it drains where it has a number in common with those that stand in a set.
pub family_aborted : {parents states reads writes : List ℕ} → SoundArrays parents states reads writes → (a gone standing : ℕ) (parents' states' : List ℕ) → a < 64 →
    gone < 2 ^ 64 → ((k : ℕ) → member gone k ≡ descends parents a k) → Standing reads writes standing → Changed (kept gone) parents parents' →
    Changed (given gone (if meet standing gone then 3 + a else 0)) states states' → Aborted a parents states reads writes parents' states'
family_aborted {parents} {states} {reads} {writes} pre a gone standing parents' states' la fits family tells parents_kept states_given =
    in_place.family_aborted pre a (member gone) (meet standing gone) parents' states' la family (arrays_bounded parents states reads writes (reads_long_lem pre.long) (writes_long_lem pre.long))
    (word_stands read_write (arrays parents states reads writes) standing gone (tells_standing parents states reads writes standing tells) fits) parents_kept states_given
