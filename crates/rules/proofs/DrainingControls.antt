-- Controls of who drains: claims stronger than the theorems by one hypothesis less, refuted on computed benches of four actions and two instruments with the
-- modes of read and write.
use mathlib.Core.Path.{◌≡◌, refl, ap}
use mathlib.Core.Bool.{true, false, false≢true}
use mathlib.Core.List.{List, [], ◌∷◌, ◌++◌}
use mathlib.Core.Option.{some}
use Prim.Native.Nat.{ℕ}
use native.Mathlib.Omega.{arith}
use lib.ListN.{get_or}
use Rattle.rules.specs.Tests.{all, any}
use Rattle.rules.specs.Bench.{is_free, is_running, head_of, Bench, empty}
use Rattle.rules.specs.Owners.{above, is_ancestor, in_family, nearest, heir, is_owner, is_asker_or_ancestor, heir_in_line, granted, has_running_child, drains_under, stand_at, stand_somewhere}
use Rattle.rules.specs.Sound.{stands_nowhere, reaches_top, sound}
use Rattle.rules.specs.Requests.{Request, open_top, abort, quiet, without, effect}
use Rattle.rules.specs.Answers.{row_by, answer_of, step, answers, after}
use Rattle.rules.specs.ReadWrite.{reading, read}
use Rattle.rules.proofs.Tests.{clash}
use Rattle.rules.proofs.Controls.{small}
use Rattle.rules.proofs.Draining.{Unchanged}
use Rattle.rules.proofs.Quieting.{quiet_from}
use Rattle.rules.proofs.AsBefore.{old_sound, old_granted, old_answer, old_answers}

-- the bench that requests leave, from an empty one
reached : List Request → Bench
unfolding all any above is_ancestor in_family nearest heir is_owner is_asker_or_ancestor heir_in_line granted has_running_child stand_at stand_somewhere effect stands_nowhere reaches_top sound row_by answer_of step answers after
reached rs = after small empty rs

-- tops 1 and 2; 1 reads both instruments
reader : List Request
reader = open_top 1 ∷ open_top 2 ∷ read 1 0 ∷ read 1 1 ∷ []

-- and 1 is aborted
reader_drains : Bench
unfolding reached reader
reader_drains = reached (reader ++ (abort 1 ∷ []))

-- A draining owner keeps nobody from a mode that doesn't conflict with its own.
blocks_conflicts_only : ((b : Bench) (m held a i h : ℕ) → sound small b ≡ true → is_owner small b held i h ≡ true → drains_under b h h ≡ true → is_running (b.state a) ≡ true → granted small b m a i ≡ false) → ⊥
unfolding reader_drains
blocks_conflicts_only claim = clash true refl (claim reader_drains reading reading 2 0 1 refl refl refl refl)

-- An abort doesn't free a family that stands in a set.
standing_family_waits : ((b : Bench) (a : ℕ) → sound small b ≡ true → is_running (b.state a) ≡ true → effect small b (abort a) ≡ without (in_family small b a) b) → ⊥
unfolding reader_drains
standing_family_waits claim = false≢true (ap (λ c. is_free (c.state 1)) (claim (reached reader) 1 refl refl))

-- Quiet of its head changes who drains.
quiet_changes : ((b : Bench) (k h : ℕ) (r : Request) → sound small b ≡ true → head_of (b.state k) ≡ some h → Unchanged b (step small b r).next k) → ⊥
unfolding reader_drains
quiet_changes claim = false≢true ((claim reader_drains 1 1 (quiet 1 0) refl refl).stands reading 0)

-- Quiet of all instruments but one doesn't free the group.
one_instrument_left : ((b : Bench) (a : ℕ) → sound small b ≡ true → drains_under b a a ≡ true → is_free ((after small b (quiet_from a 0 1)).state a) ≡ true) → ⊥
unfolding reader_drains quiet_from
one_instrument_left claim = false≢true (claim reader_drains 1 refl refl)

-- After an abort that waits, the rules from before call the record unsound: who drains has no parent and doesn't run.
aborts_as_before : ((rs : List Request) → answers small empty rs ≡ old_answers small empty rs) → ⊥
unfolding reached reader old_sound old_granted old_answer old_answers
aborts_as_before claim =
    let differs : ◌≡◌ {A = ℕ} 0 7 = ap (λ xs. get_or xs 5 0) (claim (reader ++ (abort 1 ∷ open_top 3 ∷ []))) in
    omega arith
