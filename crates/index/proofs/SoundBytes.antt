-- What the bytes and the words of a sound bench's arrays are known to be, of those that drain and those that stand in sets. Assumes nothing.
use mathlib.Core.Path.{◌≡◌, sym, ◌∙◌}
use mathlib.Core.Bool.{true, false}
use mathlib.Core.List.{List}
use mathlib.Core.Option.{some}
use Prim.Native.Nat.{ℕ, ◌+◌, ◌-◌, ◌<◌}
use native.Mathlib.Omega.{arith}
use borrow.Author.Tests.{eqb-true, eq-eqb, ltb-true, ltb-false}
use lib.Dec.{ltb}
use lib.ListN.{length, get_or}
use Rattle.sets.specs.Sets.{member}
use Rattle.rules.specs.Bench.{head_of}
use Rattle.rules.specs.ReadWrite.{read_write}
use Rattle.rules.specs.Sound as rules
use Rattle.rules.proofs.Tests.{by_bool}
use Rattle.rules.proofs.Facts.{SoundNumber, sound_facts}
use Rattle.tables.proofs.States.{free_byte, draining_byte}
use Rattle.tables.proofs.Groups.{group_byte}
use Rattle.tables.proofs.SoundParts.{sound_fits, fits_means}
use Rattle.views.specs.View.{arrays, layout, view}
use Rattle.steps.specs.Arrays.{Arrays, view_of, read_sets, write_sets, SoundLists}
use Rattle.steps.proofs.Halves.{read_set_at, write_set_at}

-- Numbers drain under heads that drain under themselves, and free numbers stand in no set.
pub record SoundBytes (states owners : List ℕ) : Type 0 where
  pub states_long : length states ≡ 64
  pub owners_long : length owners ≡ 256
  pub head_known : (k h : ℕ) → k < 64 → get_or states k 0 ≡ 3 + h → h < 64
  pub head_drains : (k h : ℕ) → k < 64 → get_or states k 0 ≡ 3 + h → get_or states h 0 ≡ 3 + h
  pub free_nowhere : (k word : ℕ) → k < 64 → word < 256 → get_or states k 0 ≡ 0 → member (get_or owners word 0) k ≡ false

-- a byte of those that drain names a number of the table
pub head_known_lem : (parents states reads writes : List ℕ) → rules.sound read_write (view parents states reads writes) ≡ true → (k h : ℕ) → k < 64 → get_or states k 0 ≡ 3 + h → h < 64
head_known_lem parents states reads writes ok k h l e =
    let means = fits_means 64 parents states (sound_fits layout (arrays parents states reads writes) ok) k l in omega arith

module _ (b : Arrays) (ok : SoundLists b) where
  fact : (k : ℕ) → k < 64 → SoundNumber read_write (view_of b) k
  fact k l = sound_facts read_write (view_of b) ok.table.is_sound k l

  known : (k h : ℕ) → k < 64 → get_or b.states k 0 ≡ 3 + h → h < 64
  known = head_known_lem b.parents b.states (read_sets b.owners) (write_sets b.owners) ok.table.is_sound

  drains : (k h : ℕ) → k < 64 → get_or b.states k 0 ≡ 3 + h → get_or b.states h 0 ≡ 3 + h
  drains k h l e =
      let lh = known k h l e in
      let head : head_of ((view_of b).state k) ≡ some h = rw (e, draining_byte 64 h lh) in
      eqb-true (get_or b.states h 0) (3 + h)
      (sym (group_byte layout (arrays b.parents b.states (read_sets b.owners) (write_sets b.owners)) h h lh) ∙ ((fact k l).drains h head).head_drains)

  nowhere : (k word : ℕ) → k < 64 → word < 256 → get_or b.states k 0 ≡ 0 → member (get_or b.owners word 0) k ≡ false
  nowhere k word l lw e =
      let free = free_byte 64 (get_or b.states k 0) ∙ eq-eqb (get_or b.states k 0) 0 e in
      by_bool (ltb word 128)
      (λ t. let below = ltb-true word 128 t in
      rw (read_set_at b.owners word below) at ((fact k l).free_stands_nowhere free 0 word (omega arith) below))
      (λ t. let above = ltb-false word 128 t in
      let i : word - 128 < 128 = omega arith in
      let back : 128 + (word - 128) ≡ word = omega arith in
      rw (write_set_at b.owners (word - 128) i, back) at ((fact k l).free_stands_nowhere free 1 (word - 128) (omega arith) i))

  pub sound_bytes : SoundBytes b.states b.owners
  sound_bytes = record { states_long = ok.table.long.states_long; owners_long = ok.owners_long; head_known = known; head_drains = drains; free_nowhere = nowhere }
