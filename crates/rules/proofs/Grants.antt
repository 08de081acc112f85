-- Reading and writing: the four entries of the table of conflicts, as document 01 has them, and the granting rule in its words, with no table: a read is
-- granted exactly if every owner of the write set is the asker or an ancestor of it, a write exactly if every owner of both sets is.
use mathlib.Core.Path.{◌≡◌, refl}
use mathlib.Core.Bool.{true, false}
use mathlib.Core.Logic.{◌↔◌}
use Prim.Native.Nat.{ℕ, ◌<◌}
use native.Mathlib.Omega.{arith}
use Rattle.rules.specs.Tests.{◌⇒◌, all}
use Rattle.rules.specs.Bench.{Shape, Bench}
use Rattle.rules.specs.Owners.{heir_in_line, granted}
use Rattle.rules.specs.Sound.{sound}
use Rattle.rules.specs.ReadWrite.{reading, writing, read_write}
use Rattle.rules.specs.Moss.{OwnersInLine}
use Rattle.rules.proofs.Tests.{clash, by_last, implies, implied, all_at, all_by}
use Rattle.rules.proofs.Walks.{heir_found}
use Rattle.rules.proofs.SetForm.{standing_in_use}

-- ---- the table

-- Read conflicts with write, and write with both; two reads don't conflict.
pub read_beside_read : read_write.conflict reading reading ≡ false
read_beside_read = refl

pub read_beside_write : read_write.conflict reading writing ≡ true
read_beside_write = refl

pub write_beside_read : read_write.conflict writing reading ≡ true
write_beside_read = refl

pub write_beside_write : read_write.conflict writing writing ≡ true
write_beside_write = refl

-- reading and writing are all the modes
by_mode : (P : ℕ → Type 0) → P reading → P writing → (m : ℕ) → m < read_write.modes → P m
by_mode P r w m l = by_last 1 m l (λ e. rw e w) (λ below. by_last 0 m below (λ e. rw e r) (λ none. absurd (omega arith)))

-- ---- the rule, number by number

module _ (sh : Shape) (b : Bench) (a i : ℕ) where
  -- the heir of each number in the set of a mode is a or an ancestor of it
  abbrev pub HeirsInLine : ℕ → Type 0
  HeirsInLine held = (k : ℕ) → k < sh.actions → b.stands held i k ≡ true → heir_in_line sh b a k ≡ true

  pub granted_at : (m : ℕ) → granted sh b m a i ≡ true → (held : ℕ) → held < sh.modes → sh.conflict m held ≡ true → HeirsInLine held
  unfolding granted
  granted_at m h held lm c k l s =
      implies (b.stands held i k) (heir_in_line sh b a k)
      (all_at sh.actions (λ k. b.stands held i k ⇒ heir_in_line sh b a k)
      (implies (sh.conflict m held) (all sh.actions (λ k. b.stands held i k ⇒ heir_in_line sh b a k))
      (all_at sh.modes (λ held. sh.conflict m held ⇒ all sh.actions (λ k. b.stands held i k ⇒ heir_in_line sh b a k)) h held lm)
      c)
      k
      l)
      s

  pub granted_from : (m : ℕ) → ((held : ℕ) → held < sh.modes → sh.conflict m held ≡ true → HeirsInLine held) → granted sh b m a i ≡ true
  unfolding granted
  granted_from m h =
      all_by sh.modes (λ held. sh.conflict m held ⇒ all sh.actions (λ k. b.stands held i k ⇒ heir_in_line sh b a k))
      (λ held lm. implied (sh.conflict m held) (all sh.actions (λ k. b.stands held i k ⇒ heir_in_line sh b a k))
      (λ c. all_by sh.actions (λ k. b.stands held i k ⇒ heir_in_line sh b a k)
      (λ k l. implied (b.stands held i k) (heir_in_line sh b a k) (h held lm c k l))))

  -- ---- and owner by owner

  module _ (ok : sound sh b ≡ true) (li : i < sh.instruments) where
    heirs_owners : (held : ℕ) → HeirsInLine held → OwnersInLine sh b a (b.stands held i)
    unfolding heir_in_line
    heirs_owners held heirs h o = rw o.heir_is at (heirs o.number o.known o.stands)

    owners_heirs : (held : ℕ) → held < sh.modes → OwnersInLine sh b a (b.stands held i) → HeirsInLine held
    unfolding heir_in_line
    owners_heirs held lm owners k l s =
        let found = heir_found sh b ok k l (standing_in_use sh b ok held i k lm li l s) in
        rw found.1 (owners found.0 (record { number = k; known = l; stands = s; heir_is = found.1 }))

module _ (b : Bench) (ok : sound read_write b ≡ true) (a i : ℕ) (li : i < read_write.instruments) where
  -- A read is granted exactly if every owner of the write set is the asker or an ancestor of it.
  pub read_granted : (granted read_write b reading a i ≡ true) ↔ OwnersInLine read_write b a (b.stands writing i)
  read_granted = (
    λ h. heirs_owners read_write b a i ok li writing (granted_at read_write b a i reading h writing (omega arith) read_beside_write),
    λ writers. granted_from read_write b a i reading
        (by_mode (λ held. read_write.conflict reading held ≡ true → HeirsInLine read_write b a i held)
        (λ c. clash (read_write.conflict reading reading) c read_beside_read)
        (λ c. owners_heirs read_write b a i ok li writing (omega arith) writers)),
  )

  -- A write is granted exactly if every owner of the read set and every owner of the write set is.
  pub write_granted : (granted read_write b writing a i ≡ true) ↔ (OwnersInLine read_write b a (b.stands reading i) × OwnersInLine read_write b a (b.stands writing i))
  write_granted = (
    λ h. (
      heirs_owners read_write b a i ok li reading (granted_at read_write b a i writing h reading (omega arith) write_beside_read),
      heirs_owners read_write b a i ok li writing (granted_at read_write b a i writing h writing (omega arith) write_beside_write),
    ),
    λ owners. granted_from read_write b a i writing
        (by_mode (λ held. read_write.conflict writing held ≡ true → HeirsInLine read_write b a i held)
        (λ c. owners_heirs read_write b a i ok li reading (omega arith) owners.0)
        (λ c. owners_heirs read_write b a i ok li writing (omega arith) owners.1)),
  )
