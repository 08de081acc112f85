-- A family leaves the four arrays of a record, or drains in them. Assumes nothing.
use mathlib.Core.Path.{◌≡◌, ◌∙◌}
use mathlib.Core.Bool.{◌&&◌}
use mathlib.Core.List.{List}
use mathlib.Core.Option.{some}
use Prim.Native.Nat.{ℕ, ◌%◌, ◌<◌, ◌^◌}
use native.Mathlib.Omega.{arith}
use lib.Dec.{ltb}
use Rattle.sets.specs.Sets.{member, meet}
use Rattle.rules.specs.Owners.{in_family}
use Rattle.rules.specs.Requests.{abort, without}
use Rattle.rules.specs.Answers.{answer_of}
use Rattle.rules.specs.ReadWrite.{read_write}
use Rattle.tables.specs.Steps.{OutcomeIs}
use Rattle.tables.proofs.ViewLaws.{parents_sound}
use Rattle.tables.proofs.Descendants.{known_family}
use Rattle.tables.proofs.Accepts.{abort_accepted}
use Rattle.views.specs.View.{view, layout, arrays}
use Rattle.views.specs.Tree.{descends}
use Rattle.views.specs.Reach.{descends_known}
use Rattle.views.specs.Arrays.{SoundArrays}
use Rattle.views.proofs.Words.{family_left, family_aborted}
use Rattle.steps.specs.Changes.{bytes_left, bytes_put, sets_left, aborted_byte}
use Rattle.steps.proofs.Clears.{bytes_put_lem, sets_left_lem}
use Rattle.bench.specs.Draining.{DrainByte}

-- `gone` is the word that was gathered for the family of a
module _ {parents states reads writes : List ℕ} (pre : SoundArrays parents states reads writes) (a gone : ℕ) (la : a < 64)
    (family : (k : ℕ) → member gone k ≡ (ltb k 64 && descends_known parents (a % 64) k)) where
  in_family_lem : (k : ℕ) → member gone k ≡ descends parents a k
  in_family_lem k = family k ∙ known_family 64 parents (parents_sound layout (arrays parents states reads writes) pre.is_sound) pre.long.parents_long a la k

  pub family_leaves : {parents' states' reads' writes' : List ℕ} → parents' ≡ bytes_left gone parents → states' ≡ bytes_left gone states → reads' ≡ sets_left gone reads →
      writes' ≡ sets_left gone writes →
      view parents' states' reads' writes' ≡ without (in_family read_write (view parents states reads writes) a) (view parents states reads writes)
  family_leaves p s r w =
      rw (p, s, r, w)
      (family_left parents states reads writes (bytes_left gone parents) (bytes_left gone states) (sets_left gone reads) (sets_left gone writes) a gone in_family_lem
      (bytes_put_lem gone 0 parents) (bytes_put_lem gone 0 states) (sets_left_lem gone reads) (sets_left_lem gone writes))

-- An abort that is accepted: its family has left the tree, and its byte says whether it drains.
pub family_aborts : {parents states reads writes : List ℕ} → SoundArrays parents states reads writes → {parents' states' : List ℕ} (a gone byte answer : ℕ) → gone < 2 ^ 64 →
    ((k : ℕ) → member gone k ≡ (ltb k 64 && descends_known parents (a % 64 % 64) k)) → DrainByte reads writes gone a byte → parents' ≡ bytes_left gone parents →
    states' ≡ bytes_put gone byte states → answer ≡ answer_of read_write (view parents states reads writes) (abort a) → answer ≡ 0 →
    OutcomeIs layout (some (abort a)) (arrays parents states reads writes) answer (arrays parents' states' reads writes)
family_aborts {parents} {states} {reads} {writes} pre a gone byte answer fits family drains p s e z =
    let new = aborted_byte (meet drains.standing gone) a in
    rw (p, s, drains.is)
    (abort_accepted layout (arrays parents states reads writes) answer a (arrays (bytes_left gone parents) (bytes_put gone new states) reads writes)
    (family_aborted pre (a % 64) gone drains.standing (bytes_left gone parents) (bytes_put gone new states) (omega arith) fits
    (in_family_lem pre (a % 64) gone (omega arith) family) drains.tells (bytes_put_lem gone 0 parents) (bytes_put_lem gone new states)).left
    e z)
