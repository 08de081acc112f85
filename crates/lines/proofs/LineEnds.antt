-- The end of a line: the answer is small, and the arrays are left known. Assumes nothing.
use mathlib.Core.Path.{◌≡◌, sym, ◌∙◌, ap}
use mathlib.Core.Bool.{Bool, true, false, not, ◌||◌, cond}
use mathlib.Core.List.{List}
use mathlib.Core.Option.{Option, none, some}
use Prim.Native.Nat.{ℕ, ◌≤◌, ◌<◌}
use native.Mathlib.Omega.{arith}
use Rattle.rules.specs.Bench as rules
use Rattle.rules.specs.Bench.{is_free, is_running}
use Rattle.rules.specs.Owners.{granted, has_running_child, drains_under, stand_at}
use Rattle.rules.specs.Requests.{Request, open_top, open_sub, ask, commit, abort, quiet}
use Rattle.rules.specs.Answers.{too_high, no_instrument, row, row_by, answer_of, step, answered}
use Rattle.rules.specs.Sound.{sound}
use Rattle.rules.specs.ReadWrite.{read_write}
use Rattle.views.specs.View.{view}
use Rattle.views.specs.Arrays.{SoundArrays, KnownArrays, Stepped, LineEnded}
use Rattle.rules.specs.Frames.{framed}
use Rattle.rules.proofs.Frames.{request_of}
use Rattle.tables.proofs.Steps.{answer_unsound, step_refused}

-- ---- answers are small

either_small : (t : Bool) (x y : ℕ) → x < 16 → y < 16 → cond t x y < 16
either_small true x y h g = h
either_small false x y h g = g

row_small : (b : rules.Bench) (r : Request) → row read_write b r < 16
unfolding row_by
row_small b (open_top n) =
    either_small (too_high read_write n) 1 _ (omega arith)
    (either_small (not (is_free (b.state n))) 3 0 (omega arith) (omega arith))
row_small b (open_sub n p) =
    either_small (too_high read_write n || too_high read_write p) 1 _ (omega arith)
    (either_small (not (is_free (b.state n))) 3 _ (omega arith)
    (either_small (not (is_running (b.state p))) 4 0 (omega arith) (omega arith)))
row_small b (ask m a i) =
    either_small (too_high read_write a) 1 _ (omega arith)
    (either_small (no_instrument read_write i) 2 _ (omega arith)
    (either_small (not (is_running (b.state a))) 4 _ (omega arith)
    (either_small (has_running_child read_write b a) 5 _ (omega arith)
    (either_small (not (granted read_write b m a i)) 6 0 (omega arith) (omega arith)))))
row_small b (commit a) =
    either_small (too_high read_write a) 1 _ (omega arith)
    (either_small (not (is_running (b.state a))) 4 _ (omega arith)
    (either_small (has_running_child read_write b a) 5 0 (omega arith) (omega arith)))
row_small b (abort a) =
    either_small (too_high read_write a) 1 _ (omega arith)
    (either_small (not (is_running (b.state a))) 4 0 (omega arith) (omega arith))
row_small b (quiet a i) =
    either_small (too_high read_write a) 1 _ (omega arith)
    (either_small (no_instrument read_write i) 2 _ (omega arith)
    (either_small (not (drains_under b a a) || not (stand_at read_write b (drains_under b a) i)) 10 0 (omega arith) (omega arith)))

answered_small : (b : rules.Bench) (r : Option Request) → (answered read_write b r).answer < 16
unfolding step answer_of
answered_small b none = omega arith
answered_small b (some r) = either_small (sound read_write b) (row read_write b r) 7 (row_small b r) (omega arith)

-- ---- the arrays

pub ended_small : {ok : Bool} {held : Option Request} {parents states reads writes parents' states' reads' writes' : List ℕ} {answer : ℕ} → LineEnded ok held parents states reads writes answer parents' states' reads' writes' → answer < 16
ended_small {held = held} {parents = parents} {states = states} {reads = reads} {writes = writes} m =
    rw (ap (λ o. o.answer) m.outcome) (answered_small (view parents states reads writes) held)

module _ {ok : Bool} {parents states reads writes : List ℕ} (known : KnownArrays ok parents states reads writes) where
  pub sound_arrays : ok ≡ true → SoundArrays parents states reads writes
  sound_arrays t = record { long = known.long; is_sound = sym known.known ∙ t }

  -- on a sound bench
  pub step_ends : {r held : Option Request} {answer : ℕ} {parents' states' reads' writes' : List ℕ} → ok ≡ true → r ≡ held → Stepped r parents states reads writes answer parents' states' reads' writes' → LineEnded ok held parents states reads writes answer parents' states' reads' writes'
  step_ends t e m =
      let after = m.table in
      record {
        outcome = rw (← e) m.outcome;
        table = record { long = after.long; known = t ∙ sym after.is_sound };
      }

  -- the line of a frame
  module _ {held : Option Request} (code x y : ℕ) (e : framed code x y ≡ held) where
    pub malformed_ends : code ≡ 0 → LineEnded ok held parents states reads writes 8 parents states reads writes
    malformed_ends z = record { outcome = rw (← e, z); table = known }

    pub unsound_ends : ok ≡ false → (code ≡ 0 → ⊥) → code ≤ 7 → LineEnded ok held parents states reads writes 7 parents states reads writes
    unsound_ends t nonzero small =
        let b : rules.Bench = view parents states reads writes in
        let found = request_of code x y nonzero small in
        let seven = answer_unsound read_write b found.0 ok known.known (rw t) in
        record { outcome = rw (← e, found.1) (step_refused read_write b found.0 7 seven (λ z. omega arith)); table = known }
