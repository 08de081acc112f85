-- A caller who lends room for one line's text, at least three bytes with `feed`, and lends the rest again, gets through any input. Assumes nothing.
use mathlib.Core.Path.{◌≡◌, subst}
use mathlib.Core.List.{List, [], ◌∷◌, ◌++◌}
use mathlib.Core.Option.{Option}
use Prim.Native.Nat.{ℕ, zero, suc, ◌/◌, ◌≤◌, ◌<◌}
use native.Mathlib.Nat.{div-eq_of_lt, le-div_iff_mul-le}
use native.Mathlib.Omega.{arith}
use lib.ListN.{length, take, drop, length-drop, take-append-drop}
use Rattle.rules.specs.Bench as rules
use Rattle.rules.specs.Requests.{Request}
use Rattle.lines.specs.Lines.{answer_line}
use Rattle.lines.specs.Feeding.{fed, said_by, said}
use Rattle.play.specs.declared.Player.{Player}
use Rattle.play.specs.declared.Fed.{Fed}
use Rattle.play.specs.Feeding.{feeding, FedAsBy, FedAs}
use Rattle.play.specs.Feeds.{FeedsBy, stopped, then}
use Rattle.demands.specs.Through.{ThroughBy, done, again}
use Rattle.play.proofs.Traces.{feeds_as}

-- Replies that a contract allows, one for each player and what it is lent.
pub record Feeder (say : rules.Bench → Option Request → List ℕ) (width : ℕ) : Type 0 where
  pub reply : Player → List ℕ → List ℕ → Fed
  pub buffer : Player → List ℕ → List ℕ → List ℕ
  pub allowed : (p : Player) (input out : List ℕ) → FedAsBy say width p input out (reply p input out) (buffer p input out)

module _ (say : rules.Bench → Option Request → List ℕ) (width : ℕ) (some : 0 < width) where
  -- Each call takes something, where there is something to take and room for a line's text.
  pub takes_something : {p : Player} {input out after : List ℕ} {r : Fed} → width ≤ length out → 0 < length input → FedAsBy say width p input out r after → 0 < r.used
  takes_something {out = out} room more f =
      let used = f.used in
      let fits : 1 ≤ length out / width = (le-div_iff_mul-le some).1 (omega arith) in omega arith

  -- With less room nothing is ever taken, whatever is lent again.
  pub takes_nothing : {p : Player} {input out after : List ℕ} {r : Fed} → length out < width → FedAsBy say width p input out r after → r.used ≡ 0
  takes_nothing short f =
      let used = f.used in
      let no_room = div-eq_of_lt short in omega arith

  -- Getting through an input is feeding it.
  pub through_feeds : {p q : Player} {input : List ℕ} {calls : ℕ} {ys : List ℕ} → ThroughBy say width p input calls ys q → FeedsBy say width p input ys q
  through_feeds done = stopped
  through_feeds {q = q} (again {p = p} {ys = ys} input out after r room f rest) =
      subst (λ xs. FeedsBy say width p xs (take r.written after ++ ys) q) (take-append-drop r.used input)
      (then input out after r f (through_feeds rest))

  -- So what was written and where the player stands are what the whole input leads to.
  pub through_as : {p q : Player} {input : List ℕ} {calls : ℕ} {ys : List ℕ} → ThroughBy say width p input calls ys q → (ys ≡ said_by say (feeding p) input) × (feeding q ≡ fed (feeding p) input)
  through_as t = feeds_as say width (through_feeds t)

  module _ (f : Feeder say width) (lend : Player → List ℕ → List ℕ) (room : (p : Player) (rest : List ℕ) → width ≤ length (lend p rest)) where
    -- with a bound on what is left
    within : (n : ℕ) (p : Player) (input : List ℕ) → length input ≤ n → (calls : ℕ) × (ys : List ℕ) × (q : Player) × (calls ≤ n) × ThroughBy say width p input calls ys q
    within zero p [] h = (zero, [], p, omega arith, done)
    within zero p (c ∷ input) h = absurd (omega arith)
    within (suc n) p [] h = (zero, [], p, omega arith, done)
    within (suc n) p (c ∷ input) h =
        let out = lend p (c ∷ input) in
        let r = f.reply p (c ∷ input) out in
        let step = f.allowed p (c ∷ input) out in
        let more : 0 < r.used = takes_something (room p (c ∷ input)) (omega arith) step in
        let left = length-drop r.used (c ∷ input) in
        let rest = within n r.player (drop r.used (c ∷ input)) (omega arith) in (
          suc rest.0,
          take r.written (f.buffer p (c ∷ input) out) ++ rest.1,
          rest.2,
          (let few = rest.3 in omega arith),
          again (c ∷ input) out (f.buffer p (c ∷ input) out) r (room p (c ∷ input)) step rest.4,
        )

    -- Whatever buffers are lent, if each has that room: any input is got through, in at most as many calls as it has bytes.
    pub gets_through_by : (p : Player) (input : List ℕ) → (calls : ℕ) × (ys : List ℕ) × (q : Player) × (calls ≤ length input) × ThroughBy say width p input calls ys q
    gets_through_by p input = within (length input) p input (omega arith)

-- With `feed`, three bytes are that room; and two are too few.
pub gets_through : Feeder answer_line 3 → (lend : Player → List ℕ → List ℕ) → ((p : Player) (rest : List ℕ) → 3 ≤ length (lend p rest)) → (p : Player) (input : List ℕ) → (calls : ℕ) × (ys : List ℕ) × (q : Player) × (calls ≤ length input) × ThroughBy answer_line 3 p input calls ys q
gets_through = gets_through_by answer_line 3 (omega arith)

pub two_bytes_take_nothing : {p : Player} {input out after : List ℕ} {r : Fed} → length out ≤ 2 → FedAs p input out r after → r.used ≡ 0
two_bytes_take_nothing short f = takes_nothing answer_line 3 (omega arith) (omega arith) f
