-- The requests (document 01, "The six requests", and document 02, order 2, for abort and quiet): what each does when it is accepted. Read and write
-- are one request, `ask`, in two modes.
use Rattle.std.specs.Prelude.{Bool, true, false, not, ◌&&◌, ◌||◌, cond, ℕ, eqb, if◌then◌else◌}
use Rattle.std.proofs.Math.Option.{Option, none, some}
use Rattle.rules.specs.Tests.{from}
use Rattle.rules.specs.Bench.{Shape, State, free, running, committed, draining, Bench}
use Rattle.rules.specs.Owners.{in_family, drains_under, stand_somewhere}

pub data Request : Type 0 where
  open_top : (n : ℕ) → Request
  open_sub : (n p : ℕ) → Request
  ask : (m a i : ℕ) → Request
  commit : (a : ℕ) → Request
  abort : (a : ℕ) → Request
  quiet : (a i : ℕ) → Request

-- f, but v at n
abbrev pub put {ℓ} : {A : Type ℓ} → ℕ → A → (ℕ → A) → ℕ → A
put n v f k = cond (eqb k n) v (f k)

-- The numbers that are gone become free and leave all sets.
abbrev pub without : (ℕ → Bool) → Bench → Bench
without gone b =
    record {
      state = λ k. if gone k then free else b.state k;
      parent = λ k. if gone k then none else b.parent k;
      stands = λ m i k. b.stands m i k && not (gone k);
    }

-- The numbers that are aborted drain under a: they leave the tree and stay in the sets.
abbrev pub drained : ℕ → (ℕ → Bool) → Bench → Bench
drained a aborted b =
    record {
      state = λ k. if aborted k then draining a else b.state k;
      parent = λ k. if aborted k then none else b.parent k;
      stands = b.stands;
    }

-- The numbers of a group leave the sets of instrument i.
abbrev pub quieted : (ℕ → Bool) → ℕ → Bench → Bench
quieted group i b =
    record { state = b.state; parent = b.parent; stands = λ m at k. b.stands m at k && not (eqb at i && group k) }

-- open top n: makes n a running top action
-- open sub n under p: makes n a running action with parent p
-- ask m a, i: adds a to the set of mode m at instrument i
-- commit a, of a sub: a becomes committed, no owner set changes; of a top: a and all its descendants become free and leave all sets
-- abort a: a and all its descendants, running or committed, drain under a where one of them stands in a set; else they become free at once
-- quiet a, i: all numbers draining under a leave i's sets, and when none is left in any set they become free
unfoldable pub effect : Shape → Bench → Request → Bench
effect sh b (open_top n) = record { state = put n running b.state; parent = b.parent; stands = b.stands }
effect sh b (open_sub n p) = record { state = put n running b.state; parent = put n (some p) b.parent; stands = b.stands }
effect sh b (ask m a i) =
    record {
      state = b.state;
      parent = b.parent;
      stands = λ held at k. b.stands held at k || (eqb held m && eqb at i && eqb k a);
    }
effect sh b (commit a) =
    from (b.parent a) (without (in_family sh b a) b)
    (λ p. record { state = put a committed b.state; parent = b.parent; stands = b.stands })
effect sh b (abort a) =
    let family = in_family sh b a in
    if stand_somewhere sh b family then drained a family b else without family b
effect sh b (quiet a i) =
    let group = drains_under b a in
    let left = quieted group i b in
    if stand_somewhere sh left group then left else without group b
