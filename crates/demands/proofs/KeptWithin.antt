-- Every request of a method keeps a bench within the table: the 64 numbers, the 128 instruments, the two modes, and the states that a byte means. Assumes nothing.
use mathlib.Core.Path.{◌≡◌, refl, ap}
use mathlib.Core.Bool.{Bool, true, false, ◌&&◌, cond, and-false}
use mathlib.Core.List.{List}
use Prim.Native.Nat.{ℕ, zero, suc, ◌^◌, ◌≤◌, ◌<◌}
use native.Mathlib.Omega.{arith}
use borrow.Author.Tests.{eqb-true, ne_eqb, ltb-true}
use lib.Dec.{eqb, ltb}
use lib.ListN.{length, get_or, get_or-eq_default}
use Rattle.sets.specs.Sets.{member}
use Rattle.sets.proofs.Laws.{member_empty, member_outside}
use Rattle.rules.specs.Bench as rules
use Rattle.rules.specs.Bench.{State}
use Rattle.rules.specs.Owners.{above, is_ancestor, in_family, granted, drains_under, stand_somewhere}
use Rattle.rules.specs.Requests.{Request, open_top, open_sub, ask, commit, abort, quiet, without, drained, quieted, effect}
use Rattle.rules.specs.Answers.{answer_of, step}
use Rattle.rules.specs.ReadWrite.{read_write}
use Rattle.rules.proofs.Tests.{by_bool, by_parent, clash, refuted}
use Rattle.rules.proofs.Facts.{somewhere_by}
use Rattle.rules.proofs.Accepted.{Accepted}
use Rattle.views.specs.View.{state_of, parent_of}
use Rattle.tables.proofs.Steps.{granted_by}
use Rattle.bench.specs.declared.Bench.{Bench}
use Rattle.bench.specs.Record.{viewed}
use Rattle.bench.proofs.Unique.{Fits, state_byte}
use Rattle.demands.proofs.Listed.{by_place, HasByte, free_byte, running_byte, committed_byte, draining_byte, Within}

-- a record is read as a bench within the table
pub view_within : (b : Bench) → Fits b → Within (viewed b)
view_within b f =
    record {
      states = λ k l. ap (state_of 64) (get_or-eq_default b.states 0 {n = k} (rw f.states_long l));
      bytes = λ k. ap (state_of 64) (state_byte (get_or b.states k 0));
      parents = λ k l. ap parent_of (get_or-eq_default b.parents 0 {n = k} (rw f.parents_long l));
      numbers = numbers;
      instruments = instruments;
      modes = modes;
    }
  where
    outside : (l : List ℕ) → length l ≡ 128 → (i k : ℕ) → 128 ≤ i → member (get_or l i 0) k ≡ false
    outside l long i k past = rw (get_or-eq_default l 0 {n = i} (rw long past)) (member_empty k)

    unknown : (l : List ℕ) → length l ≡ 128 → ((i : ℕ) → i < 128 → get_or l i 0 < 2 ^ 64) → (i k : ℕ) → 64 ≤ k → member (get_or l i 0) k ≡ false
    unknown l long fits i k past = by_place i 128 (λ li. member_outside 64 (get_or l i 0) k (fits i li) past) (outside l long i k)

    numbers : (m i k : ℕ) → 64 ≤ k → (viewed b).stands m i k ≡ false
    numbers zero i k = unknown b.reads f.reads_long f.reads_fit i k
    numbers (suc zero) i k = unknown b.writes f.writes_long f.writes_fit i k
    numbers (suc (suc m)) i k = λ past. member_empty k

    instruments : (m i k : ℕ) → 128 ≤ i → (viewed b).stands m i k ≡ false
    instruments zero i k = outside b.reads f.reads_long i k
    instruments (suc zero) i k = outside b.writes f.writes_long i k
    instruments (suc (suc m)) i k = λ past. member_empty k

    modes : (m i k : ℕ) → 2 ≤ m → (viewed b).stands m i k ≡ false
    modes zero i k l = absurd (omega arith)
    modes (suc zero) i k l = absurd (omega arith)
    modes (suc (suc m)) i k l = member_empty k

-- who stands in a set there is one of the table's, and so are mode and instrument
inside : (v : rules.Bench) → Within v → (m i k : ℕ) → v.stands m i k ≡ true → (m < 2) × (i < 128) × (k < 64)
inside v w m i k s = (
  by_place m 2 (λ l. l) (λ past. clash (v.stands m i k) s (w.modes m i k past)),
  by_place i 128 (λ l. l) (λ past. clash (v.stands m i k) s (w.instruments m i k past)),
  by_place k 64 (λ l. l) (λ past. clash (v.stands m i k) s (w.numbers m i k past)),
)

-- Where none of the numbers stands in a set, whoever stands in one is none of them.
pub nowhere : (v : rules.Bench) → Within v → (numbers : ℕ → Bool) → stand_somewhere read_write v numbers ≡ false → (m i k : ℕ) → v.stands m i k ≡ true → numbers k ≡ false
nowhere v w numbers none m i k s =
    let at = inside v w m i k s in
    refuted (numbers k)
    (λ one. clash (stand_somewhere read_write v numbers)
    (somewhere_by read_write v numbers i at.1
    (record { mode = m; mode_known = at.0; number = k; number_known = at.2; stands = s; is_one = one }))
    none)

-- ---- requests

-- Reading and writing are the modes that a method asks for.
abbrev pub method_of : Request → Bool
method_of (open_top n) = true
method_of (open_sub n p) = true
method_of (ask m a i) = ltb m 2
method_of (commit a) = true
method_of (abort a) = true
method_of (quiet a i) = true

-- a number's state after a test of it
chosen_byte : (t : Bool) {s old : State} → HasByte s → HasByte old → HasByte (cond t s old)
chosen_byte true new old = new
chosen_byte false new old = old

without_within : (v : rules.Bench) (gone : ℕ → Bool) → Within v → Within (without gone v)
without_within v gone w =
    record {
      states = λ k l. by_bool (gone k) (λ t. rw t) (λ t. rw t (w.states k l));
      bytes = λ k. chosen_byte (gone k) free_byte (w.bytes k);
      parents = λ k l. by_bool (gone k) (λ t. rw t) (λ t. rw t (w.parents k l));
      numbers = λ m i k l. rw (w.numbers m i k l);
      instruments = λ m i k l. rw (w.instruments m i k l);
      modes = λ m i k l. rw (w.modes m i k l);
    }

-- A family has no number outside the table: such a number has no parent.
family_within : (v : rules.Bench) → Within v → (a k : ℕ) → a < 64 → 64 ≤ k → in_family read_write v a k ≡ false
unfolding in_family is_ancestor above
family_within v w a k l past = rw (ne_eqb k a (λ e. omega arith), w.parents k past)

drained_within : (v : rules.Bench) → Within v → (a : ℕ) → a < 64 → Within (drained a (in_family read_write v a) v)
drained_within v w a l =
    record {
      states = λ k past. rw (family_within v w a k l past) (w.states k past);
      bytes = λ k. chosen_byte (in_family read_write v a k) (draining_byte a l) (w.bytes k);
      parents = λ k past. rw (family_within v w a k l past) (w.parents k past);
      numbers = w.numbers;
      instruments = w.instruments;
      modes = w.modes;
    }

pub quieted_within : (v : rules.Bench) → Within v → (group : ℕ → Bool) (i : ℕ) → Within (quieted group i v)
quieted_within v w group i =
    record {
      states = w.states;
      bytes = w.bytes;
      parents = w.parents;
      numbers = λ m at k l. rw (w.numbers m at k l);
      instruments = λ m at k l. rw (w.instruments m at k l);
      modes = λ m at k l. rw (w.modes m at k l);
    }

effect_within : (v : rules.Bench) → Within v → (q : Request) → Accepted (granted read_write v) read_write v q → method_of q ≡ true → Within (effect read_write v q)
unfolding effect
effect_within v w (open_top n) f known =
    record {
      states = λ k l. let h = f.known in rw (ne_eqb k n (λ e. omega arith)) (w.states k l);
      bytes = λ k. chosen_byte (eqb k n) running_byte (w.bytes k);
      parents = w.parents;
      numbers = w.numbers;
      instruments = w.instruments;
      modes = w.modes;
    }
effect_within v w (open_sub n p) f known =
    record {
      states = λ k l. let h = f.known in rw (ne_eqb k n (λ e. omega arith)) (w.states k l);
      bytes = λ k. chosen_byte (eqb k n) running_byte (w.bytes k);
      parents = λ k l. let h = f.known in rw (ne_eqb k n (λ e. omega arith)) (w.parents k l);
      numbers = w.numbers;
      instruments = w.instruments;
      modes = w.modes;
    }
effect_within v w (ask m a i) f known =
    record {
      states = w.states;
      bytes = w.bytes;
      parents = w.parents;
      numbers = λ held at k l. let h = f.known in rw (w.numbers held at k l, ne_eqb k a (λ e. omega arith)) (and-false (eqb held m && eqb at i));
      instruments = λ held at k l. let h = f.instrument_known in rw (w.instruments held at k l, ne_eqb at i (λ e. omega arith), and-false (eqb held m));
      modes = λ held at k l. let h = ltb-true m 2 known in rw (w.modes held at k l, ne_eqb held m (λ e. omega arith));
    }
effect_within v w (commit a) f known =
    by_parent (v.parent a) (λ top. rw top (without_within v (in_family read_write v a) w))
    (λ p sub. let h = f.known in
    rw sub
    (record {
      states = λ k l. rw (ne_eqb k a (λ e. omega arith)) (w.states k l);
      bytes = λ k. chosen_byte (eqb k a) committed_byte (w.bytes k);
      parents = w.parents;
      numbers = w.numbers;
      instruments = w.instruments;
      modes = w.modes;
    }))
effect_within v w (abort a) f known =
    by_bool (stand_somewhere read_write v (in_family read_write v a))
    (λ t. rw t (drained_within v w a f.known))
    (λ t. rw t (without_within v (in_family read_write v a) w))
effect_within v w (quiet a i) f known =
    by_bool (stand_somewhere read_write (quieted (drains_under v a) i v) (drains_under v a))
    (λ t. rw t (quieted_within v w (drains_under v a) i))
    (λ t. rw t (without_within v (drains_under v a) w))

pub step_within : (v : rules.Bench) → Within v → (q : Request) → method_of q ≡ true → Within (step read_write v q).next
unfolding step
step_within v w q known =
    by_bool (eqb (answer_of read_write v q) 0)
    (λ t. rw t (effect_within v w q (granted_by read_write v q (answer_of read_write v q) refl (eqb-true (answer_of read_write v q) 0 t)).facts known))
    (λ t. rw t w)
