-- The reading of a record as a bench loses nothing: two records as the language has them that are read as the same bench are the same record. So a
-- contract that gives the bench read from a result gives the result. Assumes nothing.
use mathlib.Core.Path.{◌≡◌, refl, sym, ◌∙◌, ap}
use mathlib.Core.List.{List}
use mathlib.Core.Option.{Option}
use Prim.Native.Nat.{ℕ, zero, suc, ◌^◌, ◌<◌}
use native.Mathlib.Omega.{arith}
use borrow.Author.Tests.{ne_eqb}
use lib.Dec.{ltb}
use lib.ListN.{length, get_or, replicate, length-replicate, get_or-replicate}
use lib.Seq.{ext_get_or}
use Rattle.sets.specs.Sets.{member}
use Rattle.sets.proofs.Laws.{same_members}
use Rattle.rules.specs.Tests.{from}
use Rattle.rules.specs.Bench.{State, free, running, committed, draining, meaningless}
use Rattle.rules.specs.Requests.{Request}
use Rattle.rules.specs.Answers.{Outcome, answer_of, step}
use Rattle.rules.specs.ReadWrite.{read_write}
use Rattle.rules.proofs.Tests.{by_bool}
use Rattle.views.specs.View.{state_of, parent_of}
use Rattle.bench.specs.declared.Bench.{Bench}
use Rattle.bench.specs.declared.Reply.{Reply}
use Rattle.bench.specs.Record.{viewed, seen}
use Rattle.bench.specs.Plays.{IsEmpty, Returns}

-- A record as the language has it: the arrays have their lengths, and each set is a word of 64 bits. Of bytes nothing need be said.
pub record Fits (b : Bench) : Type 0 where
  pub parents_long : length b.parents ≡ 64
  pub states_long : length b.states ≡ 64
  pub reads_long : length b.reads ≡ 128
  pub writes_long : length b.writes ≡ 128
  pub reads_fit : (i : ℕ) → i < 128 → get_or b.reads i 0 < 2 ^ 64
  pub writes_fit : (i : ℕ) → i < 128 → get_or b.writes i 0 < 2 ^ 64

-- arrays of zeros are such a record
pub zeros_fit : Fits (record { parents = replicate 64 0; states = replicate 64 0; reads = replicate 128 0; writes = replicate 128 0 })
zeros_fit =
    record {
      parents_long = length-replicate {A = ℕ} 64 0;
      states_long = length-replicate {A = ℕ} 64 0;
      reads_long = length-replicate {A = ℕ} 128 0;
      writes_long = length-replicate {A = ℕ} 128 0;
      reads_fit = λ i l. rw (get_or-replicate {A = ℕ} 128 i 0 0 l) (omega arith);
      writes_fit = λ i l. rw (get_or-replicate {A = ℕ} 128 i 0 0 l) (omega arith);
    }

-- ---- a byte is told by what it means

-- The byte that means a state. A number of the table drains, any other means nothing, so that the two never share a byte.
unfoldable pub byte_of : State → ℕ
byte_of free = 0
byte_of running = 1
byte_of committed = 2
byte_of (draining h) = suc (suc (suc h))
byte_of (meaningless n) = suc (suc (suc n))

pub state_byte : (s : ℕ) → byte_of (state_of 64 s) ≡ s
unfolding byte_of
state_byte zero = refl
state_byte (suc zero) = refl
state_byte (suc (suc zero)) = refl
state_byte (suc (suc (suc h))) = by_bool (ltb h 64) (λ t. rw t) (λ t. rw t)

parent_byte : (p : ℕ) → from (parent_of p) 0 suc ≡ p
parent_byte zero = refl
parent_byte (suc p) = refl

pub state_injective : (s t : ℕ) → state_of 64 s ≡ state_of 64 t → s ≡ t
state_injective s t e = sym (state_byte s) ∙ ap byte_of e ∙ state_byte t

pub parent_injective : (p q : ℕ) → parent_of p ≡ parent_of q → p ≡ q
parent_injective p q e = sym (parent_byte p) ∙ ap (λ (o : Option ℕ). from o 0 suc) e ∙ parent_byte q

-- ---- the four arrays

same_lists : (n : ℕ) (l m : List ℕ) → length l ≡ n → length m ≡ n → ((i : ℕ) → i < n → get_or l i 0 ≡ get_or m i 0) → l ≡ m
same_lists n l m hl hm e = ext_get_or 0 l m (hl ∙ sym hm) (λ i h. e i (rw hl at h))

-- two arrays of sets that have the same members are the same
pub same_sets : (l m : List ℕ) → length l ≡ 128 → length m ≡ 128 → ((i : ℕ) → i < 128 → get_or l i 0 < 2 ^ 64) → ((i : ℕ) → i < 128 → get_or m i 0 < 2 ^ 64) → ((i k : ℕ) → member (get_or l i 0) k ≡ member (get_or m i 0) k) → l ≡ m
same_sets l m hl hm fl fm e =
    same_lists 128 l m hl hm (λ i h. same_members 64 (get_or l i 0) (get_or m i 0) (fl i h) (fm i h) (λ k below. e i k))

pub view_injective : (b c : Bench) → Fits b → Fits c → viewed b ≡ viewed c → b ≡ c
view_injective b c fb fc e = λ j. record { parents = parents j; states = states j; reads = reads j; writes = writes j }
  where
    parents : b.parents ≡ c.parents
    parents =
        same_lists 64 b.parents c.parents fb.parents_long fc.parents_long
        (λ k l. parent_injective (get_or b.parents k 0) (get_or c.parents k 0) (ap (λ v. v.parent k) e))

    states : b.states ≡ c.states
    states =
        same_lists 64 b.states c.states fb.states_long fc.states_long
        (λ k l. state_injective (get_or b.states k 0) (get_or c.states k 0) (ap (λ v. v.state k) e))

    reads : b.reads ≡ c.reads
    reads =
        same_sets b.reads c.reads fb.reads_long fc.reads_long fb.reads_fit fc.reads_fit (λ i k. ap (λ v. v.stands 0 i k) e)

    writes : b.writes ≡ c.writes
    writes =
        same_sets b.writes c.writes fb.writes_long fc.writes_long fb.writes_fit fc.writes_fit (λ i k. ap (λ v. v.stands 1 i k) e)

-- ---- results

-- replies that are read as the same outcome are the same reply
pub same_reply : (x y : Reply) → Fits x.bench → Fits y.bench → (o : Outcome) → seen x ≡ o → seen y ≡ o → x ≡ y
same_reply x y fx fy o ex ey = λ j. record { bench = bench j; answer = ap (λ v. v.answer) (ex ∙ sym ey) j }
  where
    bench : x.bench ≡ y.bench
    bench = view_injective x.bench y.bench fx fy (ap (λ v. v.next) (ex ∙ sym ey))

-- Each request has one result on each record.
pub reply_unique : (b : Bench) (q : Request) (x y : Reply) → Fits x.bench → Fits y.bench → Returns b q x → Returns b q y → x ≡ y
reply_unique b q x y fx fy = same_reply x y fx fy (step read_write (viewed b) q)

-- A request that is refused hands the record back as it came.
pub refused_as_it_came : (b : Bench) (r : Reply) (q : Request) → Fits b → Fits r.bench → Returns b q r → (r.answer ≡ 0 → ⊥) → r.bench ≡ b
unfolding step
refused_as_it_came b r q fb fr e nonzero =
    view_injective r.bench b fr fb
    (ap (λ v. v.next) e ∙ rw (ne_eqb (answer_of read_write (viewed b) q) 0 (λ z. nonzero (ap (λ v. v.answer) e ∙ z))))

-- There is one empty record.
pub empty_unique : (x y : Bench) → Fits x → Fits y → IsEmpty x → IsEmpty y → x ≡ y
empty_unique x y fx fy ex ey = view_injective x y fx fy (ex ∙ sym ey)
