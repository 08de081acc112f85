-- Demand 2 of what the methods return, in document 01's words: read sets, write sets and owners by Moss's rules, with no plain machine to find and no table
-- of conflicts. Assumes nothing.
use mathlib.Core.Path.{◌≡◌, refl, sym, ◌∙◌, ap, subst}
use mathlib.Core.Bool.{true, false, ◌&&◌, ◌||◌, or-false}
use mathlib.Core.Logic.{◌↔◌}
use mathlib.Core.Option.{some}
use Prim.Native.Nat.{ℕ, ◌<◌}
use native.Mathlib.Omega.{arith}
use borrow.Author.Tests.{lt-leb}
use lib.Dec.{eqb}
use Rattle.rules.specs.Owners.{granted}
use Rattle.rules.specs.Sound.{sound}
use Rattle.rules.specs.Requests.{Request, ask, commit, effect}
use Rattle.rules.specs.Answers.{row_by, row, answer_of, step}
use Rattle.rules.specs.ReadWrite.{reading, writing, read_write, read, write}
use Rattle.rules.proofs.Tests.{by_bool, clash}
use Rattle.rules.proofs.Asking.{ask_enters, step_again}
use Rattle.rules.proofs.Grants.{read_granted, write_granted}
use Rattle.rules.proofs.OwnerChanges.{commit_changes_no_set}
use Rattle.rules.proofs.CommitOwners.{commit_replaces}
use Rattle.rules.specs.Moss.{Owner, OwnerWith}
use Rattle.tables.proofs.Steps.{answer_sound, granted_by}
use Rattle.bench.specs.declared.Bench.{Bench}
use Rattle.bench.specs.declared.Reply.{Reply}
use Rattle.bench.specs.Record.{viewed}
use Rattle.bench.specs.Plays.{Returns}
use Rattle.bench.proofs.Unique.{Fits, same_sets, same_reply}
use Rattle.demands.specs.Moss.{in_read_set, in_write_set, AllInLine, Asker, GrantedExactlyIf, HandsUp}

-- ---- granted exactly

module _ (b : Bench) (a i : ℕ) (r : Reply) (asker : Asker b a i) where
  -- such an asker is answered 0 or 6, by the rule alone
  answered : (m : ℕ) → Returns b (ask m a i) r → r.answer ≡ row read_write (viewed b) (ask m a i)
  unfolding step answer_of
  answered m returned = ap (λ o. o.answer) returned ∙ rw asker.is_sound

  given : (m : ℕ) → Returns b (ask m a i) r → granted read_write (viewed b) m a i ≡ true → r.answer ≡ 0
  unfolding row_by
  given m returned h = answered m returned ∙ rw (lt-leb 64 a asker.known, lt-leb 128 i asker.instrument, asker.runs, asker.alone, h)

  pub kept_out : (m : ℕ) → Returns b (ask m a i) r → granted read_write (viewed b) m a i ≡ false → r.answer ≡ 6
  unfolding row_by
  kept_out m returned h = answered m returned ∙ rw (lt-leb 64 a asker.known, lt-leb 128 i asker.instrument, asker.runs, asker.alone, h)

  exactly : (m : ℕ) (rule : Type 0) → ((granted read_write (viewed b) m a i ≡ true) ↔ rule) → Returns b (ask m a i) r → GrantedExactlyIf rule r
  exactly m rule says returned =
      by_bool (granted read_write (viewed b) m a i)
      (λ yes. record {
        granted = λ h. given m returned yes;
        only = λ z. says.0 yes;
        refused = λ never. absurd (never (says.0 yes));
      })
      (λ no. record {
        granted = λ h. clash (granted read_write (viewed b) m a i) (says.1 h) no;
        only = λ z. absurd (let six = kept_out m returned no in omega arith);
        refused = λ never. kept_out m returned no;
      })

  -- `Bench::read` is granted exactly if every owner of the write set is the asker or an ancestor of it.
  pub read_exactly : Returns b (read a i) r → GrantedExactlyIf (AllInLine b a (in_write_set b i)) r
  read_exactly = exactly reading (AllInLine b a (in_write_set b i)) (read_granted (viewed b) asker.is_sound a i asker.instrument)

  -- `Bench::write` is granted exactly if every owner of the read set and every owner of the write set is.
  pub write_exactly : Returns b (write a i) r → GrantedExactlyIf (AllInLine b a (in_read_set b i) × AllInLine b a (in_write_set b i)) r
  write_exactly =
      exactly writing (AllInLine b a (in_read_set b i) × AllInLine b a (in_write_set b i)) (write_granted (viewed b) asker.is_sound a i asker.instrument)

-- ---- what an accepted request leaves

module _ (b : Bench) (q : Request) (r : Reply) (returned : Returns b q r) (accepted : r.answer ≡ 0) where
  answer_zero : answer_of read_write (viewed b) q ≡ 0
  unfolding step
  answer_zero = sym (ap (λ o. o.answer) returned) ∙ accepted

  pub was_sound : sound read_write (viewed b) ≡ true
  was_sound = (granted_by read_write (viewed b) q (answer_of read_write (viewed b) q) refl answer_zero).is_sound

  row_zero : row read_write (viewed b) q ≡ 0
  row_zero = answer_sound read_write (viewed b) q true (sym was_sound) refl ∙ answer_zero

  pub next_view : viewed r.bench ≡ effect read_write (viewed b) q
  unfolding step
  next_view = ap (λ o. o.next) returned ∙ rw answer_zero

-- ---- commit of a sub

-- `Bench::commit` of a sub leaves both arrays of sets as they were, and from then on its parent owns what it owned.
pub commit_hands_up : (b : Bench) (a p : ℕ) (r : Reply) → Fits b → Fits r.bench → (viewed b).parent a ≡ some p → Returns b (commit a) r → r.answer ≡ 0 → HandsUp b a p r.bench
commit_hands_up b a p r fb fr under returned accepted =
    record {
      reads_kept = same_sets r.bench.reads b.reads fr.reads_long fb.reads_long fr.reads_fit fb.reads_fit (λ i k. kept reading i k);
      writes_kept = same_sets r.bench.writes b.writes fr.writes_long fb.writes_long fr.writes_fit fb.writes_fit (λ i k. kept writing i k);
      read_owners = λ i h li. owners reading i h (omega arith) li;
      write_owners = λ i h li. owners writing i h (omega arith) li;
    }
  where
    next : viewed r.bench ≡ effect read_write (viewed b) (commit a)
    next = next_view b (commit a) r returned accepted

    kept : (m i k : ℕ) → (viewed r.bench).stands m i k ≡ (viewed b).stands m i k
    kept m i k = ap (λ v. v.stands m i k) next ∙ ap (λ f. f m i k) (commit_changes_no_set read_write (viewed b) a p under)

    owners : (m i h : ℕ) → m < 2 → i < 128 → Owner read_write (viewed r.bench) ((viewed r.bench).stands m i) h ↔ OwnerWith read_write (viewed b) ((viewed b).stands m i) a p h
    owners m i h lm li =
        subst (λ v. Owner read_write v (v.stands m i) h ↔ OwnerWith read_write (viewed b) ((viewed b).stands m i) a p h) (sym next)
        (commit_replaces read_write (viewed b) (was_sound b (commit a) r returned accepted) a p (row_zero b (commit a) r returned accepted) under m i h lm li)

-- ---- read and write

-- the sets that an accepted read or write leaves
asked_sets : (b : Bench) (m a i : ℕ) (r : Reply) → Returns b (ask m a i) r → r.answer ≡ 0 → (held at k : ℕ) → (viewed r.bench).stands held at k ≡ ((viewed b).stands held at k || (eqb held m && eqb at i && eqb k a))
unfolding effect
asked_sets b m a i r returned accepted held at k = ap (λ v. v.stands held at k) (next_view b (ask m a i) r returned accepted)

-- Whoever is given a read stands in the read set from then on, a present write owner too. No other number enters or leaves a read set, and no write set
-- changes.
pub read_enters : (b : Bench) (a i : ℕ) (r : Reply) → Fits b → Fits r.bench → Returns b (read a i) r → r.answer ≡ 0 →
    (in_read_set r.bench i a ≡ true)
    × ((at k : ℕ) → in_read_set r.bench at k ≡ (in_read_set b at k || (eqb at i && eqb k a)))
    × (r.bench.writes ≡ b.writes)
read_enters b a i r fb fr returned accepted = (
  ap (λ v. v.stands reading i a) (next_view b (read a i) r returned accepted) ∙ ask_enters read_write (viewed b) reading a i,
  asked_sets b reading a i r returned accepted reading,
  same_sets r.bench.writes b.writes fr.writes_long fb.writes_long fr.writes_fit fb.writes_fit
      (λ at k. asked_sets b reading a i r returned accepted writing at k ∙ or-false (in_write_set b at k)),
)

-- The same of a write and the write sets.
pub write_enters : (b : Bench) (a i : ℕ) (r : Reply) → Fits b → Fits r.bench → Returns b (write a i) r → r.answer ≡ 0 →
    (in_write_set r.bench i a ≡ true)
    × ((at k : ℕ) → in_write_set r.bench at k ≡ (in_write_set b at k || (eqb at i && eqb k a)))
    × (r.bench.reads ≡ b.reads)
write_enters b a i r fb fr returned accepted = (
  ap (λ v. v.stands writing i a) (next_view b (write a i) r returned accepted) ∙ ask_enters read_write (viewed b) writing a i,
  asked_sets b writing a i r returned accepted writing,
  same_sets r.bench.reads b.reads fr.reads_long fb.reads_long fr.reads_fit fb.reads_fit
      (λ at k. asked_sets b writing a i r returned accepted reading at k ∙ or-false (in_read_set b at k)),
)

-- Asking again changes nothing further: the same answer and the same record, whatever the first answer was.
ask_again : (b : Bench) (m a i : ℕ) (r again : Reply) → Fits r.bench → Fits again.bench → Returns b (ask m a i) r → Returns r.bench (ask m a i) again → again ≡ r
ask_again b m a i r again fr fa first second =
    same_reply again r fa fr (step read_write (viewed b) (ask m a i))
    (second ∙ ap (λ v. step read_write v (ask m a i)) (ap (λ o. o.next) first) ∙ step_again read_write (viewed b) m a i)
    first

pub read_again : (b : Bench) (a i : ℕ) (r again : Reply) → Fits r.bench → Fits again.bench → Returns b (read a i) r → Returns r.bench (read a i) again → again ≡ r
read_again b a i = ask_again b reading a i

pub write_again : (b : Bench) (a i : ℕ) (r again : Reply) → Fits r.bench → Fits again.bench → Returns b (write a i) r → Returns r.bench (write a i) again → again ≡ r
write_again b a i = ask_again b writing a i
