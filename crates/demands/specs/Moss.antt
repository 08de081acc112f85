-- A record in document 01's words: its read sets and write sets, who owns an instrument by Moss's rules, and an asker whom nothing but the granting rule
-- can refuse. No table of conflicts is looked up here.
use Rattle.std.specs.Prelude.{Bool, true, false, ◌↔◌, ◌≡◌, ℕ, ◌<◌, get_or}
use Rattle.sets.specs.Sets.{member}
use Rattle.rules.specs.Bench.{is_running}
use Rattle.rules.specs.Owners.{has_running_child}
use Rattle.rules.specs.Sound.{sound}
use Rattle.rules.specs.ReadWrite.{read_write}
use Rattle.rules.specs.Moss.{Owner, OwnersInLine, OwnerWith}
use Rattle.bench.specs.declared.Bench.{Bench}
use Rattle.bench.specs.declared.Reply.{Reply}
use Rattle.bench.specs.Record.{viewed}

-- number k stands in the read set of instrument i, and in its write set
abbrev pub in_read_set : Bench → ℕ → ℕ → Bool
in_read_set b i k = member (get_or b.reads i 0) k

abbrev pub in_write_set : Bench → ℕ → ℕ → Bool
in_write_set b i k = member (get_or b.writes i 0) k

-- h is an owner of the set: the heir of a number in it
abbrev pub Owns : Bench → (ℕ → Bool) → ℕ → Type 0
Owns b set h = Owner read_write (viewed b) set h

-- h is an owner of the set once a is replaced by p
abbrev pub OwnsWith : Bench → (ℕ → Bool) → ℕ → ℕ → ℕ → Type 0
OwnsWith b set a p h = OwnerWith read_write (viewed b) set a p h

-- every owner of the set is the asker a or an ancestor of it
abbrev pub AllInLine : Bench → ℕ → (ℕ → Bool) → Type 0
AllInLine b a set = OwnersInLine read_write (viewed b) a set

-- a, an action of a sound record that runs and has no running child, asks for instrument i.
pub record Asker (b : Bench) (a i : ℕ) : Type 0 where
  pub is_sound : sound read_write (viewed b) ≡ true
  pub known : a < 64
  pub instrument : i < 128
  pub runs : is_running ((viewed b).state a) ≡ true
  pub alone : has_running_child read_write (viewed b) a ≡ false

-- The reply grants exactly if the rule holds, and else answers 6.
pub record GrantedExactlyIf (rule : Type 0) (r : Reply) : Type 0 where
  pub granted : rule → r.answer ≡ 0
  pub only : r.answer ≡ 0 → rule
  pub refused : (rule → ⊥) → r.answer ≡ 6

-- What the commit of sub a under p leaves of record b: both arrays of sets as they were, and the owners of every set, with a replaced by p.
pub record HandsUp (b : Bench) (a p : ℕ) (c : Bench) : Type 0 where
  pub reads_kept : c.reads ≡ b.reads
  pub writes_kept : c.writes ≡ b.writes
  pub read_owners : (i h : ℕ) → i < 128 → Owns c (in_read_set c i) h ↔ OwnsWith b (in_read_set b i) a p h
  pub write_owners : (i h : ℕ) → i < 128 → Owns c (in_write_set c i) h ↔ OwnsWith b (in_write_set b i) a p h
