-- Abort and quiet in document 02's words, over records: an aborted subtree leaves the tree, and a group that drains leaves the sets of an instrument.
use Rattle.std.specs.Prelude.{Bool, true, false, not, ◌&&◌, ◌≡◌, ℕ, ◌<◌, eqb, if◌then◌else◌}
use Rattle.std.proofs.Math.Option.{none}
use Rattle.rules.specs.Bench.{State, free}
use Rattle.rules.specs.Owners.{is_ancestor, in_family, drains_under, stand_somewhere}
use Rattle.rules.specs.ReadWrite.{read_write}
use Rattle.bench.specs.declared.Bench.{Bench}
use Rattle.bench.specs.Record.{viewed}
use Rattle.demands.specs.Moss.{in_read_set, in_write_set}

-- k is a or one of its descendants
abbrev pub in_subtree : Bench → ℕ → ℕ → Bool
in_subtree b a k = in_family read_write (viewed b) a k

-- k drains under a
abbrev pub in_group : Bench → ℕ → ℕ → Bool
in_group b a k = drains_under (viewed b) a k

-- one of the numbers stands in a set
abbrev pub some_stands : Bench → (ℕ → Bool) → Bool
some_stands b numbers = stand_somewhere read_write (viewed b) numbers

-- What the abort of a leaves of record b, with its subtree in state s: no set changes; the subtree has left the tree and is nobody's ancestor; all
-- others are what they were.
pub record LeavesTree (s : State) (b : Bench) (a : ℕ) (c : Bench) : Type 0 where
  pub reads_kept : c.reads ≡ b.reads
  pub writes_kept : c.writes ≡ b.writes
  pub states : (k : ℕ) → (viewed c).state k ≡ (if in_subtree b a k then s else (viewed b).state k)
  pub parents : (k : ℕ) → (viewed c).parent k ≡ (if in_subtree b a k then none else (viewed b).parent k)
  pub nobodys_ancestor : (k x : ℕ) → x < 64 → in_subtree b a k ≡ true → is_ancestor read_write (viewed c) k x ≡ false

-- What quiet of a and i leaves of record b: those that drain under a leave the sets of i, and nobody else leaves or enters a set; they become free where none
-- of them is left in any set, and nothing else changes.
pub record LeavesInstrument (b : Bench) (a i : ℕ) (c : Bench) : Type 0 where
  pub read_sets : (at k : ℕ) → in_read_set c at k ≡ (in_read_set b at k && not (eqb at i && in_group b a k))
  pub write_sets : (at k : ℕ) → in_write_set c at k ≡ (in_write_set b at k && not (eqb at i && in_group b a k))
  pub states : (k : ℕ) → (viewed c).state k ≡ (if in_group b a k && not (some_stands c (in_group b a)) then free else (viewed b).state k)
  pub parents : (k : ℕ) → (viewed c).parent k ≡ (viewed b).parent k
