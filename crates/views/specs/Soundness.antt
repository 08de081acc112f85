-- The parts of the soundness test on 64 actions, and what they compute together.
use Rattle.std.specs.Prelude.{Bool, ◌&&◌, List, ℕ}
use Rattle.rules.specs.Tests.{all}
use Rattle.rules.specs.Sound.{reaches_top}
use Rattle.tables.specs.Tree.{up_of, in_use}
use Rattle.tables.specs.Owners.{of_members}
use Rattle.sets.specs.Sets.{member}
use Rattle.tables.specs.Soundness as tables
use Rattle.tables.specs.Soundness.{permitted, drain_fits}
use Rattle.tables.specs.Climbs as climbs

-- Number k's bytes by themselves fit.
abbrev pub bytes_fit : List ℕ → List ℕ → ℕ → Bool
bytes_fit = tables.bytes_fit 64

-- The numbers that aren't in `rest` have chains of parents that end.
abbrev pub EndOutside : List ℕ → ℕ → Type 0
EndOutside parents rest = climbs.EndOutside 64 (up_of parents) rest

-- What a climb leaves of the numbers not yet known to end. Where it says no, some chain doesn't end.
abbrev pub Climbed : List ℕ → ℕ → ℕ → Bool → Type 0
Climbed parents rest left ends = climbs.Climbed 64 (up_of parents) rest left ends

-- What the soundness test computes, where `standing` are the numbers that stand in any set: the bytes fit, no number is what its parent forbids, every
-- chain of parents ends, none of those numbers is free, and of each group that drains the head is there and one number among them.
abbrev pub sound_with : List ℕ → List ℕ → ℕ → Bool
sound_with parents states standing =
    all 64 (bytes_fit parents states) && (all 64 (permitted parents states) && (all 64 (reaches_top 63 (up_of parents))
    && (of_members 64 standing (in_use states) && all 64 (drain_fits 64 states (member standing)))))
