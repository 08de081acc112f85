-- The index as it is first made, of any bytes of parents and states.
use Rattle.std.specs.Prelude.{List, ◌≡◌, ℕ, suc, ◌<◌, eqb, length, get_or}
use Rattle.sets.specs.Sets.{member}
use Rattle.views.specs.Reach.{LinesMet}
use Rattle.index.specs.Places.{unknown, group_at, places_at}
use Rattle.index.specs.Tables.{child_sets, line_sets, running_set}

-- It has the children of each number, each number with what is met going up from it, and the numbers that run, as the bytes say. Of groups and places it says nothing.
pub record MadeOf (parents states index : List ℕ) : Type 0 where
  pub long : length index ≡ 257
  pub of_children : (p k : ℕ) → p < 64 → k < 64 → member (get_or (child_sets index) p 0) k ≡ eqb (get_or parents k 0) (suc p)
  pub of_lines : LinesMet parents (line_sets index) 64
  pub of_running : (k : ℕ) → k < 64 → member (running_set index) k ≡ eqb (get_or states k 0) 1
  pub of_groups : (k : ℕ) → k < 64 → group_at index k ≡ unknown
  pub of_places : (k : ℕ) → k < 64 → places_at index k ≡ unknown
