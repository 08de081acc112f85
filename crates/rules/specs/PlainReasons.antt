-- Whom the plain machine would name: order 1's words over sets of owners, running or draining, and lists of ancestors.
use Rattle.std.specs.Prelude.{Bool, not, ◌&&◌, ◌||◌, ℕ, eqb}
use Rattle.rules.specs.Tests.{any}
use Rattle.rules.specs.Bench.{Shape}
use Rattle.rules.specs.Plain.{Plain, is_in, is_parent}

-- k is a running child of a
abbrev pub plain_child : Plain → ℕ → ℕ → Bool
plain_child s a k = s.runs k && is_parent a (s.ancestors k)

-- A blocker owns the instrument in a conflicting mode and is neither asker nor ancestor.
abbrev pub plain_blocks : Shape → Plain → ℕ → ℕ → ℕ → ℕ → Bool
plain_blocks sh s m a i h = any sh.modes (λ held. sh.conflict m held && s.owns held i h) && not (eqb h a || is_in h (s.ancestors a))
