-- The set form (the Eos report, sections 3.2 and 3.3): owner sets held to ancestors, and upward and downward sets. Shown equal to the rule over
-- heirs for every sound record, running asker and instrument (proofs/SetForm).
use Rattle.std.specs.Prelude.{Bool, true, false, ◌&&◌, ◌||◌, ℕ, zero, suc, eqb}
use Rattle.rules.specs.Tests.{◌⇒◌, all, any, from}
use Rattle.rules.specs.Bench.{Shape, State, is_committed, Bench}
use Rattle.rules.specs.Owners.{is_child, is_owner, is_asker_or_ancestor}

-- Section 3.2: every owner in a conflicting mode is the asker or an ancestor of it.
unfoldable pub granted_by_owners : Shape → Bench → ℕ → ℕ → ℕ → Bool
granted_by_owners sh b m a i =
    all sh.modes
    (λ held. sh.conflict m held ⇒ all sh.actions (λ h. is_owner sh b held i h ⇒ is_asker_or_ancestor sh b a h))

-- x stands in the upward set of a, of depth n at most: each committed child of a, with that child's upward set.
unfoldable pub upward_within : ℕ → Shape → Bench → ℕ → ℕ → Bool
upward_within zero sh b a x = false
upward_within (suc n) sh b a x =
    any sh.actions (λ c. is_committed (b.state c) && is_child b a c && (eqb x c || upward_within n sh b c x))

unfoldable pub in_upward : Shape → Bench → ℕ → ℕ → Bool
in_upward sh b a x = upward_within sh.actions sh b a x

-- x stands in the downward set of a, of n steps at most: a's parent, with the parent's upward set and the parent's downward set; empty for a
-- top action.
unfoldable pub downward_within : ℕ → Shape → Bench → ℕ → ℕ → Bool
downward_within zero sh b a x = false
downward_within (suc n) sh b a x =
    from (b.parent a) false (λ p. eqb x p || in_upward sh b p x || downward_within n sh b p x)

unfoldable pub in_downward : Shape → Bench → ℕ → ℕ → Bool
in_downward sh b a x = downward_within sh.actions sh b a x

-- Section 3.3: the sets of the conflicting modes lie within downward set of a, a itself, and upward set of a.
unfoldable pub granted_by_sets : Shape → Bench → ℕ → ℕ → ℕ → Bool
granted_by_sets sh b m a i =
    all sh.modes
    (λ held. sh.conflict m held ⇒ all sh.actions (λ k. b.stands held i k ⇒ (in_downward sh b a k || eqb k a || in_upward sh b a k)))
