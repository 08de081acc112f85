-- Actions and owners: top actions, children, ancestors, heirs and owners (document 01, "Actions and owners"; Moss's rules are those of the Eos
-- report, section 3.1), and the groups that drain (document 02, order 2).
use Rattle.std.specs.Prelude.{Bool, true, false, not, ◌&&◌, ◌||◌, ℕ, zero, suc, eqb, if◌then◌else◌}
use Rattle.std.proofs.Math.Option.{Option, none, some}
use Rattle.rules.specs.Tests.{◌⇒◌, all, any, from}
use Rattle.rules.specs.Bench.{Shape, State, is_running, head_of, in_tree, Bench}

-- A number of the tree is either a top action or has a parent number.
abbrev pub is_top : Bench → ℕ → Bool
is_top b k = in_tree (b.state k) && from (b.parent k) true (λ p. false)

-- c is a child of a
abbrev pub is_child : Bench → ℕ → ℕ → Bool
is_child b a c = from (b.parent c) false (λ p. eqb p a)

-- Ancestors: the parent, its parent, and so on. `above n up x k`: going up from k by `up`, x is met within n steps.
unfoldable pub above : ℕ → (ℕ → Option ℕ) → ℕ → ℕ → Bool
above zero up x k = false
above (suc n) up x k = from (up k) false (λ p. eqb p x || above n up x p)

-- x is an ancestor of k. An action is not its own ancestor.
unfoldable pub is_ancestor : Shape → Bench → ℕ → ℕ → Bool
is_ancestor sh b x k = above sh.actions b.parent x k

-- a itself and its descendants
unfoldable pub in_family : Shape → Bench → ℕ → ℕ → Bool
in_family sh b a k = eqb k a || is_ancestor sh b a k

-- The nearest running one among k and what lies above it, within n numbers.
unfoldable pub nearest : ℕ → (ℕ → State) → (ℕ → Option ℕ) → ℕ → Option ℕ
nearest zero state up k = none
nearest (suc n) state up k = if is_running (state k) then some k else from (up k) none (λ p. nearest n state up p)

-- The heir of a number of the tree: the nearest running one among itself and its ancestors. The heir of a number that drains is its head.
unfoldable pub heir : Shape → Bench → ℕ → Option ℕ
heir sh b k = from (head_of (b.state k)) (nearest sh.actions b.state b.parent k) (λ h. some h)

-- An owner under Moss's rules is the heir of a number in the set.
unfoldable pub is_owner : Shape → Bench → ℕ → ℕ → ℕ → Bool
is_owner sh b m i h = any sh.actions (λ k. b.stands m i k && from (heir sh b k) false (λ x. eqb x h))

-- x is the asker or an ancestor of it
unfoldable pub is_asker_or_ancestor : Shape → Bench → ℕ → ℕ → Bool
is_asker_or_ancestor sh b a x = eqb x a || is_ancestor sh b x a

-- the heir of k is the asker or an ancestor of it
unfoldable pub heir_in_line : Shape → Bench → ℕ → ℕ → Bool
heir_in_line sh b a k = from (heir sh b k) false (λ h. is_asker_or_ancestor sh b a h)

-- A mode is granted exactly if the heir of each number in a set of a conflicting mode is the asker or an ancestor of it. (Read is granted exactly
-- if that holds of the write set; write needs the same of both sets.)
unfoldable pub granted : Shape → Bench → ℕ → ℕ → ℕ → Bool
granted sh b m a i =
    all sh.modes (λ held. sh.conflict m held ⇒ all sh.actions (λ k. b.stands held i k ⇒ heir_in_line sh b a k))

-- a has a running child
unfoldable pub has_running_child : Shape → Bench → ℕ → Bool
has_running_child sh b a = any sh.actions (λ k. is_running (b.state k) && is_child b a k)

-- ---- groups that drain

-- k drains under h: it is of h's group
abbrev pub drains_under : Bench → ℕ → ℕ → Bool
drains_under b h k = from (head_of (b.state k)) false (λ x. eqb x h)

-- one of the numbers stands in a set of instrument i
unfoldable pub stand_at : Shape → Bench → (ℕ → Bool) → ℕ → Bool
stand_at sh b numbers i = any sh.modes (λ m. any sh.actions (λ k. b.stands m i k && numbers k))

-- one of the numbers stands in a set
unfoldable pub stand_somewhere : Shape → Bench → (ℕ → Bool) → Bool
stand_somewhere sh b numbers = any sh.instruments (stand_at sh b numbers)
