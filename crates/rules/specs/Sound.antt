-- Sound records (document 01, "Sound records", and document 02, order 2): rules 1 to 4 and what draining numbers have to keep to, tested and not assumed.
-- Upward and downward sets are not kept, so rule 5 has nothing to ask.
use Rattle.std.specs.Prelude.{Bool, true, false, not, ◌&&◌, ℕ, zero, suc, ◌-◌, ltb}
use Rattle.std.proofs.Math.Option.{Option, none, some}
use Rattle.rules.specs.Tests.{◌⇒◌, all, from}
use Rattle.rules.specs.Bench.{Shape, State, free, running, committed, draining, meaningless, is_free, is_running, head_of, in_tree, Bench}
use Rattle.rules.specs.Owners.{is_top, drains_under, stand_somewhere}

-- A number is free, running, committed or draining: nothing else.
abbrev pub means_something : State → Bool
means_something free = true
means_something running = true
means_something committed = true
means_something (draining h) = true
means_something (meaningless n) = false

-- k has no parent
abbrev pub has_no_parent : Bench → ℕ → Bool
has_no_parent b k = from (b.parent k) true (λ p. false)

-- k stands in no set
unfoldable pub stands_nowhere : Shape → Bench → ℕ → Bool
stands_nowhere sh b k = all sh.modes (λ m. all sh.instruments (λ i. not (b.stands m i k)))

-- Going from parent to parent, from k, reaches a number that has none within n steps.
unfoldable pub reaches_top : ℕ → (ℕ → Option ℕ) → ℕ → Bool
reaches_top zero up k = from (up k) true (λ p. false)
reaches_top (suc n) up k = from (up k) true (λ p. reaches_top n up p)

-- 1. A top action is running.
abbrev pub rule1 : Bench → ℕ → Bool
rule1 b k = is_top b k ⇒ is_running (b.state k)

-- 2. A free number has no parent and stands in no set.
abbrev pub rule2 : Shape → Bench → ℕ → Bool
rule2 sh b k = is_free (b.state k) ⇒ (has_no_parent b k && stands_nowhere sh b k)

-- 3. The parent of every number that has one is one of the table's, not free and never draining, and going from parent to parent reaches a top action
-- within one step less than there are numbers.
abbrev pub rule3 : Shape → Bench → ℕ → Bool
rule3 sh b k =
    from (b.parent k) true (λ p. ltb p sh.actions && in_tree (b.state p)) && reaches_top (sh.actions - 1) b.parent k

-- 4. A running action's parent, if any, is running.
abbrev pub rule4 : Bench → ℕ → Bool
rule4 b k = is_running (b.state k) ⇒ from (b.parent k) true (λ p. is_running (b.state p))

-- A number that drains has left the tree: it has no parent. Its head is one of the table's and drains under itself, and the group stands in some set.
abbrev pub drains_well : Shape → Bench → ℕ → Bool
drains_well sh b k =
    from (head_of (b.state k)) true
    (λ h. has_no_parent b k && (ltb h sh.actions && (drains_under b h h && stand_somewhere sh b (drains_under b h))))

-- what a sound record asks of number k
abbrev pub sound_at : Shape → Bench → ℕ → Bool
sound_at sh b k = means_something (b.state k) && rule1 b k && rule2 sh b k && rule3 sh b k && rule4 b k && drains_well sh b k

-- A record is sound when all of these hold of every number.
unfoldable pub sound : Shape → Bench → Bool
sound sh b = all sh.actions (sound_at sh b)
