-- What a number of one side meets on the mix of two benches: its ancestors, heirs and children, its family and the group that drains under it, and
-- what it is granted, are those of its own bench.
use Rattle.std.specs.Prelude.{if◌then◌else◌}
use mathlib.Core.Path.{◌≡◌, refl, sym, ◌∙◌, ap}
use mathlib.Core.Bool.{true, false, ◌&&◌, ◌||◌, and-false}
use mathlib.Core.Option.{none, some}
use Prim.Native.Nat.{ℕ, zero, suc}
use lib.Dec.{eqb}
use Rattle.rules.specs.Tests.{◌⇒◌, all}
use Rattle.rules.specs.Bench.{Shape, is_running, head_of, Bench}
use Rattle.rules.specs.Owners.{is_child, above, is_ancestor, in_family, nearest, heir, is_asker_or_ancestor, heir_in_line, granted, has_running_child, drains_under}
use Rattle.rules.proofs.Tests.{by_bool, by_parent, clash, refuted, from_cong, all_cong, any_cong}
use Rattle.rules.proofs.Mix.{mix, told_apart, Side, Parted, Alone, parted_other}
use Rattle.rules.proofs.Alone.{family_outside, group_outside}

module _ (sh : Shape) (s t : Side) (apart : Parted sh s t) (c d : Bench) (own : Alone sh s c) (other : Alone sh t d) where
  abbrev both : Bench
  both = mix s.numbers c d

  -- a number of this side isn't the parent that the other bench gives a number
  other_parent : (a k p : ℕ) → s.numbers a ≡ true → d.parent k ≡ some p → eqb p a ≡ false
  other_parent a k p h e = told_apart s.numbers p a (parted_other sh s t apart p (other.parents k p e)) h

  above_own : (n x k : ℕ) → s.numbers k ≡ true → above n both.parent x k ≡ above n c.parent x k
  unfolding above
  above_own zero x k h = refl
  above_own (suc n) x k h =
      rw h
      (from_cong (c.parent k) false (λ p met. eqb p x || met) (above n both.parent x) (above n c.parent x)
      (λ p e. above_own n x p (own.parents k p e)))

  -- going up from a number of the other side meets none of this
  above_other : (n x k : ℕ) → s.numbers x ≡ true → s.numbers k ≡ false → above n both.parent x k ≡ false
  unfolding above
  above_other zero x k h g = refl
  above_other (suc n) x k h g =
      rw g
      (by_parent (d.parent k) (λ e. rw e)
      (λ p e. rw (e, other_parent x k p h e) (above_other n x p h (parted_other sh s t apart p (other.parents k p e)))))

  nearest_own : (n k : ℕ) → s.numbers k ≡ true → nearest n both.state both.parent k ≡ nearest n c.state c.parent k
  unfolding nearest
  nearest_own zero k h = refl
  nearest_own (suc n) k h =
      rw h
      (ap (λ o. if is_running (c.state k) then some k else o)
      (from_cong (c.parent k) none (λ p o. o) (nearest n both.state both.parent) (nearest n c.state c.parent)
      (λ p e. nearest_own n p (own.parents k p e))))

  family_at : (a k : ℕ) → s.numbers k ≡ true → in_family sh both a k ≡ in_family sh c a k
  unfolding in_family is_ancestor
  family_at a k g = rw (above_own sh.actions a k g)

  -- a number of the other side is of no family of this
  family_other : (a k : ℕ) → s.numbers a ≡ true → s.numbers k ≡ false → in_family sh both a k ≡ false
  unfolding in_family is_ancestor
  family_other a k h g = rw (told_apart s.numbers k a g h, above_other sh.actions a k h g)

  pub family_own : (a : ℕ) → s.numbers a ≡ true → in_family sh both a ≡ in_family sh c a
  family_own a h =
      λ j k. by_bool (s.numbers k) (family_at a k) (λ g. family_other a k h g ∙ sym (family_outside sh s c own a k h g)) j

  -- a number of this side isn't the head that the other bench gives a number
  group_other : (a k : ℕ) → s.numbers a ≡ true → drains_under d a k ≡ false
  group_other a k h =
      by_parent (head_of (d.state k)) (λ e. rw e)
      (λ x e. rw e (told_apart s.numbers x a (parted_other sh s t apart x (other.heads k x e)) h))

  pub group_own : (a : ℕ) → s.numbers a ≡ true → drains_under both a ≡ drains_under c a
  group_own a h = λ j k. same k j
    where
      same : (k : ℕ) → drains_under both a k ≡ drains_under c a k
      same k = by_bool (s.numbers k) (λ g. rw g) (λ g. rw g (group_other a k h ∙ sym (group_outside sh s c own a k g)))

  pub running_child_own : (a : ℕ) → s.numbers a ≡ true → has_running_child sh both a ≡ has_running_child sh c a
  unfolding has_running_child
  running_child_own a h =
      any_cong sh.actions (λ k. is_running (both.state k) && is_child both a k)
      (λ k. is_running (c.state k) && is_child c a k)
      (λ k l. by_bool (s.numbers k) (λ g. rw g)
      (λ g. rw (g, own.other_top k g, other_childless k, and-false (is_running (d.state k))) (sym (and-false (is_running (c.state k))))))
    where
      other_childless : (k : ℕ) → is_child d a k ≡ false
      other_childless k = by_parent (d.parent k) (λ e. rw e) (λ p e. rw e (other_parent a k p h e))

  line_own : (a k : ℕ) → s.numbers a ≡ true → s.numbers k ≡ true → heir_in_line sh both a k ≡ heir_in_line sh c a k
  unfolding heir_in_line heir is_asker_or_ancestor is_ancestor
  line_own a k h g =
      rw (g, nearest_own sh.actions k g)
      (from_cong (heir sh c k) false (λ x met. eqb x a || met)
      (λ x. above sh.actions both.parent x a)
      (λ x. above sh.actions c.parent x a)
      (λ x e. above_own sh.actions x a h))

  pub granted_own : (m a i : ℕ) → s.numbers a ≡ true → s.asks m i ≡ true → granted sh both m a i ≡ granted sh c m a i
  unfolding granted
  granted_own m a i h asked =
      all_cong sh.modes
      (λ held. sh.conflict m held ⇒ all sh.actions (λ k. both.stands held i k ⇒ heir_in_line sh both a k))
      (λ held. sh.conflict m held ⇒ all sh.actions (λ k. c.stands held i k ⇒ heir_in_line sh c a k))
      (λ held l. by_bool (sh.conflict m held) (λ t. rw t (same held t)) (λ t. rw t))
    where
      same : (held : ℕ) → sh.conflict m held ≡ true →
          all sh.actions (λ k. both.stands held i k ⇒ heir_in_line sh both a k) ≡ all sh.actions (λ k. c.stands held i k ⇒ heir_in_line sh c a k)
      same held conflicts =
          all_cong sh.actions (λ k. both.stands held i k ⇒ heir_in_line sh both a k)
          (λ k. c.stands held i k ⇒ heir_in_line sh c a k)
          (λ k l. by_bool (s.numbers k) (λ g. rw (g, line_own a k h g))
          (λ g. rw (g, own.other_nowhere k held i g, nowhere k)))
        where
          nowhere : (k : ℕ) → d.stands held i k ≡ false
          nowhere k =
              refuted (d.stands held i k)
              (λ e. clash (sh.conflict m held) conflicts (apart.no_conflict m held i asked (other.was_asked held i k e)))
