-- A test of all members of a set, or of some, taken member by member, and a test of the members that two sets have in common.
use mathlib.Core.Path.{◌≡◌, sym, ◌∙◌, ap}
use mathlib.Core.Bool.{Bool, true, false, not, ◌&&◌, ◌||◌, or_assoc}
use Prim.Native.Nat.{ℕ, ◌<◌}
use borrow.Author.Tests.{eqb-true}
use lib.Dec.{eqb}
use Rattle.sets.specs.Sets.{member, meet}
use Rattle.sets.proofs.Laws.{member_empty, apart_at, meet_common, below_pow}
use Rattle.rules.specs.Tests.{◌⇒◌, any}
use Rattle.rules.proofs.Tests.{by_bool, by_or, clash, same, refuted, and_left, and_right, and_both, or_left, or_right, implies, implied, all_at, all_by, any_at, any_by}
use Rattle.tables.proofs.Taken.{Taken}
use Rattle.tables.specs.Owners.{of_members}

pub of_nobody : (w : ℕ) (test : ℕ → Bool) → of_members w 0 test ≡ true
of_nobody w test = all_by w (λ k. member 0 k ⇒ test k) (λ k l. rw member_empty)

module _ (n s k rest : ℕ) (test : ℕ → Bool) (t : Taken n s k rest) where
  -- of all members: of one, and of all the others
  of_one_and_others : of_members n s test ≡ (test k && of_members n rest test)
  of_one_and_others =
      same (of_members n s test) (test k && of_members n rest test)
      (λ h.
      and_both (test k) (of_members n rest test) (implies (member s k) (test k) (all_at n (λ j. member s j ⇒ test j) h k t.known) t.was)
      (all_by n (λ j. member rest j ⇒ test j)
      (λ j lj. implied (member rest j) (test j) (λ mj. implies (member s j) (test j) (all_at n (λ i. member s i ⇒ test i) h j lj) (kept j mj)))))
      (λ h.
      all_by n (λ j. member s j ⇒ test j)
      (λ j lj.
      implied (member s j) (test j)
      (λ mj.
      by_bool (eqb j k) (λ e. rw (eqb-true j k e) (and_left (test k) (of_members n rest test) h))
      (λ e.
      implies (member rest j) (test j) (all_at n (λ i. member rest i ⇒ test i) (and_right (test k) (of_members n rest test) h) j lj)
      (rw (t.members j, mj, e))))))
    where
      kept : (j : ℕ) → member rest j ≡ true → member s j ≡ true
      kept j mj = and_left (member s j) (not (eqb j k)) (rw (t.members j) at mj)

  -- where the test fails of one, it fails of all
  pub of_one_refused : test k ≡ false → of_members n s test ≡ false
  of_one_refused e = of_one_and_others ∙ ap (λ b. b && of_members n rest test) e

  -- where it holds of one, the others decide
  pub of_one_passed : test k ≡ true → of_members n rest test ≡ of_members n s test
  of_one_passed e = sym (of_one_and_others ∙ ap (λ b. b && of_members n rest test) e)

-- of some member of the empty set
pub some_of_nobody : (n : ℕ) (test : ℕ → Bool) → any n (λ j. member 0 j && test j) ≡ false
some_of_nobody n test =
    refuted (any n (λ j. member 0 j && test j))
    (λ h. let found = any_at n (λ j. member 0 j && test j) h in
    clash (member 0 found.0) (and_left (member 0 found.0) (test found.0) found.2) (member_empty found.0))

module _ (n s k rest : ℕ) (test : ℕ → Bool) (t : Taken n s k rest) where
  abbrev of_some : ℕ → ℕ → Bool
  of_some set j = member set j && test j

  -- of some member: of the one taken, or of some that is left
  pub some_taken : any n (λ j. member s j && test j) ≡ (test k || any n (λ j. member rest j && test j))
  some_taken =
      same (any n (of_some s)) (test k || any n (of_some rest))
      (λ h.
      let found = any_at n (of_some s) h in
      let j = found.0 in
      let holds = and_right (member s j) (test j) found.2 in
      by_bool (eqb j k) (λ e. or_left (test k) (any n (of_some rest)) (rw (eqb-true j k e) at holds))
      (λ e.
      or_right (test k) (any n (of_some rest)) (any_by n (of_some rest) j found.1 (rw (t.members j, and_left (member s j) (test j) found.2, e) holds))))
      (λ h.
      by_or (test k) (any n (of_some rest)) h (λ here. any_by n (of_some s) k t.known (rw t.was here))
      (λ there.
      let found = any_at n (of_some rest) there in
      let j = found.0 in
      any_by n (of_some s) j found.1
      (and_both (member s j) (test j) (and_left (member s j) (not (eqb j k)) (rw (t.members j) at (and_left (member rest j) (test j) found.2)))
      (and_right (member rest j) (test j) found.2))))

  -- what was found before, of the one taken, or of some that is left: the same as before it was taken
  pub some_joined : (found : Bool) → ((found || test k) || any n (λ j. member rest j && test j)) ≡ (found || any n (λ j. member s j && test j))
  some_joined found = or_assoc found (test k) (any n (of_some rest)) ∙ ap (λ u. found || u) (sym some_taken)

-- Two sets have a number in common where a test of the numbers below n finds one, if those that they have in common lie below n.
pub meet_any : (n s t : ℕ) (test : ℕ → Bool) → ((k : ℕ) → member s k ≡ true → member t k ≡ true → k < n) → ((k : ℕ) → k < n → (member s k && member t k) ≡ test k) →
    meet s t ≡ any n test
meet_any n s t test small common =
    same (meet s t) (any n test)
    (λ m. let found = meet_common s s t (below_pow s) m in
    let l = small found.0 (and_left (member s found.0) (member t found.0) found.2) (and_right (member s found.0) (member t found.0) found.2) in
    any_by n test found.0 l (sym (common found.0 l) ∙ found.2))
    (λ u. let found = any_at n test u in
    by_bool (meet s t) (λ m. m) (λ out. clash (test found.0) found.2 (sym (common found.0 found.1) ∙ apart_at s t out found.0)))
