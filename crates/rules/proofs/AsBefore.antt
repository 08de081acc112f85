-- Where nobody drains, all is as it was before document 02's order 2: which benches are sound, who is granted what, and what requests with codes 1 to 5 are
-- answered and leave. Assumes nothing.
use Rattle.std.specs.Prelude.{if◌then◌else◌}
use mathlib.Core.Path.{◌≡◌, refl, sym, ◌∙◌, ap, fun_ext}
use mathlib.Core.Bool.{Bool, true, false, not, ◌&&◌, and-true}
use mathlib.Core.List.{List, [], ◌∷◌}
use mathlib.Core.Option.{Option, none, some, none-ne-some}
use Prim.Native.Nat.{ℕ, ◌<◌, ◌-◌}
use lib.Dec.{eqb, ltb}
use borrow.Author.Tests.{ltb-true}
use Rattle.rules.specs.Tests.{◌⇒◌, all, from}
use Rattle.rules.specs.Bench.{Shape, State, free, running, committed, draining, meaningless, is_free, is_running, head_of, in_tree, Bench}
use Rattle.rules.specs.Owners.{in_family, nearest, heir, is_asker_or_ancestor, heir_in_line, granted}
use Rattle.rules.specs.Sound.{means_something, has_no_parent, reaches_top, rule2, rule4, sound_at, sound}
use Rattle.rules.specs.Requests.{Request, open_top, open_sub, ask, commit, abort, quiet, put, effect}
use Rattle.rules.specs.Answers.{row_by, answer_of, outcome, accepts, step, answers, after}
use Rattle.rules.proofs.Tests.{by_bool, by_parent, clash, and_left, and_right, all_cong}

abbrev pub NobodyDrains : Shape → Bench → Type 0
NobodyDrains sh b = (k : ℕ) → k < sh.actions → head_of (b.state k) ≡ none

-- Document 01's rules 1 and 3, which know of free, running and committed numbers only. Its rules 2 and 4 have not moved.
abbrev pub old_rule1 : Bench → ℕ → Bool
old_rule1 b k = (not (is_free (b.state k)) && has_no_parent b k) ⇒ is_running (b.state k)

abbrev pub old_rule3 : Shape → Bench → ℕ → Bool
old_rule3 sh b k =
    from (b.parent k) true (λ p. ltb p sh.actions && not (is_free (b.state p))) && reaches_top (sh.actions - 1) b.parent k

unfoldable pub old_sound : Shape → Bench → Bool
old_sound sh b = all sh.actions (λ k. means_something (b.state k) && old_rule1 b k && rule2 sh b k && old_rule3 sh b k && rule4 b k)

-- Document 01's heirs: the nearest running one, with no heads.
unfoldable pub old_granted : Shape → Bench → ℕ → ℕ → ℕ → Bool
old_granted sh b m a i =
    all sh.modes
    (λ held. sh.conflict m held ⇒ all sh.actions
    (λ k. b.stands held i k ⇒ from (nearest sh.actions b.state b.parent k) false (is_asker_or_ancestor sh b a)))

unfoldable pub old_answer : Shape → Bench → Request → ℕ
old_answer sh b r = if old_sound sh b then row_by (old_granted sh b) sh b r else 7

-- the answers to a list of requests by them, and the bench that they leave
unfoldable pub old_answers : Shape → Bench → List Request → List ℕ
old_answers sh b [] = []
old_answers sh b (r ∷ rs) = let o = outcome sh b r (old_answer sh b r) in o.answer ∷ old_answers sh o.next rs

unfoldable pub old_after : Shape → Bench → List Request → Bench
old_after sh b [] = b
old_after sh b (r ∷ rs) = old_after sh (outcome sh b r (old_answer sh b r)).next rs

-- the requests with codes 1 to 5: all but abort and quiet
abbrev pub one_to_five : Request → Bool
one_to_five (open_top n) = true
one_to_five (open_sub n p) = true
one_to_five (ask m a i) = true
one_to_five (commit a) = true
one_to_five (abort a) = false
one_to_five (quiet a i) = false

abbrev pub all_one_to_five : List Request → Bool
all_one_to_five [] = true
all_one_to_five (r ∷ rs) = one_to_five r && all_one_to_five rs

-- a number that doesn't drain is in the tree exactly if it isn't free
headless_tree : (s : State) → head_of s ≡ none → in_tree s ≡ not (is_free s)
headless_tree free e = refl
headless_tree running e = refl
headless_tree committed e = refl
headless_tree (draining h) e = absurd (none-ne-some h (sym e))
headless_tree (meaningless n) e = refl

module _ (sh : Shape) (b : Bench) (nobody : NobodyDrains sh b) where
  parents_fit : (o : Option ℕ) → from o true (λ p. ltb p sh.actions && in_tree (b.state p)) ≡ from o true (λ p. ltb p sh.actions && not (is_free (b.state p)))
  parents_fit none = refl
  parents_fit (some p) =
      by_bool (ltb p sh.actions) (λ t. rw (headless_tree (b.state p) (nobody p (ltb-true p sh.actions t)))) (λ t. rw t)

  -- Soundness is what document 01 says.
  pub sound_as_before : sound sh b ≡ old_sound sh b
  unfolding sound old_sound
  sound_as_before =
      all_cong sh.actions (sound_at sh b) (λ k. means_something (b.state k) && old_rule1 b k && rule2 sh b k && old_rule3 sh b k && rule4 b k)
      (λ k l. rw (headless_tree (b.state k) (nobody k l), parents_fit (b.parent k), nobody k l)
      (and-true (means_something (b.state k) && old_rule1 b k && rule2 sh b k && old_rule3 sh b k && rule4 b k)))

  -- So is who is granted what.
  pub granted_as_before : (m a i : ℕ) → granted sh b m a i ≡ old_granted sh b m a i
  unfolding granted old_granted heir_in_line heir
  granted_as_before m a i =
      all_cong sh.modes (λ held. sh.conflict m held ⇒ all sh.actions (λ k. b.stands held i k ⇒ heir_in_line sh b a k))
      (λ held. sh.conflict m held ⇒ all sh.actions (λ k. b.stands held i k ⇒ old_line a k))
      (λ held lm. ap (λ t. sh.conflict m held ⇒ t)
      (all_cong sh.actions (λ k. b.stands held i k ⇒ heir_in_line sh b a k) (λ k. b.stands held i k ⇒ old_line a k)
      (λ k l. rw (nobody k l))))
    where
      old_line : ℕ → ℕ → Bool
      old_line a k = from (nearest sh.actions b.state b.parent k) false (is_asker_or_ancestor sh b a)

  -- And so is every answer. (Quiet was no request then; its row is the one that it has now.)
  pub answer_as_before : (r : Request) → answer_of sh b r ≡ old_answer sh b r
  unfolding answer_of old_answer
  answer_as_before r =
      rw sound_as_before (ap (λ g. if old_sound sh b then row_by g sh b r else 7) (fun_ext (λ m. fun_ext (λ a. fun_ext (granted_as_before m a)))))

  put_headless : (n : ℕ) (s : State) (k : ℕ) → k < sh.actions → head_of s ≡ none → head_of (put n s b.state k) ≡ none
  put_headless n s k l e = by_bool (eqb k n) (λ t. rw t e) (λ t. rw t (nobody k l))

  effect_drains_nobody : (r : Request) → one_to_five r ≡ true → NobodyDrains sh (effect sh b r)
  unfolding effect
  effect_drains_nobody (open_top n) five k l = put_headless n running k l refl
  effect_drains_nobody (open_sub n p) five k l = put_headless n running k l refl
  effect_drains_nobody (ask m a i) five k l = nobody k l
  effect_drains_nobody (commit a) five k l =
      by_parent (b.parent a) (λ top. rw top (by_bool (in_family sh b a k) (λ t. rw t) (λ t. rw t (nobody k l))))
      (λ p sub. rw sub (put_headless a committed k l refl))
  effect_drains_nobody (abort a) five k l = clash false five refl
  effect_drains_nobody (quiet a i) five k l = clash false five refl

  step_drains_nobody : (r : Request) → one_to_five r ≡ true → NobodyDrains sh (step sh b r).next
  unfolding step
  step_drains_nobody r five k l =
      by_bool (accepts (answer_of sh b r)) (λ t. rw t (effect_drains_nobody r five k l)) (λ t. rw t (nobody k l))

  step_as_before : (r : Request) → step sh b r ≡ outcome sh b r (old_answer sh b r)
  unfolding step
  step_as_before r = ap (outcome sh b r) (answer_as_before r)

-- A bench on which nobody drains is taken on as it was before by any requests with codes 1 to 5: they get the same answers and leave the same bench.
pub as_before : (sh : Shape) (b : Bench) → NobodyDrains sh b → (rs : List Request) → all_one_to_five rs ≡ true → (answers sh b rs ≡ old_answers sh b rs) × (after sh b rs ≡ old_after sh b rs)
unfolding answers after old_answers old_after
as_before sh b nobody [] five = (refl, refl)
as_before sh b nobody (r ∷ rs) five =
    let same = step_as_before sh b nobody r in
    let next = step_drains_nobody sh b nobody r (and_left (one_to_five r) (all_one_to_five rs) five) in
    let rest = as_before sh (step sh b r).next next rs (and_right (one_to_five r) (all_one_to_five rs) five) in (
      ap (λ xs. (step sh b r).answer ∷ xs) rest.0 ∙ ap (λ o. o.answer ∷ old_answers sh o.next rs) same,
      rest.1 ∙ ap (λ o. old_after sh o.next rs) same,
    )
