-- Demand 2: from a sound bench on, the bench answers every list of requests exactly as Moss's plain machine does, and the two go on saying the
-- same. Every sound bench has such a plain machine, and committing a subaction changes no owner set, yet its locks count as its parent's.
use mathlib.Core.Path.{◌≡◌, refl, sym, ◌∙◌, ap₂}
use mathlib.Core.Bool.{true, false, ◌&&◌}
use mathlib.Core.List.{List, [], ◌∷◌}
use mathlib.Core.Logic.{◌↔◌}
use Prim.Native.Nat.{ℕ, ◌<◌}
use lib.Dec.{eqb}
use borrow.Author.Tests.{eqb-true, lt-leb}
use Rattle.rules.specs.Tests.{from}
use Rattle.rules.specs.Bench.{Shape, Bench, empty, is_running}
use Rattle.rules.specs.Owners.{heir, is_owner, granted, has_running_child}
use Rattle.rules.specs.Sound.{sound}
use Rattle.rules.specs.Requests.{Request, ask}
use Rattle.rules.specs.Answers.{row_by, row, answer_of, step, answers, after}
use Rattle.rules.specs.Plain.{Plain, plain_empty, may_own, plain_answer, plain_next, plain_answers, plain_after}
use Rattle.rules.specs.Agrees.{Agrees, chain, plain_of}
use Rattle.rules.proofs.Tests.{by_bool, clash, refuted, from_cong, any_at}
use Rattle.rules.proofs.Walks.{walk_settled}
use Rattle.rules.proofs.Accepted.{accepted}
use Rattle.rules.proofs.Kept.{step_keeps_sound}
use Rattle.rules.proofs.PlainAnswers.{grant_same, answer_same}
use Rattle.rules.proofs.PlainEffects.{effect_agrees}
pub use Rattle.rules.proofs.OwnerChanges.{commit_changes_no_set, commit_counts_as_parents}

-- ---- the two machines

step_answer : (sh : Shape) (b : Bench) (r : Request) → sound sh b ≡ true → (step sh b r).answer ≡ row sh b r
unfolding step answer_of
step_answer sh b r ok = rw ok

-- One request: the same answer, and the two say the same after it.
pub plain_step : (sh : Shape) (b : Bench) (s : Plain) (r : Request) → sound sh b ≡ true → Agrees sh b s → ((step sh b r).answer ≡ plain_answer sh s r) × Agrees sh (step sh b r).next (plain_next sh s r)
unfolding step answer_of plain_next
plain_step sh b s r ok agrees = (
  step_answer sh b r ok ∙ given,
  rw (ok, ← given) (by_bool (eqb (row sh b r) 0)
      (λ t. rw t (effect_agrees sh b s ok agrees r (eqb-true (row sh b r) 0 t)))
      (λ t. rw t agrees)),
)
  where
    given : row sh b r ≡ plain_answer sh s r
    given = answer_same sh b s ok agrees r

-- Any list of requests: the same answers, and the two say the same after it.
pub demand_two : (sh : Shape) (b : Bench) (s : Plain) → sound sh b ≡ true → Agrees sh b s → (rs : List Request) → (answers sh b rs ≡ plain_answers sh s rs) × Agrees sh (after sh b rs) (plain_after sh s rs)
unfolding answers after plain_answers plain_after
demand_two sh b s ok agrees [] = (refl, agrees)
demand_two sh b s ok agrees (r ∷ rs) =
    let one = plain_step sh b s r ok agrees in
    let rest = demand_two sh (step sh b r).next (plain_next sh s r) (step_keeps_sound sh b r ok) one.1 rs in
    (ap₂ (λ x xs. x ∷ xs) one.0 rest.0, rest.1)

-- ---- every sound bench has its plain machine

pub plain_of_lem : (sh : Shape) (b : Bench) → sound sh b ≡ true → Agrees sh b (plain_of sh b)
unfolding chain
plain_of_lem sh b ok =
    record {
      used = λ k l. refl;
      runs = λ k l. refl;
      ancestors = walk_settled sh b ok (λ n k. chain n b.parent k)
          (λ m n k. from_cong (b.parent k) [] (λ p above. p ∷ above) (chain m b.parent) (chain n b.parent));
      heads = λ k l. refl;
      owns = λ m i h lm li lh. refl;
    }

-- Demand 2 with nothing for the reader to find: every list of requests to a sound bench gets the answers of the bench's plain machine, and leaves the
-- two saying the same.
pub demand_two_of : (sh : Shape) (b : Bench) → sound sh b ≡ true → (rs : List Request) → (answers sh b rs ≡ plain_answers sh (plain_of sh b) rs) × Agrees sh (after sh b rs) (plain_after sh (plain_of sh b) rs)
demand_two_of sh b ok = demand_two sh b (plain_of sh b) ok (plain_of_lem sh b ok)

-- the empty bench has the empty plain machine
pub empty_agrees : (sh : Shape) → Agrees sh empty plain_empty
unfolding is_owner
empty_agrees sh =
    record {
      used = λ k l. refl;
      runs = λ k l. refl;
      ancestors = λ k l. refl;
      heads = λ k l. refl;
      owns = λ m i h lm li lh.
          sym
          (refuted (is_owner sh empty m i h)
          (λ o. clash false (any_at sh.actions (λ k. false && from (heir sh empty k) false (λ x. eqb x h)) o).2 refl));
    }

-- ---- exactly the grants of Moss's rules

-- Where nothing else stands in the way, a mode is given exactly if the plain machine's rule gives it.
pub granted_exactly : (sh : Shape) (b : Bench) → sound sh b ≡ true → (m a i : ℕ) → a < sh.actions → i < sh.instruments → is_running (b.state a) ≡ true → has_running_child sh b a ≡ false → (s : Plain) → Agrees sh b s → ((step sh b (ask m a i)).answer ≡ 0) ↔ (may_own sh s m a i ≡ true)
unfolding row_by
granted_exactly sh b ok m a i la li runs alone s agrees = (
  λ h. rule ∙ (accepted (granted sh b) sh b (ask m a i) (sym (step_answer sh b (ask m a i) ok) ∙ h)).is_granted,
  λ h. step_answer sh b (ask m a i) ok ∙ rw (lt-leb sh.actions a la, lt-leb sh.instruments i li, runs, alone, sym rule ∙ h),
)
  where
    rule : may_own sh s m a i ≡ granted sh b m a i
    rule = grant_same sh b s ok agrees m a i la li
