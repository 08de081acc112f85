-- Steps on any arrays: what the code finds, put together. Assumes nothing.
use mathlib.Core.Path.{◌≡◌, ◌∙◌, ap}
use mathlib.Core.List.{List, []}
use Prim.Native.Nat.{ℕ}
use lib.Dec.{eqb}
use Rattle.rules.proofs.Tests.{by_bool}
use Rattle.steps.specs.Arrays.{Arrays, lent}
use Rattle.steps.specs.Steps.{Opened, Quieted}

-- lists that are the same make the same record
pub same_lent : {parents parents' states states' owners owners' : List ℕ} → parents ≡ parents' → states ≡ states' → owners ≡ owners' →
    lent parents states owners ≡ lent parents' states' owners'
same_lent p s o = λ i. record { parents = p i; states = s i; owners = o i }

-- What an open does to parents and states it does whatever the owners are.
pub with_owners : {parents states parents' states' : List ℕ} (owners : List ℕ) (code x y : ℕ) {answer : ℕ} →
    Opened code x y (lent parents states []) answer (lent parents' states' []) → Opened code x y (lent parents states owners) answer (lent parents' states' owners)
with_owners owners code x y {answer} d =
    record {
      answered = d.answered;
      left = ap (λ (b : Arrays). lent b.parents b.states owners) d.left
          ∙ by_bool (eqb answer 0) (λ t. rw t) (λ t. rw t);
    }

-- What a quiet does to states and owners it does whatever the parents are.
pub with_parents : {states owners states' owners' : List ℕ} (parents : List ℕ) (a i : ℕ) {answer : ℕ} →
    Quieted a i (lent [] states owners) answer (lent [] states' owners') → Quieted a i (lent parents states owners) answer (lent parents states' owners')
with_parents parents a i {answer} d =
    record {
      answered = d.answered;
      left = ap (λ (b : Arrays). lent parents b.states b.owners) d.left
          ∙ by_bool (eqb answer 0) (λ t. rw t) (λ t. rw t);
    }
