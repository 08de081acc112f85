-- Commit of a sub in document 01's words: no set changes, and the owners of every set are those from before, with the sub replaced by its parent.
use Rattle.std.specs.Prelude.{if◌then◌else◌}
use mathlib.Core.Path.{◌≡◌, sym, ◌∙◌, ap}
use mathlib.Core.Bool.{true}
use mathlib.Core.Logic.{◌↔◌}
use mathlib.Core.Option.{some, some-injective}
use Prim.Native.Nat.{ℕ, ◌<◌}
use lib.Dec.{eqb}
use Rattle.rules.specs.Bench.{Shape, Bench}
use Rattle.rules.specs.Owners.{heir}
use Rattle.rules.specs.Sound.{sound}
use Rattle.rules.specs.Requests.{commit, effect}
use Rattle.rules.specs.Answers.{row}
use Rattle.rules.specs.Moss.{Owner, OwnerWith}
use Rattle.rules.proofs.Tests.{by_bool}
use Rattle.rules.proofs.Walks.{heir_found}
use Rattle.rules.proofs.SetForm.{standing_in_use}
use Rattle.rules.proofs.HeirChanges.{handed, commit_heir}
use Rattle.rules.proofs.OwnerChanges.{commit_changes_no_set}

-- what a was the heir of is handed to p
handed_some : (a p x : ℕ) → handed a p (some x) ≡ some (if eqb x a then p else x)
handed_some a p x = by_bool (eqb x a) (λ t. rw t) (λ t. rw t)

module _ (sh : Shape) (b : Bench) (ok : sound sh b ≡ true) (a p : ℕ) (given : row sh b (commit a) ≡ 0) (under : b.parent a ≡ some p) where
  pub commit_replaces : (m i h : ℕ) → m < sh.modes → i < sh.instruments → Owner sh (effect sh b (commit a)) ((effect sh b (commit a)).stands m i) h ↔ OwnerWith sh b (b.stands m i) a p h
  commit_replaces m i h lm li = (forth, back)
    where
      next : Bench
      next = effect sh b (commit a)

      sets : (k : ℕ) → next.stands m i k ≡ b.stands m i k
      sets k = ap (λ f. f m i k) (commit_changes_no_set sh b a p under)

      heirs : (k x : ℕ) → k < sh.actions → b.stands m i k ≡ true → heir sh b k ≡ some x → heir sh next k ≡ some (if eqb x a then p else x)
      heirs k x l s is =
          commit_heir sh b ok a p given under k l (standing_in_use sh b ok m i k lm li l s) ∙ ap (handed a p) is ∙ handed_some a p x

      forth : Owner sh next (next.stands m i) h → OwnerWith sh b (b.stands m i) a p h
      forth o =
          let k = o.number in
          let s : b.stands m i k ≡ true = sym (sets k) ∙ o.stands in
          let found = heir_found sh b ok k o.known (standing_in_use sh b ok m i k lm li o.known s) in
          record {
            before = found.0;
            owner = record { number = k; known = o.known; stands = s; heir_is = found.1 };
            after = some-injective h (if eqb found.0 a then p else found.0) (sym o.heir_is ∙ heirs k found.0 o.known s found.1);
          }

      back : OwnerWith sh b (b.stands m i) a p h → Owner sh next (next.stands m i) h
      back w =
          let o = w.owner in
          record {
            number = o.number;
            known = o.known;
            stands = sets o.number ∙ o.stands;
            heir_is = heirs o.number w.before o.known o.stands o.heir_is ∙ ap some (sym w.after);
          }
