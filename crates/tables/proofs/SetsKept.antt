-- What a request leaves as it was: an open and the commit of a subaction keep all sets, and an ask the sets of the other modes. Assumes nothing.
use Rattle.std.specs.Prelude.{if◌then◌else◌}
use mathlib.Core.Path.{◌≡◌, refl, sym, ◌∙◌, ap}
use mathlib.Core.Bool.{Bool, true, false, or-false, false≢true}
use mathlib.Core.Option.{Option, none, some}
use Prim.Native.Nat.{ℕ, ◌%◌}
use native.Mathlib.Nat.{mod-eq_of_lt}
use lib.Dec.{eqb}
use Rattle.rules.specs.Tests.{from}
use Rattle.rules.specs.Bench.{Shape, Bench, committed}
use Rattle.rules.specs.Owners.{in_family}
use Rattle.rules.specs.Requests.{open_top, open_sub, ask, commit, put, without, effect}
use Rattle.rules.specs.Answers.{accepts, answer_of, Outcome, step}
use Rattle.rules.proofs.Accepted.{Commits}
use Rattle.tables.proofs.Steps.{granted_by}

-- the sets of a bench that is taken or not
either : (t : Bool) (x b : Bench) (m i k : ℕ) → x.stands m i k ≡ b.stands m i k → (if t then x else b).stands m i k ≡ b.stands m i k
either true x b m i k h = h
either false x b m i k h = refl

-- whether there is a parent
abbrev pub has : Option ℕ → Bool
has none = false
has (some p) = true

module _ (sh : Shape) (b : Bench) where
  -- An open keeps all sets.
  pub open_top_keeps : (n m i k : ℕ) → (step sh b (open_top n)).next.stands m i k ≡ b.stands m i k
  unfolding step effect
  open_top_keeps n m i k = either (accepts (answer_of sh b (open_top n))) (effect sh b (open_top n)) b m i k refl

  pub open_sub_keeps : (n p m i k : ℕ) → (step sh b (open_sub n p)).next.stands m i k ≡ b.stands m i k
  unfolding step effect
  open_sub_keeps n p m i k = either (accepts (answer_of sh b (open_sub n p))) (effect sh b (open_sub n p)) b m i k refl

  -- An ask keeps the sets of the other modes.
  pub ask_keeps : (m a i held : ℕ) → eqb held m ≡ false → (at k : ℕ) → (step sh b (ask m a i)).next.stands held at k ≡ b.stands held at k
  unfolding step effect
  ask_keeps m a i held other at k =
      either (accepts (answer_of sh b (ask m a i))) (effect sh b (ask m a i)) b held at k (rw other (or-false (b.stands held at k)))

  -- The commit of an action that has a parent after it keeps all sets: one that had none has none.
  module _ (a m i k : ℕ) where
    left : (gone : Bool) (o : Option ℕ) → o ≡ none → has (if gone then none else o) ≡ false
    left true o e = refl
    left false o e = ap has e

    -- what a commit makes of the bench where the parent of a is o
    abbrev after : Option ℕ → (ℕ → Bool) → Bench
    after o gone = from o (without gone b) (λ p. record { state = put a committed b.state; parent = b.parent; stands = b.stands })

    under : (t : Bool) (o : Option ℕ) (gone : ℕ → Bool) → b.parent a ≡ o → has ((if t then after o gone else b).parent a) ≡ true →
        (if t then after o gone else b).stands m i k ≡ b.stands m i k
    under true none gone e sub = absurd (false≢true (sym (left (gone a) (b.parent a) e) ∙ sub))
    under true (some p) gone e sub = refl
    under false o gone e sub = refl

    pub commit_keeps : (answer : ℕ) (next : Bench) → ◌≡◌ {A = Outcome} (record { answer = answer; next = next }) (step sh b (commit a)) → answer ≡ 0 →
        has (next.parent (a % sh.actions)) ≡ true → (step sh b (commit a)).next.stands m i k ≡ b.stands m i k
    unfolding step effect
    commit_keeps answer next e z sub =
        under (accepts (answer_of sh b (commit a))) (b.parent a) (in_family sh b a) refl (sym parent ∙ sub)
      where
        known : Commits sh b a
        known = (granted_by sh b (commit a) answer (ap (λ (o : Outcome). o.answer) e) z).facts

        parent : has (next.parent (a % sh.actions)) ≡ has ((step sh b (commit a)).next.parent a)
        parent = rw (mod-eq_of_lt known.known) (ap (λ (o : Outcome). has (o.next.parent a)) e)
