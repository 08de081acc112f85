-- What an accepted read or write leaves: the asker stands in the set of the mode asked, whatever else it owns, and asking again changes nothing
-- further: the same answer on the same bench.
use mathlib.Core.Path.{◌≡◌, refl}
use mathlib.Core.Bool.{Bool, true, false, ◌&&◌, ◌||◌}
use Prim.Native.Nat.{ℕ, ◌<◌}
use borrow.Author.Tests.{eq-eqb, eqb-true, lt-leb}
use lib.Dec.{eqb}
use Rattle.rules.specs.Bench.{Shape, Bench}
use Rattle.rules.specs.Owners.{is_ancestor, heir, is_asker_or_ancestor, heir_in_line, granted, has_running_child}
use Rattle.rules.specs.Sound.{sound}
use Rattle.rules.specs.Requests.{ask, effect}
use Rattle.rules.specs.Answers.{row_by, row, answer_of, step}
use Rattle.rules.proofs.Tests.{by_bool, and_right, by_or, or_left, or_right}
use Rattle.rules.proofs.Walks.{heir_runs}
use Rattle.rules.proofs.Accepted.{Asks, accepted}
use Rattle.rules.proofs.Kept.{effect_keeps_sound}
use Rattle.rules.proofs.Grants.{HeirsInLine, granted_at, granted_from}

-- A read by a present write owner also enters the read set.
pub ask_enters : (sh : Shape) (b : Bench) (m a i : ℕ) → (effect sh b (ask m a i)).stands m i a ≡ true
unfolding effect
ask_enters sh b m a i =
    or_right (b.stands m i a) (eqb m m && eqb i i && eqb a a) (rw (eq-eqb m m refl, eq-eqb i i refl, eq-eqb a a refl))

or_again : (s t : Bool) → (s || t || t) ≡ (s || t)
or_again true t = refl
or_again false true = refl
or_again false false = refl

-- the bench that asking twice leaves
pub ask_again : (sh : Shape) (b : Bench) (m a i : ℕ) → effect sh (effect sh b (ask m a i)) (ask m a i) ≡ effect sh b (ask m a i)
unfolding effect
ask_again sh b m a i =
    λ j.
    record {
      state = b.state;
      parent = b.parent;
      stands = λ held at k. or_again (b.stands held at k) (eqb held m && eqb at i && eqb k a) j;
    }

module _ (sh : Shape) (b : Bench) (m a i : ℕ) where
  abbrev next : Bench
  next = effect sh b (ask m a i)

  -- heirs are those from before, and the asker is its own
  in_line_again : sound sh b ≡ true → Asks (granted sh b) sh b m a i → (held : ℕ) → held < sh.modes → sh.conflict m held ≡ true → HeirsInLine sh next a i held
  unfolding effect heir_in_line heir is_asker_or_ancestor is_ancestor
  in_line_again ok acts held lm c k l s =
      by_or (b.stands held i k) (eqb held m && eqb i i && eqb k a) s
      (granted_at sh b a i m acts.is_granted held lm c k l)
      (λ asked. let q : k ≡ a = eqb-true k a (and_right (eqb held m && eqb i i) (eqb k a) asked) in
      rw (q, heir_runs sh b ok a acts.known acts.runs) (or_left (eqb a a) (is_ancestor sh b a a) (eq-eqb a a refl)))

  -- Whoever is given a mode is given it again.
  pub again_given : sound sh b ≡ true → row sh b (ask m a i) ≡ 0 → row sh next (ask m a i) ≡ 0
  unfolding row_by effect has_running_child
  again_given ok given =
      let acts : Asks (granted sh b) sh b m a i = accepted (granted sh b) sh b (ask m a i) given in
      rw (lt-leb sh.actions a acts.known, lt-leb sh.instruments i acts.instrument_known, acts.runs, acts.no_running_child, granted_from sh next a i m (in_line_again ok acts))

  -- Asking again changes nothing further: the same answer and the same bench, on every bench, also where it is refused.
  pub step_again : step sh (step sh b (ask m a i)).next (ask m a i) ≡ step sh b (ask m a i)
  unfolding step answer_of
  step_again =
      by_bool (sound sh b)
      (λ ok. by_bool (eqb (row sh b (ask m a i)) 0)
      (λ t. let z : row sh b (ask m a i) ≡ 0 = eqb-true (row sh b (ask m a i)) 0 t in
      rw (ok, z, effect_keeps_sound sh b ok (granted sh b) (ask m a i) z, again_given ok z, ask_again sh b m a i))
      (λ t. rw (ok, t, ok, t)))
      (λ broken. rw (broken, broken))
