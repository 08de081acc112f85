-- Nothing drains for ever: once quiet is said for the head of every instrument, in order, its group is free and nobody else is touched. Assumes nothing.
use Rattle.std.specs.Prelude.{if◌then◌else◌}
use mathlib.Core.Path.{◌≡◌, refl, sym, ◌∙◌, ap}
use mathlib.Core.Bool.{Bool, true, false, not, ◌&&◌, and-true, and-false}
use mathlib.Core.List.{List, [], ◌∷◌}
use mathlib.Core.Option.{none}
use Prim.Native.Nat.{ℕ, zero, suc, ◌+◌, ◌<◌}
use native.Mathlib.Omega.{arith}
use lib.Dec.{eqb}
use borrow.Author.Tests.{eq-eqb, lt-leb}
use Rattle.rules.specs.Bench.{Shape, free, Bench}
use Rattle.rules.specs.Owners.{drains_under, stand_at, stand_somewhere}
use Rattle.rules.specs.Sound.{sound}
use Rattle.rules.specs.Requests.{Request, quiet, without, effect}
use Rattle.rules.specs.Answers.{no_instrument, row_by, answer_of, step, after}
use Rattle.rules.proofs.Tests.{by_bool, clash, refuted, by_last}
use Rattle.rules.proofs.Facts.{sound_facts, under_head, somewhere_at, stand_by}
use Rattle.rules.proofs.Kept.{step_keeps_sound}
use Rattle.rules.proofs.Draining.{Unchanged, without_unchanged}

-- taken out twice is taken out
out_twice : (s t g : Bool) → ((s && not (t && g)) && not g) ≡ (s && not g)
out_twice s t true = and-false (s && not (t && true)) ∙ sym (and-false s)
out_twice s t false = rw (and-false t) (ap (λ x. x && true) (and-true s))

-- quiet is said for a of n instruments, one after the other from instrument i
unfoldable pub quiet_from : ℕ → ℕ → ℕ → List Request
quiet_from a i zero = []
quiet_from a i (suc n) = quiet a i ∷ quiet_from a (suc i) n

module _ (sh : Shape) (b : Bench) (ok : sound sh b ≡ true) (a : ℕ) (l : a < sh.actions) (head : drains_under b a a ≡ true) where
  abbrev group : ℕ → Bool
  group = drains_under b a

  -- b with other sets
  abbrev with_sets : (ℕ → ℕ → ℕ → Bool) → Bench
  with_sets sets = record { state = b.state; parent = b.parent; stands = sets }

  -- Below instrument i the group has left the sets, and it still stands in one. Nobody else has left any.
  record Waits (i : ℕ) (sets : ℕ → ℕ → ℕ → Bool) : Type 0 where
    is_sound : sound sh (with_sets sets) ≡ true
    others : (m at k : ℕ) → (sets m at k && not (group k)) ≡ (b.stands m at k && not (group k))
    left : (m at k : ℕ) → m < sh.modes → at < i → k < sh.actions → group k ≡ true → sets m at k ≡ false
    still : stand_somewhere sh (with_sets sets) group ≡ true

  freed : (i : ℕ) (sets : ℕ → ℕ → ℕ → Bool) → Waits i sets → without group (with_sets sets) ≡ without group b
  freed i sets w =
      λ j.
      record {
        state = λ k. if group k then free else b.state k;
        parent = λ k. if group k then none else b.parent k;
        stands = λ m at k. w.others m at k j;
      }

  -- once they are free, quiet is said in vain
  in_vain : (i : ℕ) → (step sh (without group b) (quiet a i)).next ≡ without group b
  unfolding step answer_of row_by
  in_vain i =
      by_bool (sound sh (without group b))
      (λ t. by_bool (no_instrument sh i) (λ u. rw (t, lt-leb sh.actions a l, u)) (λ u. rw (t, lt-leb sh.actions a l, u, head)))
      (λ t. rw t)

  freed_stays : (n i : ℕ) → after sh (without group b) (quiet_from a i n) ≡ without group b
  unfolding after quiet_from
  freed_stays zero i = refl
  freed_stays (suc n) i = ap (λ c. after sh c (quiet_from a (suc i) n)) (in_vain i) ∙ freed_stays n (suc i)

  quiet_steps : (i : ℕ) (sets : ℕ → ℕ → ℕ → Bool) → i < sh.instruments → sound sh (with_sets sets) ≡ true → (step sh (with_sets sets) (quiet a i)).next ≡ (if stand_at sh (with_sets sets) group i then effect sh (with_sets sets) (quiet a i) else with_sets sets)
  unfolding step answer_of row_by
  quiet_steps i sets li good =
      rw (good, lt-leb sh.actions a l, lt-leb sh.instruments i li, head)
      (by_bool (stand_at sh (with_sets sets) group i) (λ t. rw t) (λ t. rw t))

  -- the sets without the group at instrument i
  left_at : ℕ → (ℕ → ℕ → ℕ → Bool) → ℕ → ℕ → ℕ → Bool
  left_at i sets m at k = sets m at k && not (eqb at i && group k)

  quiet_leaves : (i : ℕ) (sets : ℕ → ℕ → ℕ → Bool) → i < sh.instruments → sound sh (with_sets sets) ≡ true → stand_at sh (with_sets sets) group i ≡ true → stand_somewhere sh (with_sets (left_at i sets)) group ≡ true → (step sh (with_sets sets) (quiet a i)).next ≡ with_sets (left_at i sets)
  unfolding effect left_at
  quiet_leaves i sets li good there still = rw (quiet_steps i sets li good, there, still)

  quiet_frees : (i : ℕ) (sets : ℕ → ℕ → ℕ → Bool) → i < sh.instruments → Waits i sets → stand_at sh (with_sets sets) group i ≡ true → stand_somewhere sh (with_sets (left_at i sets)) group ≡ false → (step sh (with_sets sets) (quiet a i)).next ≡ without group b
  unfolding effect left_at
  quiet_frees i sets li w there nobody = rw (quiet_steps i sets li w.is_sound, there, nobody) (freed i sets w)

  waits_on : (i : ℕ) (sets : ℕ → ℕ → ℕ → Bool) → i < sh.instruments → Waits i sets → stand_at sh (with_sets sets) group i ≡ true → stand_somewhere sh (with_sets (left_at i sets)) group ≡ true → Waits (suc i) (left_at i sets)
  unfolding left_at
  waits_on i sets li w there still =
      record {
        is_sound = rw (quiet_leaves i sets li w.is_sound there still) at (step_keeps_sound sh (with_sets sets) (quiet a i) w.is_sound);
        others = λ m at k. out_twice (sets m at k) (eqb at i) (group k) ∙ w.others m at k;
        left = λ m at k lm la lk g.
            by_last i at la (λ q. rw (q, eq-eqb i i refl, g) (and-false (sets m i k))) (λ below. rw (w.left m at k lm below lk g));
        still = still;
      }

  -- the group isn't at instrument i, and quiet is said of it in vain
  waits_there : (i : ℕ) (sets : ℕ → ℕ → ℕ → Bool) → Waits i sets → stand_at sh (with_sets sets) group i ≡ false → Waits (suc i) sets
  waits_there i sets w nobody =
      record {
        is_sound = w.is_sound;
        others = w.others;
        left = λ m at k lm la lk g.
            by_last i at la
            (λ q. rw q
            (refuted (sets m i k)
            (λ s. clash (stand_at sh (with_sets sets) group i)
            (stand_by sh (with_sets sets) group i
            (record { mode = m; mode_known = lm; number = k; number_known = lk; stands = s; is_one = g }))
            nobody)))
            (λ below. w.left m at k lm below lk g);
        still = w.still;
      }

  -- after the n instruments from i on
  all_left : (n i : ℕ) (sets : ℕ → ℕ → ℕ → Bool) → i + n ≡ sh.instruments → Waits i sets → after sh (with_sets sets) (quiet_from a i n) ≡ without group b
  unfolding after quiet_from
  all_left zero i sets size w =
      let at = somewhere_at sh (with_sets sets) group w.still in
      let s = at.2 in
      clash (sets s.mode at.0 s.number) s.stands
      (w.left s.mode at.0 s.number s.mode_known (let li = at.1 in omega arith) s.number_known s.is_one)
  all_left (suc n) i sets size w =
      let li : i < sh.instruments = omega arith in
      by_bool (stand_at sh (with_sets sets) group i)
      (λ there. by_bool (stand_somewhere sh (with_sets (left_at i sets)) group)
      (λ still. on (quiet_leaves i sets li w.is_sound there still) ∙ all_left n (suc i) (left_at i sets) (omega arith) (waits_on i sets li w there still))
      (λ nobody. on (quiet_frees i sets li w there nobody) ∙ freed_stays n (suc i)))
      (λ nobody. on (rw nobody at (quiet_steps i sets li w.is_sound)) ∙ all_left n (suc i) sets (omega arith) (waits_there i sets w nobody))
    where
      on : {c : Bench} → (step sh (with_sets sets) (quiet a i)).next ≡ c → after sh (step sh (with_sets sets) (quiet a i)).next (quiet_from a (suc i) n) ≡ after sh c (quiet_from a (suc i) n)
      on e = ap (λ c. after sh c (quiet_from a (suc i) n)) e

  -- Quiet is said for head a of every instrument, in order, in vain where the group isn't in its sets: then all of the group are free and in no set, and
  -- nobody else is touched.
  pub nothing_drains_for_ever : after sh b (quiet_from a 0 sh.instruments) ≡ without group b
  nothing_drains_for_ever =
      all_left sh.instruments 0 b.stands (omega arith)
      (record {
        is_sound = ok;
        others = λ m at k. refl;
        left = λ m at k lm la. absurd (omega arith);
        still = ((sound_facts sh b ok a l).drains a (under_head b a a head)).group_stands;
      })

  pub group_freed : (k : ℕ) → group k ≡ true → ((after sh b (quiet_from a 0 sh.instruments)).state k ≡ free) × ((m i : ℕ) → (after sh b (quiet_from a 0 sh.instruments)).stands m i k ≡ false)
  group_freed k g = rw nothing_drains_for_ever (rw g, λ m i. rw g (and-false (b.stands m i k)))

  pub others_unchanged : (k : ℕ) → group k ≡ false → Unchanged b (after sh b (quiet_from a 0 sh.instruments)) k
  others_unchanged k g = rw nothing_drains_for_ever (without_unchanged b group k g)
