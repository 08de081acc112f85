-- A request that keeps to one side steps on the mix of two benches as on its own bench, and leaves the other bench as it was.
use Rattle.std.specs.Prelude.{if◌then◌else◌}
use mathlib.Core.Path.{◌≡◌, refl, sym, ◌∙◌, ap}
use mathlib.Core.Bool.{Bool, true, false, not, ◌&&◌, ◌||◌, and-false, and-true, or-false}
use mathlib.Core.Option.{none, some}
use Prim.Native.Nat.{ℕ}
use lib.Dec.{eqb}
use borrow.Author.Tests.{eq-eqb}
use Rattle.rules.specs.Tests.{any}
use Rattle.rules.specs.Bench.{Shape, State, free, running, committed, draining, Bench}
use Rattle.rules.specs.Owners.{in_family, drains_under, stand_at, stand_somewhere}
use Rattle.rules.specs.Requests.{Request, open_top, open_sub, ask, commit, abort, quiet, put, without, drained, quieted, effect}
use Rattle.rules.specs.Sound.{sound}
use Rattle.rules.specs.Answers.{too_high, no_instrument, row_by, row, answer_of, step}
use Rattle.rules.proofs.Tests.{by_bool, by_parent, or_left, or_right, any_cong}
use Rattle.rules.proofs.Mix.{choose, mix, bench_path, told_apart, Side, Of, Parted, Alone}
use Rattle.rules.proofs.Alone.{family_outside, group_outside}
use Rattle.rules.proofs.MixWalks.{family_own, group_own, running_child_own, granted_own}

-- what is put at one of the numbers is put into the first
choose_put : {A : Type 0} (numbers : ℕ → Bool) (n : ℕ) → numbers n ≡ true → (v : A) (f g : ℕ → A) (k : ℕ) →
    put n v (choose numbers f g) k ≡ choose numbers (put n v f) g k
choose_put numbers n h v f g k = by_bool (numbers k) (λ e. rw e) (λ e. rw (e, told_apart numbers k n e h))

-- What happens to numbers of the first bench alone happens to it: they leave, they drain, they leave the sets of an instrument, and they stand where
-- they stand in it.
module _ (numbers group : ℕ → Bool) (outside : (k : ℕ) → numbers k ≡ false → group k ≡ false) where
  -- each of them gets v
  choose_changed : {A : Type 0} (v : A) (f g : ℕ → A) (k : ℕ) →
      (if group k then v else choose numbers f g k) ≡ choose numbers (λ k. if group k then v else f k) g k
  choose_changed v f g k = by_bool (numbers k) (λ h. rw h) (λ h. rw (h, outside k h))

  mix_without : (c d : Bench) → without group (mix numbers c d) ≡ mix numbers (without group c) d
  mix_without c d =
      bench_path (without group (mix numbers c d)) (mix numbers (without group c) d)
      (choose_changed free c.state d.state)
      (choose_changed none c.parent d.parent)
      (λ m i k. by_bool (numbers k) (λ h. rw h) (λ h. rw (h, outside k h) (and-true (d.stands m i k))))

  mix_drained : (a : ℕ) (c d : Bench) → drained a group (mix numbers c d) ≡ mix numbers (drained a group c) d
  mix_drained a c d =
      bench_path (drained a group (mix numbers c d)) (mix numbers (drained a group c) d)
      (choose_changed (draining a) c.state d.state)
      (choose_changed none c.parent d.parent)
      (λ m i k. refl)

  mix_quieted : (i : ℕ) (c d : Bench) → quieted group i (mix numbers c d) ≡ mix numbers (quieted group i c) d
  mix_quieted i c d =
      bench_path (quieted group i (mix numbers c d)) (mix numbers (quieted group i c) d) (λ k. refl) (λ k. refl)
      (λ m at k. by_bool (numbers k) (λ h. rw h) (λ h. rw (h, outside k h, and-false (eqb at i)) (and-true (d.stands m at k))))

  mix_stand : (sh : Shape) (c d : Bench) (i : ℕ) → stand_at sh (mix numbers c d) group i ≡ stand_at sh c group i
  unfolding stand_at
  mix_stand sh c d i =
      any_cong sh.modes (λ m. any sh.actions (λ k. (mix numbers c d).stands m i k && group k))
      (λ m. any sh.actions (λ k. c.stands m i k && group k))
      (λ m l. any_cong sh.actions (λ k. (mix numbers c d).stands m i k && group k)
      (λ k. c.stands m i k && group k)
      (λ k l. by_bool (numbers k) (λ h. rw h) (λ h. rw (h, outside k h, and-false (d.stands m i k)) (sym (and-false (c.stands m i k))))))

  mix_somewhere : (sh : Shape) (c d : Bench) → stand_somewhere sh (mix numbers c d) group ≡ stand_somewhere sh c group
  unfolding stand_somewhere
  mix_somewhere sh c d =
      any_cong sh.instruments (stand_at sh (mix numbers c d) group) (stand_at sh c group) (λ i l. mix_stand sh c d i)

module _ (sh : Shape) (s t : Side) (apart : Parted sh s t) (c d : Bench) (own : Alone sh s c) (other : Alone sh t d) where
  abbrev both : Bench
  both = mix s.numbers c d

  row_own : (r : Request) → Of s (λ test. test r) → row sh both r ≡ row sh c r
  unfolding row_by
  row_own (open_top n) of = rw (of.named n (eq-eqb n n refl))
  row_own (open_sub n p) of =
      rw (of.named n (or_left (eqb n n) (eqb p n) (eq-eqb n n refl)), of.named p (or_right (eqb n p) (eqb p p) (eq-eqb p p refl)))
  row_own (ask m a i) of =
      let h = of.named a (eq-eqb a a refl) in
      let asked = of.asked m i (rw (eq-eqb m m refl) (eq-eqb i i refl)) in
      rw (h, running_child_own sh s t apart c d own other a h, granted_own sh s t apart c d own other m a i h asked)
  row_own (commit a) of =
      let h = of.named a (eq-eqb a a refl) in
      rw (h, running_child_own sh s t apart c d own other a h)
  row_own (abort a) of = rw (of.named a (eq-eqb a a refl))
  row_own (quiet a i) of =
      let h = of.named a (eq-eqb a a refl) in
      ap (λ group. quiet_row group (stand_at sh both group i)) (group_own sh s t apart c d own other a h)
      ∙ ap (quiet_row (drains_under c a)) (mix_stand s.numbers (drains_under c a) (λ k. group_outside sh s c own a k) sh c d i)
    where
      quiet_row : (ℕ → Bool) → Bool → ℕ
      quiet_row group stands = if too_high sh a then 1 else if no_instrument sh i then 2 else if not (group a) || not stands then 10 else 0

  -- a family leaves: abort, and commit of a top
  family_leaves : (a : ℕ) → s.numbers a ≡ true → without (in_family sh both a) both ≡ mix s.numbers (without (in_family sh c a) c) d
  family_leaves a h =
      ap (λ gone. without gone both) (family_own sh s t apart c d own other a h)
      ∙ mix_without s.numbers (in_family sh c a) (λ k. family_outside sh s c own a k h) c d

  -- one number gets another state: open top, and commit of a sub
  state_own : (n : ℕ) → s.numbers n ≡ true → (v : State) →
      let marked : Bench → Bench = λ b. record { state = put n v b.state; parent = b.parent; stands = b.stands } in
      marked both ≡ mix s.numbers (marked c) d
  state_own n h v =
      let marked : Bench → Bench = λ b. record { state = put n v b.state; parent = b.parent; stands = b.stands } in
      bench_path (marked both) (mix s.numbers (marked c) d) (choose_put s.numbers n h v c.state d.state) (λ k. refl)
      (λ m i k. refl)

  -- the family drains where it stands in a set, and else it leaves
  abort_own : (a : ℕ) → s.numbers a ≡ true → effect sh both (abort a) ≡ mix s.numbers (effect sh c (abort a)) d
  unfolding effect
  abort_own a h =
      ap (aborted both) (family_own sh s t apart c d own other a h)
      ∙ rw (mix_somewhere s.numbers family outside sh c d)
      (by_bool (stand_somewhere sh c family) (λ e. rw e (mix_drained s.numbers family outside a c d))
      (λ e. rw e (mix_without s.numbers family outside c d)))
    where
      family : ℕ → Bool
      family = in_family sh c a

      outside : (k : ℕ) → s.numbers k ≡ false → family k ≡ false
      outside k = family_outside sh s c own a k h

      aborted : Bench → (ℕ → Bool) → Bench
      aborted b family = if stand_somewhere sh b family then drained a family b else without family b

  -- the group leaves the instrument's sets, and where it is left in none it leaves the bench
  quiet_own : (a i : ℕ) → s.numbers a ≡ true → effect sh both (quiet a i) ≡ mix s.numbers (effect sh c (quiet a i)) d
  unfolding effect
  quiet_own a i h =
      ap (λ group. settled group (quieted group i both) both) (group_own sh s t apart c d own other a h)
      ∙ ap (λ left. settled group left both) (mix_quieted s.numbers group outside i c d)
      ∙ rw (mix_somewhere s.numbers group outside sh (quieted group i c) d)
      (by_bool (stand_somewhere sh (quieted group i c) group) (λ e. rw e) (λ e. rw e (mix_without s.numbers group outside c d)))
    where
      group : ℕ → Bool
      group = drains_under c a

      outside : (k : ℕ) → s.numbers k ≡ false → group k ≡ false
      outside k = group_outside sh s c own a k

      settled : (ℕ → Bool) → Bench → Bench → Bench
      settled group left b = if stand_somewhere sh left group then left else without group b

  effect_own : (r : Request) → Of s (λ test. test r) → effect sh both r ≡ mix s.numbers (effect sh c r) d
  unfolding effect
  effect_own (open_top n) of = state_own n (of.named n (eq-eqb n n refl)) running
  effect_own (open_sub n p) of =
      let h = of.named n (or_left (eqb n n) (eqb p n) (eq-eqb n n refl)) in
      bench_path (effect sh both (open_sub n p)) (mix s.numbers (effect sh c (open_sub n p)) d)
      (choose_put s.numbers n h running c.state d.state)
      (choose_put s.numbers n h (some p) c.parent d.parent)
      (λ m i k. refl)
  effect_own (ask m a i) of =
      bench_path (effect sh both (ask m a i)) (mix s.numbers (effect sh c (ask m a i)) d) (λ k. refl) (λ k. refl)
      (λ held at k. by_bool (s.numbers k) (λ g. rw g)
      (λ g. rw (g, told_apart s.numbers k a g (of.named a (eq-eqb a a refl)), and-false (eqb held m && eqb at i)) (or-false (d.stands held at k))))
  effect_own (commit a) of =
      let h = of.named a (eq-eqb a a refl) in
      rw h
      (by_parent (c.parent a) (λ e. rw e (family_leaves a h))
      (λ p e. rw e (state_own a h committed)))
  effect_own (abort a) of = abort_own a (of.named a (eq-eqb a a refl))
  effect_own (quiet a i) of = quiet_own a i (of.named a (eq-eqb a a refl))

  -- The step of a request of this side, where the mix is sound.
  pub step_own : sound sh both ≡ true → (r : Request) → Of s (λ test. test r) →
      step sh both r ≡ record { answer = (step sh c r).answer; next = mix s.numbers (step sh c r).next d }
  unfolding step answer_of
  step_own ok r of = rw (ok, own.is_sound, row_own r of) (ap (λ b. record { answer = row sh c r; next = b }) (picked (eqb (row sh c r) 0)))
    where
      picked : (accepts : Bool) → (if accepts then effect sh both r else both) ≡ mix s.numbers (if accepts then effect sh c r else c) d
      picked true = effect_own r of
      picked false = refl
