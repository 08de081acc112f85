-- Two sides' requests in any merging, from the mix of two benches: each side is answered as on its own bench, and what is left is the mix of what
-- each leaves alone.
use mathlib.Core.Path.{◌≡◌, refl, ◌∙◌, ap, subst}
use mathlib.Core.Bool.{Bool, true}
use mathlib.Core.List.{List, [], ◌∷◌}
use Prim.Native.Nat.{ℕ}
use Rattle.rules.specs.Bench.{Shape, Bench, empty}
use Rattle.rules.specs.Requests.{Request}
use Rattle.rules.specs.Sound.{sound}
use Rattle.rules.specs.Answers.{step, answers, after}
use Rattle.rules.specs.Merging.{names, some_does, Symmetric, Merging, done, first, second, firsts, seconds}
use Rattle.rules.proofs.Tests.{by_or, or_left, or_right}
use Rattle.rules.proofs.Kept.{empty_sound, step_keeps_sound}
use Rattle.rules.proofs.Mix.{mix, Side, asks_to_own, Of, Parted, Alone, parted_swap, mix_swap, mix_same}
use Rattle.rules.proofs.Alone.{empty_alone, step_alone}
use Rattle.rules.proofs.MixSteps.{step_own}

-- the requests of a list keep to the side
abbrev pub AllOf : Side → List Request → Type 0
AllOf s rs = Of s (λ test. some_does test rs)

-- some request passes a test that follows from one that some request passes
pub some_follows : (f g : Request → Bool) → ((r : Request) → f r ≡ true → g r ≡ true) →
    (rs : List Request) → some_does f rs ≡ true → some_does g rs ≡ true
some_follows f g follows [] h = h
some_follows f g follows (r ∷ rs) h =
    by_or (f r) (some_does f rs) h (λ here. or_left (g r) (some_does g rs) (follows r here))
    (λ later. or_right (g r) (some_does g rs) (some_follows f g follows rs later))

-- requests among others that keep to a side keep to it
of_fewer : (s : Side) (others some : (Request → Bool) → Bool) → ((test : Request → Bool) → some test ≡ true → others test ≡ true) →
    Of s others → Of s some
of_fewer s others some among of =
    record { named = λ k h. of.named k (among (names k) h); asked = λ m i h. of.asked m i (among (asks_to_own m i) h) }

of_head : (s : Side) (r : Request) (rs : List Request) → AllOf s (r ∷ rs) → Of s (λ test. test r)
of_head s r rs = of_fewer s (λ test. some_does test (r ∷ rs)) (λ test. test r) (λ test. or_left (test r) (some_does test rs))

of_tail : (s : Side) (r : Request) (rs : List Request) → AllOf s (r ∷ rs) → AllOf s rs
of_tail s r rs = of_fewer s (λ test. some_does test (r ∷ rs)) (λ test. some_does test rs) (λ test. or_right (test r) (some_does test rs))

-- Two benches side by side: each is its side's alone, and the mix is sound.
pub record Beside (sh : Shape) (s t : Side) (c d : Bench) : Type 0 where
  pub own : Alone sh s c
  pub other : Alone sh t d
  pub together : sound sh (mix s.numbers c d) ≡ true

pub empty_beside : (sh : Shape) (s t : Side) → Beside sh s t empty empty
empty_beside sh s t =
    record { own = empty_alone sh s; other = empty_alone sh t; together = rw (mix_same s.numbers empty) (empty_sound sh) }

beside_swap : (sh : Shape) (s t : Side) → Parted sh s t → (c d : Bench) → Beside sh s t c d → Beside sh t s d c
beside_swap sh s t apart c d b =
    record { own = b.other; other = b.own; together = rw (mix_swap sh s t apart c d) at b.together }

-- What request r does to two benches side by side: it's answered x on their mix, and the two that stand side by side then are c' and d'.
record Turn (sh : Shape) (s t : Side) (c d : Bench) (r : Request) (x : ℕ) (c' d' : Bench) : Type 0 where
  steps : step sh (mix s.numbers c d) r ≡ record { answer = x; next = mix s.numbers c' d' }
  beside : Beside sh s t c' d'

turn_own : (sh : Shape) (s t : Side) → Parted sh s t → (c d : Bench) → Beside sh s t c d → (r : Request) → Of s (λ test. test r) →
    Turn sh s t c d r (step sh c r).answer (step sh c r).next d
turn_own sh s t apart c d b r of =
    record {
      steps = steps;
      beside = record {
        own = step_alone sh s c b.own r of;
        other = b.other;
        together = subst (λ o. sound sh o.next ≡ true) steps (step_keeps_sound sh (mix s.numbers c d) r b.together);
      };
    }
  where
    steps : step sh (mix s.numbers c d) r ≡ record { answer = (step sh c r).answer; next = mix s.numbers (step sh c r).next d }
    steps = step_own sh s t apart c d b.own b.other b.together r of

-- the other side's turn, by changing places
turn_other : (sh : Shape) → Symmetric sh → (s t : Side) → Parted sh s t → (c d : Bench) → Beside sh s t c d → (r : Request) → Of t (λ test. test r) →
    Turn sh s t c d r (step sh d r).answer c (step sh d r).next
turn_other sh symmetric s t apart c d b r of =
    record {
      steps = ap (λ mixed. step sh mixed r) (mix_swap sh s t apart c d)
          ∙ (swapped.steps
          ∙ ap (λ mixed. record { answer = (step sh d r).answer; next = mixed }) (mix_swap sh t s back (step sh d r).next c));
      beside = beside_swap sh t s back (step sh d r).next c swapped.beside;
    }
  where
    back : Parted sh t s
    back = parted_swap sh symmetric s t apart

    swapped : Turn sh t s d c r (step sh d r).answer (step sh d r).next c
    swapped = turn_own sh t s back d c (beside_swap sh s t apart c d b) r of

-- How a merging of two sides' requests ends, from the mix of two benches.
pub record Merged (sh : Shape) (s : Side) (c d : Bench) {xs ys zs : List Request} (m : Merging xs ys zs) : Type 0 where
  pub first_answers : firsts m (answers sh (mix s.numbers c d) zs) ≡ answers sh c xs
  pub second_answers : seconds m (answers sh (mix s.numbers c d) zs) ≡ answers sh d ys
  pub left : after sh (mix s.numbers c d) zs ≡ mix s.numbers (after sh c xs) (after sh d ys)

pub merged : (sh : Shape) → Symmetric sh → (s t : Side) → Parted sh s t → (c d : Bench) → Beside sh s t c d →
    {xs ys zs : List Request} (m : Merging xs ys zs) → AllOf s xs → AllOf t ys → Merged sh s c d m
unfolding answers after firsts seconds
merged sh symmetric s t apart c d b done of_first of_second = record { first_answers = refl; second_answers = refl; left = refl }
merged sh symmetric s t apart c d b (first {x} {xs} {ys} {zs} m) of_first of_second =
    let turn = turn_own sh s t apart c d b x (of_head s x xs of_first) in
    let rest = merged sh symmetric s t apart (step sh c x).next d turn.beside m (of_tail s x xs of_first) of_second in
    record {
      first_answers = ap (λ o. o.answer ∷ firsts m (answers sh o.next zs)) turn.steps ∙ ap (λ l. (step sh c x).answer ∷ l) rest.first_answers;
      second_answers = ap (λ o. seconds m (answers sh o.next zs)) turn.steps ∙ rest.second_answers;
      left = ap (λ o. after sh o.next zs) turn.steps ∙ rest.left;
    }
merged sh symmetric s t apart c d b (second {y} {xs} {ys} {zs} m) of_first of_second =
    let turn = turn_other sh symmetric s t apart c d b y (of_head t y ys of_second) in
    let rest = merged sh symmetric s t apart c (step sh d y).next turn.beside m of_first (of_tail t y ys of_second) in
    record {
      first_answers = ap (λ o. firsts m (answers sh o.next zs)) turn.steps ∙ rest.first_answers;
      second_answers = ap (λ o. o.answer ∷ seconds m (answers sh o.next zs)) turn.steps ∙ ap (λ l. (step sh d y).answer ∷ l) rest.second_answers;
      left = ap (λ o. after sh o.next zs) turn.steps ∙ rest.left;
    }
