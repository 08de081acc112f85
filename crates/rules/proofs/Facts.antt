-- What soundness says of each number, as facts, and back from the facts to the test.
use mathlib.Core.Path.{◌≡◌, refl, sym, ◌∙◌, ap}
use mathlib.Core.Bool.{Bool, true, false, not, ◌&&◌}
use mathlib.Core.Option.{none, some, none-ne-some}
use Prim.Native.Nat.{ℕ, ◌<◌, ◌-◌}
use lib.Dec.{ltb}
use borrow.Author.Tests.{ltb-true, lt-ltb, not-true, eqb-true, eq-eqb}
use Rattle.rules.specs.Tests.{all, any, from}
use Rattle.rules.specs.Bench.{Shape, State, free, running, committed, draining, meaningless, Bench, is_free, is_running, head_of, in_tree}
use Rattle.rules.specs.Owners.{is_top, drains_under, stand_at, stand_somewhere}
use Rattle.rules.specs.Sound.{means_something, has_no_parent, stands_nowhere, reaches_top, rule1, rule2, rule3, rule4, drains_well, sound_at, sound}
use Rattle.rules.proofs.Tests.{by_parent, clash, and_left, and_right, and_both, implies, implied, from_at, from_by, from_none, all_at, all_by, any_at, any_by}

-- ---- states

pub tree_in_use : (s : State) → in_tree s ≡ true → is_free s ≡ false
tree_in_use free h = clash false h refl
tree_in_use running h = refl
tree_in_use committed h = refl
tree_in_use (draining x) h = refl
tree_in_use (meaningless n) h = refl

pub runs_in_tree : (s : State) → is_running s ≡ true → in_tree s ≡ true
runs_in_tree free h = h
runs_in_tree running h = refl
runs_in_tree committed h = refl
runs_in_tree (draining x) h = h
runs_in_tree (meaningless n) h = refl

pub runs_in_use : (s : State) → is_running s ≡ true → is_free s ≡ false
runs_in_use s h = tree_in_use s (runs_in_tree s h)

-- a number of the tree has no head, and neither has a free one
pub tree_headless : (s : State) → in_tree s ≡ true → head_of s ≡ none
tree_headless free h = refl
tree_headless running h = refl
tree_headless committed h = refl
tree_headless (draining x) h = clash false h refl
tree_headless (meaningless n) h = refl

pub free_headless : (s : State) → is_free s ≡ true → head_of s ≡ none
free_headless free h = refl
free_headless running h = refl
free_headless committed h = refl
free_headless (draining x) h = clash false h refl
free_headless (meaningless n) h = refl

-- what drains doesn't run
pub draining_rests : (s : State) (h : ℕ) → head_of s ≡ some h → is_running s ≡ false
draining_rests free h e = refl
draining_rests running h e = absurd (none-ne-some h e)
draining_rests committed h e = refl
draining_rests (draining x) h e = refl
draining_rests (meaningless n) h e = refl

-- what isn't free and doesn't drain is in the tree
pub in_use_tree : (s : State) → is_free s ≡ false → head_of s ≡ none → in_tree s ≡ true
in_use_tree free h e = sym h
in_use_tree running h e = refl
in_use_tree committed h e = refl
in_use_tree (draining x) h e = absurd (none-ne-some x (sym e))
in_use_tree (meaningless n) h e = refl

-- ---- numbers

-- Number k drains under h: it has left the tree, and h is a known head whose group stands in some set.
pub record Drains (sh : Shape) (b : Bench) (k h : ℕ) : Type 0 where
  pub no_parent : b.parent k ≡ none
  pub head_known : h < sh.actions
  pub head_drains : drains_under b h h ≡ true
  pub group_stands : stand_somewhere sh b (drains_under b h) ≡ true

-- Rules 1 to 4 of number k, and what it has to keep to where it drains.
pub record SoundNumber (sh : Shape) (b : Bench) (k : ℕ) : Type 0 where
  pub means : means_something (b.state k) ≡ true
  pub top_runs : in_tree (b.state k) ≡ true → b.parent k ≡ none → is_running (b.state k) ≡ true
  pub free_has_no_parent : is_free (b.state k) ≡ true → b.parent k ≡ none
  pub free_stands_nowhere : is_free (b.state k) ≡ true → (m i : ℕ) → m < sh.modes → i < sh.instruments → b.stands m i k ≡ false
  pub parent_known : (p : ℕ) → b.parent k ≡ some p → p < sh.actions
  pub parent_in_tree : (p : ℕ) → b.parent k ≡ some p → in_tree (b.state p) ≡ true
  pub ends_at_top : reaches_top (sh.actions - 1) b.parent k ≡ true
  pub parent_runs : is_running (b.state k) ≡ true → (p : ℕ) → b.parent k ≡ some p → is_running (b.state p) ≡ true
  pub drains : (h : ℕ) → head_of (b.state k) ≡ some h → Drains sh b k h

-- the six tests of number k, apart
record Rules (sh : Shape) (b : Bench) (k : ℕ) : Type 0 where
  means : means_something (b.state k) ≡ true
  one : rule1 b k ≡ true
  two : rule2 sh b k ≡ true
  three : rule3 sh b k ≡ true
  four : rule4 b k ≡ true
  drainage : drains_well sh b k ≡ true

rules_apart : (sh : Shape) (b : Bench) (k : ℕ) → sound_at sh b k ≡ true → Rules sh b k
rules_apart sh b k h =
    let t1 = means_something (b.state k) && rule1 b k in
    let t2 = t1 && rule2 sh b k in
    let t3 = t2 && rule3 sh b k in
    let t4 = t3 && rule4 b k in
    let h4 = and_left t4 (drains_well sh b k) h in
    let h3 = and_left t3 (rule4 b k) h4 in
    let h2 = and_left t2 (rule3 sh b k) h3 in
    let h1 = and_left t1 (rule2 sh b k) h2 in
    record {
      means = and_left (means_something (b.state k)) (rule1 b k) h1;
      one = and_right (means_something (b.state k)) (rule1 b k) h1;
      two = and_right t1 (rule2 sh b k) h2;
      three = and_right t2 (rule3 sh b k) h3;
      four = and_right t3 (rule4 b k) h4;
      drainage = and_right t4 (drains_well sh b k) h;
    }

pub sound_facts : (sh : Shape) (b : Bench) → sound sh b ≡ true → (k : ℕ) → k < sh.actions → SoundNumber sh b k
unfolding sound stands_nowhere
sound_facts sh b ok k l =
    record {
      means = r.means;
      top_runs = λ u e. implies (is_top b k) (is_running (b.state k)) r.one (rw (u, e));
      free_has_no_parent = λ u. from_none (b.parent k) (and_left no_parent (stands_nowhere sh b k) (free u));
      free_stands_nowhere = λ u m i lm li.
          not-true (b.stands m i k)
          (all_at sh.instruments (λ i. not (b.stands m i k))
          (all_at sh.modes (λ m. all sh.instruments (λ i. not (b.stands m i k))) (and_right no_parent (stands_nowhere sh b k) (free u)) m lm)
          i
          li);
      parent_known = λ p e. ltb-true p sh.actions (and_left (ltb p sh.actions) (in_tree (b.state p)) (parent p e));
      parent_in_tree = λ p e. and_right (ltb p sh.actions) (in_tree (b.state p)) (parent p e);
      ends_at_top = and_right parent_fits ends r.three;
      parent_runs = λ u. from_at (b.parent k) (λ p. is_running (b.state p)) (implies (is_running (b.state k)) parent_running r.four u);
      drains = λ h e.
          let t = from_at (head_of (b.state k)) (λ x. has_no_parent b k && head_fits x) r.drainage h e in
          let fits = and_right (has_no_parent b k) (head_fits h) t in
          let group = and_right (ltb h sh.actions) (head_drains h && group_stands h) fits in
          record {
            no_parent = from_none (b.parent k) (and_left (has_no_parent b k) (head_fits h) t);
            head_known = ltb-true h sh.actions (and_left (ltb h sh.actions) (head_drains h && group_stands h) fits);
            head_drains = and_left (head_drains h) (group_stands h) group;
            group_stands = and_right (head_drains h) (group_stands h) group;
          };
    }
  where
    r : Rules sh b k
    r = rules_apart sh b k (all_at sh.actions (sound_at sh b) ok k l)

    no_parent : Bool
    no_parent = has_no_parent b k

    parent_fits : Bool
    parent_fits = from (b.parent k) true (λ p. ltb p sh.actions && in_tree (b.state p))

    parent_running : Bool
    parent_running = from (b.parent k) true (λ p. is_running (b.state p))

    ends : Bool
    ends = reaches_top (sh.actions - 1) b.parent k

    free : is_free (b.state k) ≡ true → (no_parent && stands_nowhere sh b k) ≡ true
    free = implies (is_free (b.state k)) (no_parent && stands_nowhere sh b k) r.two

    parent : (p : ℕ) → b.parent k ≡ some p → (ltb p sh.actions && in_tree (b.state p)) ≡ true
    parent = from_at (b.parent k) (λ p. ltb p sh.actions && in_tree (b.state p)) (and_left parent_fits ends r.three)

    head_drains : ℕ → Bool
    head_drains h = drains_under b h h

    group_stands : ℕ → Bool
    group_stands h = stand_somewhere sh b (drains_under b h)

    head_fits : ℕ → Bool
    head_fits h = ltb h sh.actions && (head_drains h && group_stands h)

pub sound_from : (sh : Shape) (b : Bench) → ((k : ℕ) → k < sh.actions → SoundNumber sh b k) → sound sh b ≡ true
unfolding sound stands_nowhere
sound_from sh b facts = all_by sh.actions (sound_at sh b) (λ k l. rules_together k (facts k l))
  where
    one : (k : ℕ) → SoundNumber sh b k → rule1 b k ≡ true
    one k f =
        implied (is_top b k) (is_running (b.state k))
        (λ h. f.top_runs (and_left (in_tree (b.state k)) (has_no_parent b k) h)
        (from_none (b.parent k) (and_right (in_tree (b.state k)) (has_no_parent b k) h)))

    two : (k : ℕ) → SoundNumber sh b k → rule2 sh b k ≡ true
    two k f =
        implied (is_free (b.state k)) (has_no_parent b k && stands_nowhere sh b k)
        (λ u. rw (f.free_has_no_parent u)
        (all_by sh.modes (λ m. all sh.instruments (λ i. not (b.stands m i k)))
        (λ m lm. all_by sh.instruments (λ i. not (b.stands m i k)) (λ i li. rw (f.free_stands_nowhere u m i lm li)))))

    three : (k : ℕ) → SoundNumber sh b k → rule3 sh b k ≡ true
    three k f =
        and_both (from (b.parent k) true (λ p. ltb p sh.actions && in_tree (b.state p))) (reaches_top (sh.actions - 1) b.parent k)
        (from_by (b.parent k) (λ p. ltb p sh.actions && in_tree (b.state p))
        (λ p e. rw (lt-ltb p sh.actions (f.parent_known p e), f.parent_in_tree p e)))
        f.ends_at_top

    four : (k : ℕ) → SoundNumber sh b k → rule4 b k ≡ true
    four k f =
        implied (is_running (b.state k)) (from (b.parent k) true (λ p. is_running (b.state p)))
        (λ u. from_by (b.parent k) (λ p. is_running (b.state p)) (f.parent_runs u))

    drainage : (k : ℕ) → SoundNumber sh b k → drains_well sh b k ≡ true
    drainage k f =
        from_by (head_of (b.state k))
        (λ h. has_no_parent b k && (ltb h sh.actions && (drains_under b h h && stand_somewhere sh b (drains_under b h))))
        (λ h e. let d = f.drains h e in rw (d.no_parent, lt-ltb h sh.actions d.head_known, d.head_drains, d.group_stands))

    rules_together : (k : ℕ) → SoundNumber sh b k → sound_at sh b k ≡ true
    rules_together k f = rw (f.means, one k f, two k f, three k f, four k f, drainage k f)

-- ---- groups

-- k drains under h where h is its head
pub drains_under_lem : (b : Bench) (h k : ℕ) → head_of (b.state k) ≡ some h → drains_under b h k ≡ true
drains_under_lem b h k e = rw e (eq-eqb h h refl)

pub under_head : (b : Bench) (h k : ℕ) → drains_under b h k ≡ true → head_of (b.state k) ≡ some h
under_head b h k t =
    by_parent (head_of (b.state k)) (λ e. clash false (rw e at t) refl) (λ x e. e ∙ ap some (eqb-true x h (rw e at t)))

-- one of the numbers stands in a set: by an instrument, a mode and a number, and back
pub record StandsIn (sh : Shape) (b : Bench) (numbers : ℕ → Bool) (i : ℕ) : Type 0 where
  pub mode : ℕ
  pub mode_known : mode < sh.modes
  pub number : ℕ
  pub number_known : number < sh.actions
  pub stands : b.stands mode i number ≡ true
  pub is_one : numbers number ≡ true

pub stand_at_lem : (sh : Shape) (b : Bench) (numbers : ℕ → Bool) (i : ℕ) → stand_at sh b numbers i ≡ true → StandsIn sh b numbers i
unfolding stand_at
stand_at_lem sh b numbers i t =
    let m = any_at sh.modes (λ m. any sh.actions (λ k. b.stands m i k && numbers k)) t in
    let k = any_at sh.actions (λ k. b.stands m.0 i k && numbers k) m.2 in
    record {
      mode = m.0;
      mode_known = m.1;
      number = k.0;
      number_known = k.1;
      stands = and_left (b.stands m.0 i k.0) (numbers k.0) k.2;
      is_one = and_right (b.stands m.0 i k.0) (numbers k.0) k.2;
    }

pub stand_by : (sh : Shape) (b : Bench) (numbers : ℕ → Bool) (i : ℕ) → StandsIn sh b numbers i → stand_at sh b numbers i ≡ true
unfolding stand_at
stand_by sh b numbers i s =
    any_by sh.modes (λ m. any sh.actions (λ k. b.stands m i k && numbers k)) s.mode s.mode_known
    (any_by sh.actions (λ k. b.stands s.mode i k && numbers k) s.number s.number_known (rw (s.stands, s.is_one)))

pub somewhere_at : (sh : Shape) (b : Bench) (numbers : ℕ → Bool) → stand_somewhere sh b numbers ≡ true →
    (i : ℕ) × (i < sh.instruments) × StandsIn sh b numbers i
unfolding stand_somewhere
somewhere_at sh b numbers t =
    let i = any_at sh.instruments (stand_at sh b numbers) t in
    (i.0, i.1, stand_at_lem sh b numbers i.0 i.2)

pub somewhere_by : (sh : Shape) (b : Bench) (numbers : ℕ → Bool) (i : ℕ) → i < sh.instruments → StandsIn sh b numbers i → stand_somewhere sh b numbers ≡ true
unfolding stand_somewhere
somewhere_by sh b numbers i l s = any_by sh.instruments (stand_at sh b numbers) i l (stand_by sh b numbers i s)

-- Numbers that stand in a set of one bench stand in one of another that has at least their places in the sets.
pub somewhere_more : (sh : Shape) (b c : Bench) (f g : ℕ → Bool) →
    ((m i k : ℕ) → m < sh.modes → i < sh.instruments → k < sh.actions → b.stands m i k ≡ true → f k ≡ true → (c.stands m i k ≡ true) × (g k ≡ true)) →
    stand_somewhere sh b f ≡ true → stand_somewhere sh c g ≡ true
somewhere_more sh b c f g more t =
    let at = somewhere_at sh b f t in
    let s = at.2 in
    let kept = more s.mode at.0 s.number s.mode_known at.1 s.number_known s.stands s.is_one in
    somewhere_by sh c g at.0 at.1
    (record { mode = s.mode; mode_known = s.mode_known; number = s.number; number_known = s.number_known; stands = kept.0; is_one = kept.1 })

-- A group that keeps its members and their places in the sets goes on draining.
pub drains_on : (sh : Shape) (b c : Bench) (k h : ℕ) → Drains sh b k h → c.parent k ≡ none →
    ((j : ℕ) → j < sh.actions → drains_under b h j ≡ true → (head_of (c.state j) ≡ some h) × ((m i : ℕ) → b.stands m i j ≡ true → c.stands m i j ≡ true)) → Drains sh c k h
drains_on sh b c k h d top stays =
    record {
      no_parent = top;
      head_known = d.head_known;
      head_drains = drains_under_lem c h h (stays h d.head_known d.head_drains).0;
      group_stands = somewhere_more sh b c (drains_under b h) (drains_under c h)
          (λ m i j lm li lj s g. let kept = stays j lj g in (kept.1 m i s, drains_under_lem c h j kept.0))
          d.group_stands;
    }
