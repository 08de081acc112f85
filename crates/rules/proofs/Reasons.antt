-- Who stands in the way (document 02, orders 1 and 2), for any number of actions, instruments and modes and any table of conflicts: whom each answer names,
-- that all answers but 0 and 7 name somebody, and what is said of an owner that blocks. Assumes nothing.
use Rattle.std.specs.Prelude.{if◌then◌else◌}
use mathlib.Core.Path.{◌≡◌, refl, sym, ◌∙◌, ap, subst}
use mathlib.Core.Bool.{Bool, true, false, not, ◌&&◌, ◌||◌}
use mathlib.Core.Option.{Option, none, some, none-ne-some}
use Prim.Native.Nat.{ℕ, zero, suc, ◌≤◌, ◌<◌}
use native.Mathlib.Omega.{arith}
use lib.Dec.{eqb}
use borrow.Author.Tests.{eq-eqb, le-leb, lt-leb, ne_eqb, leb-false, not-true}
use Rattle.rules.specs.Tests.{◌⇒◌, all, any, from}
use Rattle.rules.specs.Bench.{Shape, State, free, running, committed, draining, meaningless, Bench, is_free, is_running, head_of}
use Rattle.rules.specs.Owners.{is_child, is_ancestor, nearest, heir, is_owner, is_asker_or_ancestor, granted, has_running_child, drains_under, stand_at}
use Rattle.rules.specs.Sound.{sound}
use Rattle.rules.specs.Requests.{Request, open_top, open_sub, ask, commit, abort, quiet}
use Rattle.rules.specs.Answers.{too_high, no_instrument, row_by, row, answer_of}
use Rattle.rules.specs.SetForm.{granted_by_owners}
use Rattle.rules.specs.Reasons.{smallest, offending, is_running_child, child, blocks, blocker, named, owns_asked, reason_for, reason_of}
use Rattle.rules.proofs.Tests.{by_bool, by_parent, clash, and_left, and_right, and_both, by_or, or_left, or_right, or_fails_left, or_fails_right, implied, all_by, any_at, any_by, any_none}
use Rattle.rules.proofs.Smallest.{IsSmallest, smallest_is, smallest_found}
use Rattle.rules.proofs.Facts.{sound_facts}
use Rattle.rules.proofs.SetForm.{there_is, owner_heir, owner_form}

-- ---- what an answer says

-- what holds of every row that can be chosen holds of the one that is
row_step : (P : ℕ → Type 0) (t : Bool) (x y n : ℕ) → (t ≡ true → P x) → (t ≡ false → y ≡ n → P n) → (if t then x else y) ≡ n → P n
row_step P true x y n here later e = subst P e (here refl)
row_step P false x y n here later e = later refl e

-- The number offends as the answer says: 1 it is too high, 2 it is no instrument, 3 it isn't free, 4 it isn't running.
abbrev pub offends : Shape → Bench → ℕ → ℕ → Bool
offends sh b answer k =
    if eqb answer 1 then too_high sh k
    else if eqb answer 2 then no_instrument sh k
    else if eqb answer 3 then not (is_free (b.state k))
    else not (is_running (b.state k))

-- the acting number: a, or p in open sub
abbrev pub acting : Request → ℕ
acting (open_top n) = n
acting (open_sub n p) = p
acting (ask m a i) = a
acting (commit a) = a
acting (abort a) = a
acting (quiet a i) = a

-- k is the smallest running child of a.
pub record SmallestChild (sh : Shape) (b : Bench) (a k : ℕ) : Type 0 where
  pub known : k < sh.actions
  pub runs : is_running (b.state k) ≡ true
  pub parent : b.parent k ≡ some a
  pub first : (j : ℕ) → j < k → is_running (b.state j) ≡ true → b.parent j ≡ some a → ⊥

-- h runs or drains, owns instrument i in a mode that conflicts with m, and is neither the asker a nor an ancestor of it.
pub record Blocker (sh : Shape) (b : Bench) (m a i h : ℕ) : Type 0 where
  pub known : h < sh.actions
  pub runs_or_drains : (is_running (b.state h) || drains_under b h h) ≡ true
  pub mode : ℕ
  pub mode_known : mode < sh.modes
  pub conflicts : sh.conflict m mode ≡ true
  pub owns : is_owner sh b mode i h ≡ true
  pub not_asker : h ≡ a → ⊥
  pub not_ancestor : is_ancestor sh b h a ≡ false

-- The request asks for mode m of instrument i for a, both of the table, and isn't granted it.
pub record Refused (sh : Shape) (b : Bench) (r : Request) : Type 0 where
  pub m : ℕ
  pub a : ℕ
  pub i : ℕ
  pub is : r ≡ ask m a i
  pub known : a < sh.actions
  pub instrument_known : i < sh.instruments
  pub not_granted : granted sh b m a i ≡ false

-- The request says that instrument i is quiet for a, both of the table, and a doesn't drain under itself or its group isn't in i's sets.
pub record NoGroupThere (sh : Shape) (b : Bench) (r : Request) : Type 0 where
  pub a : ℕ
  pub i : ℕ
  pub is : r ≡ quiet a i
  pub known : a < sh.actions
  pub instrument_known : i < sh.instruments
  pub no_group : (drains_under b a a && stand_at sh b (drains_under b a) i) ≡ false

-- What a row says of its request: it is accepted, its number offends, the acting number has a running child, it is refused, or nothing drains there.
data Told (sh : Shape) (b : Bench) (r : Request) (n : ℕ) : Type 0 where
  accepts : n ≡ 0 → Told sh b r n
  offended : 0 < n → n ≤ 4 → offends sh b n (offending sh r n) ≡ true → Told sh b r n
  busy : n ≡ 5 → acting r < sh.actions → has_running_child sh b (acting r) ≡ true → child sh b r ≡ smallest sh.actions (is_running_child b (acting r)) → Told sh b r n
  refuses : n ≡ 6 → Refused sh b r → Told sh b r n
  rests : n ≡ 10 → NoGroupThere sh b r → Told sh b r n

-- one of two tests fails, so not both hold
not_both : (s t : Bool) → (not s || not t) ≡ true → (s && t) ≡ false
not_both true t h = not-true t h
not_both false t h = refl

-- the heir found is running
nearest_runs : (n : ℕ) (state : ℕ → State) (up : ℕ → Option ℕ) (k h : ℕ) → nearest n state up k ≡ some h → is_running (state h) ≡ true
unfolding nearest
nearest_runs zero state up k h e = absurd (none-ne-some h e)
nearest_runs (suc n) state up k h e =
    by_bool (is_running (state k))
    (λ t. let q : k ≡ h = (let here : some k ≡ some h = rw t at e in cc) in rw q at t)
    (λ t.
    by_parent (up k) (λ top. absurd (none-ne-some h (rw (t, top) at e)))
    (λ p parent. nearest_runs n state up p h (rw (t, parent) at e)))

-- of a number that runs or drains under itself: one and not both
runs_unless_drains : (s : State) (h : ℕ) → (is_running s || from (head_of s) false (λ x. eqb x h)) ≡ true → is_running s ≡ not (from (head_of s) false (λ x. eqb x h))
runs_unless_drains free h t = clash false t refl
runs_unless_drains running h t = refl
runs_unless_drains committed h t = clash false t refl
runs_unless_drains (draining x) h t = rw t
runs_unless_drains (meaningless n) h t = clash false t refl

module _ (sh : Shape) (b : Bench) where
  -- an answer other than 7 is a row of a sound bench
  pub answer_row : (r : Request) (n : ℕ) → answer_of sh b r ≡ n → (n ≡ 7 → ⊥) → (sound sh b ≡ true) × (row sh b r ≡ n)
  unfolding answer_of
  answer_row r n e other =
      by_bool (sound sh b) (λ ok. (ok, rw ok at e)) (λ not_ok. absurd (other (sym (rw not_ok at e))))

  row_told : (r : Request) (n : ℕ) → row sh b r ≡ n → Told sh b r n
  unfolding row_by offending child
  row_told (open_top k) n =
      row_step (Told sh b (open_top k)) (too_high sh k) 1 _ n (offended (omega arith) (omega arith))
      (λ not1. row_step (Told sh b (open_top k)) (not (is_free (b.state k))) 3 0 n (offended (omega arith) (omega arith)) (λ not3 e. accepts (sym e)))
  row_told (open_sub k p) n =
      row_step (Told sh b (open_sub k p)) (too_high sh k || too_high sh p) 1 _ n
      (λ t. offended (omega arith) (omega arith)
      (by_bool (too_high sh k) (λ u. rw u u) (λ u. rw u (by_or (too_high sh k) (too_high sh p) t (λ v. clash (too_high sh k) v u) (λ v. v)))))
      (λ not1. row_step (Told sh b (open_sub k p)) (not (is_free (b.state k))) 3 _ n (offended (omega arith) (omega arith))
      (λ not3. row_step (Told sh b (open_sub k p)) (not (is_running (b.state p))) 4 0 n (offended (omega arith) (omega arith)) (λ not4 e. accepts (sym e))))
  row_told (ask m a i) n =
      row_step (Told sh b (ask m a i)) (too_high sh a) 1 _ n (offended (omega arith) (omega arith))
      (λ not1. row_step (Told sh b (ask m a i)) (no_instrument sh i) 2 _ n (offended (omega arith) (omega arith))
      (λ not2. row_step (Told sh b (ask m a i)) (not (is_running (b.state a))) 4 _ n (offended (omega arith) (omega arith))
      (λ not4. row_step (Told sh b (ask m a i)) (has_running_child sh b a) 5 _ n (λ t. busy refl (leb-false sh.actions a not1) t refl)
      (λ not5. row_step (Told sh b (ask m a i)) (not (granted sh b m a i)) 6 0 n
      (λ t. refuses refl
      (record {
        m = m;
        a = a;
        i = i;
        is = refl;
        known = leb-false sh.actions a not1;
        instrument_known = leb-false sh.instruments i not2;
        not_granted = not-true (granted sh b m a i) t;
      }))
      (λ not6 e. accepts (sym e))))))
  row_told (commit a) n =
      row_step (Told sh b (commit a)) (too_high sh a) 1 _ n (offended (omega arith) (omega arith))
      (λ not1. row_step (Told sh b (commit a)) (not (is_running (b.state a))) 4 _ n (offended (omega arith) (omega arith))
      (λ not4. row_step (Told sh b (commit a)) (has_running_child sh b a) 5 0 n (λ t. busy refl (leb-false sh.actions a not1) t refl) (λ not5 e. accepts (sym e))))
  row_told (abort a) n =
      row_step (Told sh b (abort a)) (too_high sh a) 1 _ n (offended (omega arith) (omega arith))
      (λ not1. row_step (Told sh b (abort a)) (not (is_running (b.state a))) 4 0 n (offended (omega arith) (omega arith)) (λ not4 e. accepts (sym e)))
  row_told (quiet a i) n =
      row_step (Told sh b (quiet a i)) (too_high sh a) 1 _ n (offended (omega arith) (omega arith))
      (λ not1. row_step (Told sh b (quiet a i)) (no_instrument sh i) 2 _ n (offended (omega arith) (omega arith))
      (λ not2. row_step (Told sh b (quiet a i)) (not (drains_under b a a) || not (stand_at sh b (drains_under b a) i)) 10 0 n
      (λ t. rests refl
      (record {
        a = a;
        i = i;
        is = refl;
        known = leb-false sh.actions a not1;
        instrument_known = leb-false sh.instruments i not2;
        no_group = not_both (drains_under b a a) (stand_at sh b (drains_under b a) i) t;
      }))
      (λ not10 e. accepts (sym e))))

  -- so of every answer but 7
  told : (r : Request) (n : ℕ) → answer_of sh b r ≡ n → (n ≡ 7 → ⊥) → Told sh b r n
  told r n e other = row_told r n (answer_row r n e other).1

  -- ---- 0, 7 and 8 name nobody, nor does any other above 6 but 10

  pub nobody_accepted : (r : Request) → named sh b r 0 ≡ none
  unfolding named
  nobody_accepted r = refl

  pub nobody_above : (r : Request) (n : ℕ) → 6 < n → (n ≡ 10 → ⊥) → named sh b r n ≡ none
  unfolding named
  nobody_above r n l ne =
      rw (ne_eqb n 0 (λ e. omega arith), lt-leb n 4 (omega arith), ne_eqb n 5 (λ e. omega arith), ne_eqb n 6 (λ e. omega arith), ne_eqb n 10 ne)

  -- ---- 1 to 4 name the offending number

  pub offending_named : (r : Request) (n : ℕ) → 0 < n → n ≤ 4 → named sh b r n ≡ some (offending sh r n)
  unfolding named
  offending_named r n low high = rw (ne_eqb n 0 (λ e. omega arith), le-leb n 4 high)

  -- An answer from 1 to 4 names somebody, and that number offends as the answer says.
  pub offence_named : (r : Request) (n : ℕ) → answer_of sh b r ≡ n → 0 < n → n ≤ 4 → (named sh b r n ≡ some (offending sh r n)) × (offends sh b n (offending sh r n) ≡ true)
  offence_named r n e low high = (offending_named r n low high, by_row (told r n e (λ seven. omega arith)))
    where
      by_row : Told sh b r n → offends sh b n (offending sh r n) ≡ true
      by_row (accepts z) = absurd (omega arith)
      by_row (offended l h t) = t
      by_row (busy z l t c) = absurd (omega arith)
      by_row (refuses z f) = absurd (omega arith)
      by_row (rests z f) = absurd (omega arith)

  -- ---- 5 names the smallest running child

  smallest_child : (a k : ℕ) → IsSmallest sh.actions (is_running_child b a) k → SmallestChild sh b a k
  smallest_child a k s =
      record {
        known = s.known;
        runs = and_left (is_running (b.state k)) (is_child b a k) s.holds;
        parent = there_is (b.parent k) a (and_right (is_running (b.state k)) (is_child b a k) s.holds);
        first = λ j l runs parent. clash (is_running_child b a j) (rw (runs, parent) (eq-eqb a a refl)) (s.first j l);
      }

  -- what the answer 5 names, and that it names somebody
  pub child_found : (r : Request) → answer_of sh b r ≡ 5 → (k : ℕ) × (child sh b r ≡ some k) × (smallest sh.actions (is_running_child b (acting r)) ≡ some k) × (acting r < sh.actions)
  unfolding has_running_child
  child_found r e = by_row (told r 5 e (λ seven. omega arith))
    where
      by_row : Told sh b r 5 → (k : ℕ) × (child sh b r ≡ some k) × (smallest sh.actions (is_running_child b (acting r)) ≡ some k) × (acting r < sh.actions)
      by_row (accepts z) = absurd (omega arith)
      by_row (offended l h t) = absurd (omega arith)
      by_row (busy z l t c) =
          let found = smallest_found sh.actions (is_running_child b (acting r)) t in
          (found.0, c ∙ found.1, found.1, l)
      by_row (refuses z f) = absurd (omega arith)
      by_row (rests z f) = absurd (omega arith)

  -- An answer 5 names a running child of the acting number, the smallest.
  pub child_named : (r : Request) → answer_of sh b r ≡ 5 → (k : ℕ) × (named sh b r 5 ≡ some k) × SmallestChild sh b (acting r) k
  unfolding named
  child_named r e =
      let found = child_found r e in
      (found.0, found.1, smallest_child (acting r) found.0 (smallest_is sh.actions (is_running_child b (acting r)) found.0 found.2))

  -- ---- 6 names the smallest blocker

  -- only a read or a write is answered 6
  pub refused_asks : (r : Request) → answer_of sh b r ≡ 6 → Refused sh b r
  refused_asks r e = by_row (told r 6 e (λ seven. omega arith))
    where
      by_row : Told sh b r 6 → Refused sh b r
      by_row (accepts z) = absurd (omega arith)
      by_row (offended l h t) = absurd (omega arith)
      by_row (busy z l t c) = absurd (omega arith)
      by_row (refuses z f) = f
      by_row (rests z f) = absurd (omega arith)

  -- ---- 10 names a

  -- Only quiet is answered 10, where a doesn't drain under itself or its group isn't in i's sets; and the answer names a.
  pub quiet_named : (r : Request) → answer_of sh b r ≡ 10 → (f : NoGroupThere sh b r) × (named sh b r 10 ≡ some f.a)
  unfolding named offending
  quiet_named r e = let f = no_group_lem in (f, ap (λ q. some (offending sh q 10)) f.is)
    where
      by_row : Told sh b r 10 → NoGroupThere sh b r
      by_row (accepts z) = absurd (omega arith)
      by_row (offended l h t) = absurd (omega arith)
      by_row (busy z l t c) = absurd (omega arith)
      by_row (refuses z f) = absurd (omega arith)
      by_row (rests z f) = f

      no_group_lem : NoGroupThere sh b r
      no_group_lem = by_row (told r 10 e (λ seven. omega arith))

  -- ---- who blocks

  -- an owner runs, or drains under itself
  pub owner_runs_or_drains : sound sh b ≡ true → (m i h : ℕ) → is_owner sh b m i h ≡ true → (is_running (b.state h) || drains_under b h h) ≡ true
  unfolding heir
  owner_runs_or_drains ok m i h o =
      let found = owner_heir sh b ok m i h o in
      let k = found.0 in
      by_parent (head_of (b.state k))
      (λ e. or_left (is_running (b.state h)) (drains_under b h h) (nearest_runs sh.actions b.state b.parent k h (rw e at found.3)))
      (λ x e. let same : x ≡ h = (let here : some x ≡ some h = rw e at found.3 in cc) in
      or_right (is_running (b.state h)) (drains_under b h h) (rw same at ((sound_facts sh b ok k found.1).drains x e).head_drains))

  module _ (m a i : ℕ) where
    -- h owns instrument i in a mode that conflicts with m
    owns_against : ℕ → ℕ → Bool
    owns_against h held = sh.conflict m held && is_owner sh b held i h

    pub blocker_facts : sound sh b ≡ true → (h : ℕ) → h < sh.actions → blocks sh b m a i h ≡ true → Blocker sh b m a i h
    unfolding blocks is_asker_or_ancestor owns_against
    blocker_facts ok h l t =
        let owned = any sh.modes (owns_against h) in
        let found = any_at sh.modes (owns_against h) (and_left owned (not (is_asker_or_ancestor sh b a h)) t) in
        let held = found.0 in
        let owns = and_right (sh.conflict m held) (is_owner sh b held i h) found.2 in
        let apart = not-true (is_asker_or_ancestor sh b a h) (and_right owned (not (is_asker_or_ancestor sh b a h)) t) in
        record {
          known = l;
          runs_or_drains = owner_runs_or_drains ok held i h owns;
          mode = held;
          mode_known = found.1;
          conflicts = and_left (sh.conflict m held) (is_owner sh b held i h) found.2;
          owns = owns;
          not_asker = λ e. clash (eqb h a) (eq-eqb h a e) (or_fails_left (eqb h a) (is_ancestor sh b h a) apart);
          not_ancestor = or_fails_right (eqb h a) (is_ancestor sh b h a) apart;
        }

    pub facts_blocker : (h : ℕ) → Blocker sh b m a i h → blocks sh b m a i h ≡ true
    unfolding blocks is_asker_or_ancestor owns_against
    facts_blocker h f =
        and_both (any sh.modes (owns_against h)) (not (is_asker_or_ancestor sh b a h))
        (any_by sh.modes (owns_against h) f.mode f.mode_known (rw f.conflicts f.owns))
        (rw (ne_eqb h a f.not_asker, f.not_ancestor))

    -- where the rule over owners refuses, somebody blocks
    refused_blocked : i < sh.instruments → sound sh b ≡ true → granted sh b m a i ≡ false → any sh.actions (blocks sh b m a i) ≡ true
    unfolding granted_by_owners blocks owns_against
    refused_blocked li ok refusal =
        by_bool (any sh.actions (blocks sh b m a i)) (λ t. t)
        (λ nobody.
        clash (granted_by_owners sh b m a i)
        (all_by sh.modes (λ held. sh.conflict m held ⇒ all sh.actions (λ h. is_owner sh b held i h ⇒ is_asker_or_ancestor sh b a h))
        (λ held lm.
        implied (sh.conflict m held) (all sh.actions (λ h. is_owner sh b held i h ⇒ is_asker_or_ancestor sh b a h))
        (λ conflicts.
        all_by sh.actions (λ h. is_owner sh b held i h ⇒ is_asker_or_ancestor sh b a h)
        (λ h l.
        implied (is_owner sh b held i h) (is_asker_or_ancestor sh b a h)
        (λ owns.
        by_bool (is_asker_or_ancestor sh b a h) (λ t. t)
        (λ apart.
        clash (blocks sh b m a i h)
        (and_both (any sh.modes (owns_against h)) (not (is_asker_or_ancestor sh b a h)) (any_by sh.modes (owns_against h) held lm (rw conflicts owns)) (rw apart))
        (any_none sh.actions (blocks sh b m a i) nobody h l)))))))
        (owner_form sh b ok m a i li ∙ refusal))

    -- what the answer 6 names, and that it names somebody
    pub blocker_found : answer_of sh b (ask m a i) ≡ 6 → (h : ℕ) × (smallest sh.actions (blocks sh b m a i) ≡ some h)
    blocker_found e =
        let fact = refused_asks (ask m a i) e in
        let same : ask m a i ≡ ask fact.m fact.a fact.i = fact.is in
        let em : fact.m ≡ m = (cc) in
        let ea : fact.a ≡ a = (cc) in
        let ei : fact.i ≡ i = (cc) in
        smallest_found sh.actions (blocks sh b m a i)
        (refused_blocked (rw ei at fact.instrument_known) (answer_row (ask m a i) 6 e (λ seven. omega arith)).0 (rw (em, ea, ei) at fact.not_granted))

    -- An answer 6 names an owner of the instrument in a conflicting mode, running or draining, that is neither asker nor ancestor: the smallest-numbered.
    pub blocker_named : answer_of sh b (ask m a i) ≡ 6 → (h : ℕ) × (named sh b (ask m a i) 6 ≡ some h) × Blocker sh b m a i h × ((j : ℕ) → j < h → Blocker sh b m a i j → ⊥)
    unfolding named blocker
    blocker_named e =
        let found = blocker_found e in
        let s = smallest_is sh.actions (blocks sh b m a i) found.0 found.1 in (
          found.0,
          found.1,
          blocker_facts (answer_row (ask m a i) 6 e (λ seven. omega arith)).0 found.0 s.known s.holds,
          λ j l f. clash (blocks sh b m a i j) (facts_blocker j f) (s.first j l),
        )

    -- The reason says in which modes the named one owns the instrument, and that it drains exactly if it does; else it runs.
    pub reason_told : answer_of sh b (ask m a i) ≡ 6 → (h : ℕ) × (h < sh.actions) × ((reason_of sh b (some (ask m a i))).names ≡ some h) × ((held : ℕ) → (reason_of sh b (some (ask m a i))).owns held ≡ is_owner sh b held i h) × ((reason_of sh b (some (ask m a i))).drains ≡ drains_under b h h) × (is_running (b.state h) ≡ not (drains_under b h h))
    unfolding named blocker owns_asked reason_for reason_of
    reason_told e =
        let found = blocker_named e in
        let h = found.0 in
        (h, found.2.known, rw (e, found.1), λ held. rw (e, found.1), rw (e, found.1), runs_unless_drains (b.state h) h found.2.runs_or_drains)

  -- of no other answer is anything said of an owner
  pub only_blockers_told : (r : Request) (n : ℕ) → (n ≡ 6 → ⊥) → ((held : ℕ) → (reason_for sh b r n).owns held ≡ false) × ((reason_for sh b r n).drains ≡ false)
  unfolding reason_for
  only_blockers_told r n ne = (λ held. rw (ne_eqb n 6 ne), rw (ne_eqb n 6 ne))

  -- ---- all answers but 0 and 7 name somebody

  pub somebody_named : (r : Request) (n : ℕ) → answer_of sh b r ≡ n → (n ≡ 0 → ⊥) → (n ≡ 7 → ⊥) → (k : ℕ) × (named sh b r n ≡ some k)
  somebody_named r n e refused other = by_row (told r n e other)
    where
      by_row : Told sh b r n → (k : ℕ) × (named sh b r n ≡ some k)
      by_row (accepts z) = absurd (refused z)
      by_row (offended l h t) = (offending sh r n, offending_named r n l h)
      by_row (busy z l t c) = let found = child_named r (e ∙ z) in (found.0, ap (named sh b r) z ∙ found.1)
      by_row (refuses z f) =
          let found = blocker_named f.m f.a f.i (ap (answer_of sh b) (sym f.is) ∙ e ∙ z) in
          (found.0, ap (named sh b r) z ∙ ap (λ q. named sh b q 6) f.is ∙ found.1)
      by_row (rests z f) = let found = quiet_named r (e ∙ z) in (found.0.a, ap (named sh b r) z ∙ found.1)
