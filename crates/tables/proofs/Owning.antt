-- The owners of a set, gathered going up from its numbers, none of them twice, of any bytes; and on a sound bench, that they are the owners by Moss's rules.
-- Assumes nothing.
use mathlib.Core.Path.{◌≡◌, refl, sym, ◌∙◌, ap}
use mathlib.Core.Bool.{Bool, true, false, not, ◌&&◌, ◌||◌, or-false}
use mathlib.Core.List.{List}
use mathlib.Core.Option.{Option, none, some, none-ne-some}
use Prim.Native.Nat.{ℕ, zero, suc, ◌+◌, ◌-◌, ◌≤◌, ◌<◌, ◌^◌}
use native.Mathlib.Omega.{arith}
use borrow.Author.Tests.{eqb-true, eq-eqb, ne_eqb, not-true, ltb-true, ltb-false, leb-true, leb-false}
use lib.Dec.{eqb, leb, ltb}
use lib.ListN.{get_or}
use Rattle.sets.specs.Sets.{member, with, difference, least}
use Rattle.sets.proofs.Laws.{member_empty, member_with, member_difference, member_inside, with_outside, with_fits, difference_fits}
use Rattle.rules.specs.Tests.{any, from}
use Rattle.rules.specs.Bench.{head_of}
use Rattle.rules.specs.Owners.{heir, is_owner}
use Rattle.rules.specs.Sound.{sound}
use Rattle.rules.proofs.Tests.{by_bool, by_parent, by_or, clash, same, and_left, and_right, and_both, or_left, or_right, any_at, any_by, any_cong}
use Rattle.rules.proofs.Facts.{sound_facts}
use Rattle.rules.proofs.SetForm.{eqb_comm}
use Rattle.rules.proofs.Walks.{heir_drains}
use Rattle.tables.specs.Table.{Layout, Table, view}
use Rattle.tables.specs.Tree.{up_of, known_up, tree, tree_shape}
use Rattle.tables.specs.Reach.{reaches, Reaches, waits_for, holds_for, owns_set}
use Rattle.tables.proofs.States.{tree_byte, means_byte, head_byte, byte_head}
use Rattle.tables.proofs.ViewLaws.{tree_sound, heir_shown}
use Rattle.tables.proofs.Named.{up_byte}
use Rattle.tables.proofs.Lines.{up_known}
use Rattle.tables.proofs.Heirs.{met_nearest, nearest_heir}
use Rattle.tables.proofs.Held.{waits_up, waits_known}
use Rattle.tables.proofs.Reaching.{by_reached, met_here, met_up, reaches_soon}
use Rattle.tables.proofs.Sorting.{climb_falls}
use Rattle.tables.proofs.Taken.{least_taken}

-- ---- whom a number holds for, by its state's byte

module _ (states : List ℕ) (h k : ℕ) where
  pub holds_itself : get_or states k 0 ≡ 1 → holds_for states h k ≡ eqb k h
  holds_itself e = rw (e, ne_eqb 1 (3 + h) (λ q. absurd (omega arith))) (or-false (eqb k h))

  pub holds_nothing : (get_or states k 0 ≡ 1 → ⊥) → get_or states k 0 < 3 → holds_for states h k ≡ false
  holds_nothing e l = rw (ne_eqb (get_or states k 0) 1 e, ne_eqb (get_or states k 0) (3 + h) (λ q. absurd (omega arith)))

  pub holds_for_head : (x : ℕ) → get_or states k 0 ≡ 3 + x → holds_for states h k ≡ eqb x h
  holds_for_head x e = rw (e, ne_eqb (3 + x) 1 (λ one. absurd (omega arith))) same_head
    where
      same_head : eqb (3 + x) (3 + h) ≡ eqb x h
      same_head =
          same (eqb (3 + x) (3 + h)) (eqb x h) (λ s. let q = eqb-true (3 + x) (3 + h) s in eq-eqb x h (omega arith))
          (λ s. let q = eqb-true x h s in eq-eqb (3 + x) (3 + h) (omega arith))

-- ---- the owners of a set, gathered

-- a number of the table in a set with x, where x may be none of the table's
with_known : (n s x j : ℕ) → j < n → member (with n s x) j ≡ (member s j || eqb j x)
with_known n s x j l =
    by_bool (ltb x n) (λ t. member_with n s x j (ltb-true x n t))
    (λ t. let out = ltb-false x n t in
    rw (with_outside n s x out, ne_eqb j x (λ e. absurd (omega arith))) (sym (or-false (member s j))))

module _ (n : ℕ) (parents states : List ℕ) where
  abbrev up : ℕ → Option ℕ
  up = waits_for n parents states

  -- h owns the set: some number of it leads to one that holds for h
  abbrev Owns : ℕ → ℕ → Type 0
  Owns set h = (k : ℕ) × (k < n) × (member set k ≡ true) × Reaches (holds_for states h) up k

  -- The numbers passed and those of `rest`, which are still to be passed, are led to by numbers of the set; `owners` are those that the passed ones hold for.
  pub record Owning (set owners passed rest : ℕ) : Type 0 where
    pub owners_fit : owners < 2 ^ n
    pub passed_fit : passed < 2 ^ n
    pub rest_fits : rest < 2 ^ n
    pub apart : (j : ℕ) → member rest j ≡ true → member passed j ≡ false
    pub begun : (j : ℕ) → member set j ≡ true → (member passed j || member rest j) ≡ true
    pub on : (j p : ℕ) → member passed j ≡ true → up j ≡ some p → (member passed p || member rest p) ≡ true
    pub held : (j h : ℕ) → h < n → member passed j ≡ true → holds_for states h j ≡ true → member owners h ≡ true
    pub only : (h : ℕ) → member owners h ≡ true → Owns set h
    pub below : (j h : ℕ) → member rest j ≡ true → Reaches (holds_for states h) up j → Owns set h

  pub owning_start : (set : ℕ) → set < 2 ^ n → 0 < 2 ^ n → Owning set 0 0 set
  owning_start set fits room =
      record {
        owners_fit = room;
        passed_fit = room;
        rest_fits = fits;
        apart = λ j m. member_empty j;
        begun = λ j m. or_right (member 0 j) (member set j) m;
        on = λ j p m e. clash (member 0 j) m (member_empty j);
        held = λ j h l m t. clash (member 0 j) m (member_empty j);
        only = λ h m. clash (member 0 h) m (member_empty h);
        below = λ j h m r. (j, member_inside n set j fits m, m, r);
      }

  module _ (set owners passed rest : ℕ) (g : Owning set owners passed rest) where
    -- where none is left, these are the owners
    pub owning_end : rest ≡ 0 → (h : ℕ) → h < n → member owners h ≡ owns_set n parents states set h
    unfolding reaches
    owning_end e h l =
        same (member owners h) (owns_set n parents states set h)
        (λ m. let o = g.only h m in
        any_by n leads o.0 o.1 (and_both (member set o.0) (reaches (n - 1) (holds_for states h) up o.0) o.2
        (reaches_soon (holds_for states h) up n (waits_known n parents states) o.0 o.1 o.3)))
        (λ t. let found = any_at n leads t in
        let k = found.0 in
        gathered (n - 1) k (left k (g.begun k (and_left (member set k) (reaches (n - 1) (holds_for states h) up k) found.2)))
        (and_right (member set k) (reaches (n - 1) (holds_for states h) up k) found.2))
      where
        leads : ℕ → Bool
        leads k = member set k && reaches (n - 1) (holds_for states h) up k

        left : (j : ℕ) → (member passed j || member rest j) ≡ true → member passed j ≡ true
        left j t = by_or (member passed j) (member rest j) t (λ m. m) (λ m. clash (member 0 j) (rw e at m) (member_empty j))

        gathered : (reach j : ℕ) → member passed j ≡ true → reaches reach (holds_for states h) up j ≡ true → member owners h ≡ true
        gathered zero j m r = g.held j h l m r
        gathered (suc reach) j m r = by_reached (holds_for states h) up reach j r (g.held j h l m) (λ p above q. gathered reach p (left p (g.on j p m above)) q)

    -- A turn passes the least number of `rest`: whom it holds for joins the owners, and whom it waits for joins the rest, unless it was passed.
    module _ (more : rest ≡ 0 → ⊥) (k : ℕ) (least_k : k ≡ least n rest) where
      pub owning_takes : (k < n) × (member rest k ≡ true)
      owning_takes = let t = least_taken n rest g.rest_fits more in rw least_k (t.known, t.was)

      pub owning_falls : 2 ^ n - with n passed k < 2 ^ n - passed
      owning_falls = climb_falls n passed k g.passed_fit owning_takes.0 (g.apart k owning_takes.1)

      module _ (holder next : ℕ) (holds : (h : ℕ) → h < n → holds_for states h k ≡ eqb holder h) (waits : next ≡ from (up k) n (λ p. p)) where
        held_by : (h : ℕ) → h < n → holds_for states h k ≡ eqb h holder
        held_by h l = holds h l ∙ eqb_comm holder h

        passes : (j : ℕ) → member (with n passed k) j ≡ (member passed j || eqb j k)
        passes j = member_with n passed k j owning_takes.0

        leaves : (j : ℕ) → member (difference (with n rest next) (with n passed k)) j ≡ (member (with n rest next) j && not (member (with n passed k) j))
        leaves j = member_difference (with n rest next) (with n passed k) j

        -- whoever joins the rest is passed or is left
        seen : (j : ℕ) → member (with n rest next) j ≡ true → (member (with n passed k) j || member (difference (with n rest next) (with n passed k)) j) ≡ true
        seen j m = by_bool (member (with n passed k) j) (λ t. rw t) (λ t. rw t (leaves j ∙ rw (m, t)))

        still : (j : ℕ) → (member passed j || member rest j) ≡ true → (member (with n passed k) j || member (difference (with n rest next) (with n passed k)) j) ≡ true
        still j t =
            by_or (member passed j) (member rest j) t
            (λ m. or_left (member (with n passed k) j) (member (difference (with n rest next) (with n passed k)) j) (passes j ∙ or_left (member passed j) (eqb j k) m))
            (λ m. seen j (with_known n rest next j (member_inside n rest j g.rest_fits m) ∙ or_left (member rest j) (eqb j next) m))

        pub owning_turn : Owning set (with n owners holder) (with n passed k) (difference (with n rest next) (with n passed k))
        owning_turn =
            record {
              owners_fit = owners_fit_lem;
              passed_fit = with_fits n passed k g.passed_fit;
              rest_fits = difference_fits n (with n rest next) (with n passed k) rest_fits_lem;
              apart = λ j m. not-true (member (with n passed k) j) (and_right (member (with n rest next) j) (not (member (with n passed k) j)) (sym (leaves j) ∙ m));
              begun = λ j m. still j (g.begun j m);
              on = λ j p m e.
                  by_or (member passed j) (eqb j k) (sym (passes j) ∙ m) (λ old. still p (g.on j p old e))
                  (λ q. let above : up k ≡ some p = rw (eqb-true j k q) at e in
                  let here : next ≡ p = waits ∙ rw above in
                  seen p (with_known n rest next p (waits_known n parents states k p above) ∙ or_right (member rest p) (eqb p next) (eq-eqb p next (sym here))));
              held = λ j h l m t.
                  with_known n owners holder h l
                  ∙ by_or (member passed j) (eqb j k) (sym (passes j) ∙ m) (λ old. or_left (member owners h) (eqb h holder) (g.held j h l old t))
                  (λ q. or_right (member owners h) (eqb h holder) (sym (held_by h l) ∙ rw (eqb-true j k q) at t));
              only = λ h m.
                  let l = member_inside n (with n owners holder) h owners_fit_lem m in
                  by_or (member owners h) (eqb h holder) (sym (with_known n owners holder h l) ∙ m) (g.only h)
                  (λ t. g.below k h owning_takes.1 (met_here (holds_for states h) up k (held_by h l ∙ t)));
              below = λ j h m r.
                  let joined = and_left (member (with n rest next) j) (not (member (with n passed k) j)) (sym (leaves j) ∙ m) in
                  let l = member_inside n (with n rest next) j rest_fits_lem joined in
                  by_or (member rest j) (eqb j next) (sym (with_known n rest next j l) ∙ joined) (λ old. g.below j h old r)
                  (λ t. g.below k h owning_takes.1 (met_up (holds_for states h) up k j (waited j l (eqb-true j next t)) r));
            }
          where
            owners_fit_lem : with n owners holder < 2 ^ n
            owners_fit_lem = with_fits n owners holder g.owners_fit

            rest_fits_lem : with n rest next < 2 ^ n
            rest_fits_lem = with_fits n rest next g.rest_fits

            waited : (j : ℕ) → j < n → j ≡ next → up k ≡ some j
            waited j l e =
                by_parent (up k) (λ nobody. let out : j ≡ n = e ∙ waits ∙ rw nobody in absurd (omega arith))
                (λ p above. let here : j ≡ p = e ∙ waits ∙ rw above in above ∙ ap some (sym here))

-- ---- on a sound bench

-- where nobody is waited for, one is met here or not at all
met_alone : (hit : ℕ → Bool) (up : ℕ → Option ℕ) (reach k : ℕ) → up k ≡ none → reaches reach hit up k ≡ hit k
unfolding reaches
met_alone hit up zero k e = refl
met_alone hit up (suc reach) k e = rw e (or-false (hit k))

module _ (layout : Layout) (t : Table) (ok : sound layout.shape (view layout t) ≡ true) where
  abbrev n : ℕ
  n = layout.shape.actions

  abbrev byte : ℕ → ℕ
  byte k = get_or t.states k 0

  -- k is one of the table's numbers and doesn't drain; neither does its parent
  abbrev Undrained : ℕ → Type 0
  Undrained k = (k < n) × (byte k ≤ 2)

  parent_undrained : (k p : ℕ) → Undrained k → known_up n t.parents k ≡ some p → Undrained p
  parent_undrained k p u e =
      let parent : up_of t.parents k ≡ some p = sym (up_known n t.parents (t.states, tree_sound layout t ok) k u.0) ∙ e in
      let rooted = (sound_facts (tree_shape n) (tree t.parents t.states) (tree_sound layout t ok) k u.0).parent_in_tree p parent in (
        (up_byte n t.parents k p e).1,
        by_or (eqb (byte p) 1) (eqb (byte p) 2) (sym (tree_byte (byte p)) ∙ rooted)
            (λ s. let one = eqb-true (byte p) 1 s in omega arith)
            (λ s. let two = eqb-true (byte p) 2 s in omega arith),
      )

  -- what a number stands in is its heir's
  pub holds_for_heir : (k h : ℕ) → k < n →
      from (heir layout.shape (view layout t) k) false (λ x. eqb x h) ≡ reaches (n - 1) (holds_for t.states h) (waits_for n t.parents t.states) k
  holds_for_heir k h l =
      by_parent (head_of ((view layout t).state k))
      (λ e. rw (heir_shown layout t k e, ← nearest_heir n t.parents t.states (tree_sound layout t ok) k l)
      (sym (rw counted at (met_nearest n t.parents t.states (holds_for t.states h) (λ x. eqb x h) Undrained parent_undrained (λ j u. holds_itself t.states h j) (λ j u e. holds_nothing t.states h j e (let low = u.1 in omega arith)) (n - 1) k (l, low e)))))
      (λ x e.
      let named = (head_byte n (byte k) x e).0 in
      let top = ((sound_facts layout.shape (view layout t) ok k l).drains x e).no_parent in
      rw (heir_drains layout.shape (view layout t) ok k x e)
      (sym (met_alone (holds_for t.states h) (waits_for n t.parents t.states) (n - 1) k
      (waits_up n t.parents t.states k (λ one. absurd (omega arith)) ∙ up_known n t.parents (t.states, tree_sound layout t ok) k l ∙ top)
      ∙ holds_for_head t.states h k x named)))
    where
      counted : suc (n - 1) ≡ n
      counted = omega arith

      low : head_of ((view layout t).state k) ≡ none → byte k ≤ 2
      low e =
          by_bool (leb (byte k) 2) (leb-true (byte k) 2)
          (λ s.
          let above = leb-false (byte k) 2 s in
          let below = ltb-true (byte k) (3 + n) (sym (means_byte n (byte k)) ∙ (sound_facts layout.shape (view layout t) ok k l).means) in
          absurd (none-ne-some (byte k - 3) (sym e ∙ byte_head n (byte k) (byte k - 3) (omega arith) (omega arith))))

  -- so owners are told by bytes
  pub owner_told : (m i h : ℕ) → is_owner layout.shape (view layout t) m i h ≡ any n (λ k. layout.holds (t.sets m) i k && reaches (n - 1) (holds_for t.states h) (waits_for n t.parents t.states) k)
  unfolding is_owner
  owner_told m i h =
      any_cong n (λ k. layout.holds (t.sets m) i k && from (heir layout.shape (view layout t) k) false (λ x. eqb x h))
      (λ k. layout.holds (t.sets m) i k && reaches (n - 1) (holds_for t.states h) (waits_for n t.parents t.states) k)
      (λ k l. ap (λ u. layout.holds (t.sets m) i k && u) (holds_for_heir k h l))
