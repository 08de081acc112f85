-- Numbers sorted by whether they lead to one that is hit: one climb, and one number after the other of those that are asked for. A climb stops at
-- a number that is sorted, at the end, and where it meets itself, so that no number is climbed from twice. Assumes nothing.
use mathlib.Core.Path.{◌≡◌, refl, sym, ◌∙◌, ap}
use mathlib.Core.Bool.{Bool, true, false, not, ◌&&◌, ◌||◌, and-true}
use mathlib.Core.Option.{Option, none, some, none-ne-some}
use Prim.Native.Nat.{ℕ, zero, suc, ◌-◌, ◌<◌, ◌^◌}
use native.Mathlib.Omega.{arith}
use borrow.Author.Tests.{eqb-true, eq-eqb, not-true}
use lib.Bits.{bit_and}
use lib.Dec.{eqb}
use Rattle.sets.specs.Sets.{member, with, union, single, meet, difference, least, without}
use Rattle.sets.proofs.Laws.{member_empty, member_with, member_difference, member_intersection, with_inside, with_fits, union_grows_more, apart_at, meet_common, difference_add}
use Rattle.rules.proofs.Tests.{by_bool, by_or, clash, and_both, and_left, and_right, or_left, or_right}
use Rattle.tables.specs.Reach.{reaches, Reaches, Sorted, Met}
use Rattle.tables.proofs.Reaching.{by_reached, met_here, met_up}
use Rattle.tables.proofs.Taken.{Taken, least_taken}

-- one number more makes the word larger
pub with_grows : (n s k : ℕ) → k < n → member s k ≡ false → s < with n s k
with_grows n s k l out = rw (with_inside n s k l) (union_grows_more s (single k) (λ e. clash (member s k) (here e) out))
  where
    here : union s (single k) ≡ s → member s k ≡ true
    here e = ap (λ t. member t k) (sym e ∙ sym (with_inside n s k l)) ∙ member_with n s k k l ∙ or_right (member s k) (eqb k k) (eq-eqb k k refl)

-- ---- one climb

-- a number that is met for the first time
pub climb_falls : (n met x : ℕ) → met < 2 ^ n → x < n → member met x ≡ false → 2 ^ n - with n met x < 2 ^ n - met
climb_falls n met x fits l new =
    let grows = with_grows n met x l new in
    let more = with_fits n met x fits in
    omega arith

-- A climb from k that has come to x, with the numbers on the way joined to `outside`: none of them is inside, what x leads to they lead to, and their
-- parents are among them or are x.
pub record Climb (hit : ℕ → Bool) (up : ℕ → Option ℕ) (inside outside k met x : ℕ) : Type 0 where
  pub begun : (member met k || eqb k x) ≡ true
  pub keeps : (j : ℕ) → member outside j ≡ true → member met j ≡ true
  pub clear : (j : ℕ) → member met j ≡ true → member inside j ≡ false
  pub below : Reaches hit up x → (j : ℕ) → member met j ≡ true → member outside j ≡ false → Reaches hit up j
  pub on : (j p : ℕ) → member met j ≡ true → member outside j ≡ false → up j ≡ some p → (member met p || eqb p x) ≡ true

module _ (n : ℕ) (hit : ℕ → Bool) (up : ℕ → Option ℕ) (inside outside k : ℕ) (s : Sorted hit up inside outside) where
  pub climb_start : Climb hit up inside outside k outside k
  climb_start =
      record {
        begun = or_right (member outside k) (eqb k k) (eq-eqb k k refl);
        keeps = λ j m. m;
        clear = λ j m. by_bool (member inside j) (λ t. absurd (s.lost j m (s.leads j t))) (λ t. t);
        below = λ r j m out. clash (member outside j) m out;
        on = λ j p m out e. clash (member outside j) m out;
      }

  -- where the numbers on the way lead to no others, none of them leads to one that is hit
  nowhere : (met : ℕ) → ((j : ℕ) → member met j ≡ true → member inside j ≡ false) →
      ((j p : ℕ) → member met j ≡ true → member outside j ≡ false → up j ≡ some p → member met p ≡ true) → (reach j : ℕ) → member met j ≡ true → reaches reach hit up j ≡ true → ⊥
  unfolding reaches
  nowhere met clear closed zero j m r = clash (member inside j) (s.has j r) (clear j m)
  nowhere met clear closed (suc reach) j m r =
      by_bool (member outside j) (λ t. s.lost j t (suc reach, r))
      (λ out.
      by_reached hit up reach j r (λ h. clash (member inside j) (s.has j h) (clear j m))
      (λ p e q. nowhere met clear closed reach p (closed j p m out e) q))

  -- no number on the way is inside, so that they don't meet
  no_meeting : (met : ℕ) → met < 2 ^ n → ((j : ℕ) → member met j ≡ true → member inside j ≡ false) → meet met inside ≡ true → ⊥
  no_meeting met fits clear t =
      let common = meet_common n met inside fits t in
      let j = common.0 in
      clash (member inside j) (and_right (member met j) (member inside j) common.2) (clear j (and_left (member met j) (member inside j) common.2))

  module _ (met x : ℕ) (fits : met < 2 ^ n) (known : x < n) (h : Climb hit up inside outside k met x) where
    -- the climb has met itself, or a number that leads nowhere
    pub climb_met : member met x ≡ true → Met hit up inside outside k met
    climb_met again =
        record {
          begun = or_again k h.begun;
          keeps = h.keeps;
          leads = λ t. absurd (no_meeting met fits h.clear t);
          lost = λ t j m r. nowhere met h.clear (λ i p mi out e. or_again p (h.on i p mi out e)) r.0 j m r.1;
        }
      where
        or_again : (j : ℕ) → (member met j || eqb j x) ≡ true → member met j ≡ true
        or_again j t = by_or (member met j) (eqb j x) t (λ m. m) (λ e. rw (eqb-true j x e) again)

    joined : (j : ℕ) → member (with n met x) j ≡ (member met j || eqb j x)
    joined j = member_with n met x j known

    keeps_joined : (j : ℕ) → member outside j ≡ true → member (with n met x) j ≡ true
    keeps_joined j m = joined j ∙ or_left (member met j) (eqb j x) (h.keeps j m)

    below_joined : Reaches hit up x → (j : ℕ) → member (with n met x) j ≡ true → member outside j ≡ false → Reaches hit up j
    below_joined r j m out = by_or (member met j) (eqb j x) (sym (joined j) ∙ m) (λ old. h.below r j old out) (λ e. rw (eqb-true j x e) r)

    -- x is inside
    pub climb_found : member inside x ≡ true → Met hit up inside outside k (with n met x)
    climb_found t =
        record {
          begun = joined k ∙ h.begun;
          keeps = keeps_joined;
          leads = λ meets. below_joined (s.leads x t);
          lost = λ apart.
              clash (member (with n met x) x && member inside x)
              (and_both (member (with n met x) x) (member inside x) (joined x ∙ or_right (member met x) (eqb x x) (eq-eqb x x refl)) t)
              (apart_at (with n met x) inside apart x);
        }

    module _ (out : member inside x ≡ false) where
      clear_joined : (j : ℕ) → member (with n met x) j ≡ true → member inside j ≡ false
      clear_joined j m = by_or (member met j) (eqb j x) (sym (joined j) ∙ m) (h.clear j) (λ e. rw (eqb-true j x e) out)

      -- x leads to nobody
      pub climb_ends : up x ≡ none → Met hit up inside outside k (with n met x)
      climb_ends top =
          record {
            begun = joined k ∙ h.begun;
            keeps = keeps_joined;
            leads = λ t. absurd (no_meeting (with n met x) (with_fits n met x fits) clear_joined t);
            lost = λ t j m r. nowhere (with n met x) clear_joined closed r.0 j m r.1;
          }
        where
          closed : (j p : ℕ) → member (with n met x) j ≡ true → member outside j ≡ false → up j ≡ some p → member (with n met x) p ≡ true
          closed j p m away e =
              by_or (member met j) (eqb j x) (sym (joined j) ∙ m) (λ old. joined p ∙ h.on j p old away e)
              (λ q. absurd (none-ne-some p (sym top ∙ rw (eqb-true j x q) at e)))

      -- x leads to p
      pub climb_turn : (p : ℕ) → up x ≡ some p → Climb hit up inside outside k (with n met x) p
      climb_turn p e =
          record {
            begun = or_left (member (with n met x) k) (eqb k p) (joined k ∙ h.begun);
            keeps = keeps_joined;
            clear = clear_joined;
            below = λ r. below_joined (met_up hit up x p e r);
            on = λ j q m away ej.
                by_or (member met j) (eqb j x) (sym (joined j) ∙ m)
                (λ old. or_left (member (with n met x) q) (eqb q p) (joined q ∙ h.on j q old away ej))
                (λ t. or_right (member (with n met x) q) (eqb q p) (eq-eqb q p (let here : some p ≡ some q = sym e ∙ rw (eqb-true j x t) at ej in cc)));
          }

-- ---- one number after the other

-- Of the numbers asked for, those of `rest` are still to be tried; the others are sorted.
pub record Sorting (n : ℕ) (hit : ℕ → Bool) (up : ℕ → Option ℕ) (asked inside outside rest : ℕ) : Type 0 where
  pub fits : rest < 2 ^ n
  pub sorted : Sorted hit up inside outside
  pub part : (j : ℕ) → member rest j ≡ true → member asked j ≡ true
  pub tried : (j : ℕ) → member asked j ≡ true → member rest j ≡ false → (member inside j || member outside j) ≡ true

-- at the start the numbers that are hit are inside, and nobody is outside
pub sorted_start : (hit : ℕ → Bool) (up : ℕ → Option ℕ) (inside : ℕ) → ((j : ℕ) → member inside j ≡ hit j) → Sorted hit up inside 0
sorted_start hit up inside same =
    record {
      has = λ j h. same j ∙ h;
      leads = λ j m. met_here hit up j (sym (same j) ∙ m);
      lost = λ j m. clash (member 0 j) m (member_empty j);
    }

pub sorting_start : (n : ℕ) (hit : ℕ → Bool) (up : ℕ → Option ℕ) (asked inside rest : ℕ) → ((j : ℕ) → member inside j ≡ hit j) → rest < 2 ^ n →
    rest ≡ difference asked inside → Sorting n hit up asked inside 0 rest
sorting_start n hit up asked inside rest same fits e =
    record {
      fits = fits;
      sorted = sorted_start hit up inside same;
      part = λ j m. and_left (member asked j) (not (member inside j)) (sym (left j) ∙ m);
      tried = λ j m out. or_left (member inside j) (member 0 j) (only (member asked j) (member inside j) m (sym (left j) ∙ out));
    }
  where
    left : (j : ℕ) → member rest j ≡ (member asked j && not (member inside j))
    left j = rw e (member_difference asked inside j)

    only : (t u : Bool) → t ≡ true → (t && not u) ≡ false → u ≡ true
    only t true h out = refl
    only true false h out = sym out
    only false false h out = h

module _ (n : ℕ) (hit : ℕ → Bool) (up : ℕ → Option ℕ) (asked inside outside rest : ℕ) (h : Sorting n hit up asked inside outside rest) (more : rest ≡ 0 → ⊥) (k : ℕ)
    (least_k : k ≡ least n rest) where
  pub sorting_takes : Taken n rest k (without n rest (least n rest))
  sorting_takes = rw least_k (least_taken n rest h.fits more)

  module _ (met : ℕ) (m : Met hit up inside outside k met) (next : ℕ) (e : next ≡ difference rest met) (fits : next < 2 ^ n) where
    left : (j : ℕ) → member next j ≡ (member rest j && not (member met j))
    left j = rw e (member_difference rest met j)

    -- a number that isn't left was tried before, or is met
    by_tried : {P : Type 0} (j : ℕ) → member asked j ≡ true → member next j ≡ false → (member inside j ≡ true → P) → (member outside j ≡ true → P) → (member met j ≡ true → P) → P
    by_tried j a out in_it off it =
        by_bool (member met j) it
        (λ new. by_or (member inside j) (member outside j) (h.tried j a (sym (and-true (member rest j)) ∙ sym (left j ∙ ap (λ t. member rest j && not t) new) ∙ out)) in_it off)

    pub sorting_falls : next < rest
    sorting_falls =
        let both : member (bit_and rest met) k ≡ true = rw (member_intersection, sorting_takes.was, m.begun) in
        let some : bit_and rest met ≡ 0 → ⊥ = λ z. clash (member 0 k) (rw z at both) (member_empty k) in
        rw e (omega (arith, difference_add rest met))

    kept : (j : ℕ) → member next j ≡ true → member asked j ≡ true
    kept j in_next = h.part j (and_left (member rest j) (not (member met j)) (sym (left j) ∙ in_next))

    -- what was met leads to one that is hit
    pub sorting_in : meet met inside ≡ true → (grown : ℕ) → ((j : ℕ) → member grown j ≡ (member inside j || (member met j && not (member outside j)))) →
        Sorting n hit up asked grown outside next
    sorting_in meets grown members =
        record {
          fits = fits;
          sorted =
              record {
                has = λ j t. members j ∙ or_left (member inside j) (new j) (h.sorted.has j t);
                leads = λ j g.
                    by_or (member inside j) (new j) (sym (members j) ∙ g) (h.sorted.leads j)
                    (λ is_new. m.leads meets j (and_left (member met j) (not (member outside j)) is_new)
                    (not-true (member outside j) (and_right (member met j) (not (member outside j)) is_new)));
                lost = h.sorted.lost;
              };
          part = kept;
          tried = λ j a out.
              by_tried j a out (λ t. or_left (member grown j) (member outside j) (members j ∙ or_left (member inside j) (new j) t))
              (or_right (member grown j) (member outside j))
              (λ t.
              by_bool (member outside j) (or_right (member grown j) (member outside j))
              (λ away. or_left (member grown j) (member outside j) (members j ∙ or_right (member inside j) (new j) (rw (t, away)))));
        }
      where
        new : ℕ → Bool
        new j = member met j && not (member outside j)

    -- what was met doesn't
    pub sorting_out : meet met inside ≡ false → Sorting n hit up asked inside met next
    sorting_out apart =
        record {
          fits = fits;
          sorted = record { has = h.sorted.has; leads = h.sorted.leads; lost = m.lost apart };
          part = kept;
          tried = λ j a out.
              by_tried j a out (or_left (member inside j) (member met j)) (λ t. or_right (member inside j) (member met j) (m.keeps j t))
              (or_right (member inside j) (member met j));
        }
