-- Places and groups are kept when a family is freed or aborted, and when a group goes quiet. Assumes nothing.
use Rattle.std.specs.Prelude.{if◌then◌else◌}
use mathlib.Core.Path.{◌≡◌, sym, ◌∙◌, ap}
use mathlib.Core.Bool.{true, false, not, ◌&&◌}
use mathlib.Core.List.{List}
use Prim.Native.Nat.{ℕ, ◌+◌, ◌%◌, ◌<◌, ◌^◌}
use native.Mathlib.Nat.{mod-eq_of_lt}
use native.Mathlib.Omega.{arith}
use borrow.Author.Tests.{eqb-true, eqb-false, eq-eqb, ne_eqb, not-true}
use lib.Dec.{eqb}
use lib.ListN.{length, get_or, length-set}
use lib.Seq.{get_or-set_same, get_or-set_other}
use Rattle.sets.specs.Sets.{member, difference}
use Rattle.sets.proofs.Laws.{member_empty, member_difference, member_inside}
use Rattle.rules.proofs.Tests.{by_bool, clash, and_left, and_right}
use Rattle.tables.specs.OneWord.{left_at}
use Rattle.steps.specs.Arrays.{place_of}
use Rattle.steps.specs.Changes.{bytes_put, bytes_left, sets_left, group_in, left_instrument, freed_unless}
use Rattle.steps.proofs.Clears.{bytes_put_lem, sets_left_lem}
use Rattle.steps.proofs.Gathered.{set_fits, group_members}
use Rattle.index.specs.Places.{unknown, group_at, places_at, keeper, Placed, still_in, places_of}
use Rattle.index.specs.Kept.{grouped, somewhere}
use Rattle.index.proofs.Walks.{set_same, still_has, places_have}
use Rattle.index.proofs.SoundBytes.{SoundBytes}
use Rattle.index.proofs.StandLaws.{Cover, place_by}
use Rattle.index.proofs.PlacedLaws.{keeper_low, keeper_high, keeper_apart, keeper_same, group_same, SameBeyond, own_group, own_places, other_group, other_places}

-- a place is left, so something is
left_somewhere : (still place : ℕ) → member still place ≡ true → somewhere still ≡ true
left_somewhere still place m = by_bool (eqb still 0) (λ e. clash (member still place) m (rw (eqb-true still 0 e) (member_empty place))) (λ e. rw e)

-- ---- an instrument is left

module _ (owners : List ℕ) (i gone : ℕ) where
  pub instrument_long : length (left_instrument owners i gone) ≡ length owners
  instrument_long =
      let once = left_at owners (place_of false i) gone in
      length-set once (place_of true i) (difference (get_or once (place_of true i) 0) gone)
      ∙ length-set owners (place_of false i) (difference (get_or owners (place_of false i) 0) gone)

-- who stands in a set that was left stood in it before
stood_once : (words : List ℕ) (at gone word k : ℕ) → at < length words → member (get_or (left_at words at gone) word 0) k ≡ true → member (get_or words word 0) k ≡ true
stood_once words at gone word k inside m =
    by_bool (eqb word at)
    (λ e. let same = eqb-true word at e in
    let stood : member (difference (get_or words at 0) gone) k ≡ true = rw (same, get_or-set_same words at (difference (get_or words at 0) gone) 0 inside) at m in
    rw same (and_left (member (get_or words at 0) k) (not (member gone k)) (sym (member_difference (get_or words at 0) gone k) ∙ stood)))
    (λ e. rw (get_or-set_other words at word (difference (get_or words at 0) gone) 0 (eqb-false word at e)) at m)

stood_before : (owners : List ℕ) (i gone word k : ℕ) → length owners ≡ 256 → member (get_or (left_instrument owners i gone) word 0) k ≡ true → member (get_or owners word 0) k ≡ true
stood_before owners i gone word k long m =
    stood_once owners (i % 128) gone word k (rw long (omega arith))
    (stood_once (left_at owners (i % 128) gone) (128 + i % 128) gone word k
    (rw (length-set owners (i % 128) (difference (get_or owners (i % 128) 0) gone), long) (omega arith)) m)

module _ {states owners index : List ℕ} (ok : SoundBytes states owners) (long : length index ≡ 257) (h : Placed states owners index) where
  -- the bytes of the states where numbers get another
  put_at : (numbers byte k : ℕ) → k < 64 → get_or (bytes_put numbers byte states) k 0 ≡ (if member numbers k then byte else get_or states k 0)
  put_at numbers byte k l = (bytes_put_lem numbers byte states).each k (rw ok.states_long l)

  -- ---- a family

  -- numbers of the tree, which don't drain
  module _ (gone : ℕ) (inside : (k : ℕ) → member gone k ≡ true → k < 64) (rooted : (k : ℕ) → member gone k ≡ true → get_or states k 0 < 3) where
    -- their places cover them
    pub family_covered : Cover owners gone ok.owners_long (places_of index gone)
    family_covered word k l stands one =
        let lk = inside k one in
        places_have index gone k (word % 64) lk (omega arith) one (rw (keeper_low states k (rooted k one)) at (h.covers k word lk l stands))

    -- where they get a byte, the groups of other heads stay
    other_groups : (byte k : ℕ) → (byte ≡ 3 + k % 64 → ⊥) → group_in (bytes_put gone byte states) k ≡ group_in states k
    other_groups byte k apart =
        group_same states (bytes_put gone byte states) k
        (λ j l. rw (put_at gone byte j l)
        (by_bool (member gone j)
        (λ m. let low = rooted j m in rw (m, ne_eqb byte (3 + k % 64) apart, ne_eqb (get_or states j 0) (3 + k % 64) (λ u. absurd (omega arith))))
        (λ m. rw m)))

    -- and who drains after it under itself did before
    drained_before : (byte k : ℕ) → k < 64 → (byte ≡ 3 + k → ⊥) → get_or (bytes_put gone byte states) k 0 ≡ 3 + k → get_or states k 0 ≡ 3 + k
    drained_before byte k l apart e =
        by_bool (member gone k) (λ m. absurd (apart (rw (put_at gone byte k l, m) at e))) (λ m. rw (put_at gone byte k l, m) at e)

    pub freed_placed : Placed (bytes_left gone states) (sets_left gone owners) index
    freed_placed =
        record {
          covers = λ k word lk lw m.
              let left = sets_left_lem gone owners in
              let stood : (member (get_or owners word 0) k && not (member gone k)) ≡ true =
              sym (member_difference (get_or owners word 0) gone k) ∙ rw (left.each word (rw ok.owners_long lw)) at m in
              let stays = not-true (member gone k) (and_right (member (get_or owners word 0) k) (not (member gone k)) stood) in
              let same : get_or (bytes_left gone states) k 0 ≡ get_or states k 0 = put_at gone 0 k lk ∙ ap (λ t. if t then 0 else get_or states k 0) stays in
              rw (keeper_same states k (bytes_left gone states) same) (h.covers k word lk lw (and_left (member (get_or owners word 0) k) (not (member gone k)) stood));
          groups = λ k l e known.
              h.groups k l (drained_before 0 k l (λ u. absurd (omega arith)) e) known ∙ sym (other_groups 0 k (λ u. absurd (omega arith)));
        }

    -- a is aborted with them: the places at which they stand still become those of a
    module _ (a byte : ℕ) (known : a < 64) (one : member gone a ≡ true) (runs : get_or states a 0 ≡ 1) (fits : gone < 2 ^ 64)
        (drains : somewhere (still_in owners gone (places_of index gone)) ≡ true → byte ≡ 3 + a)
        (frees : somewhere (still_in owners gone (places_of index gone)) ≡ false → byte ≡ 0)
        (stored : List ℕ) (stored_long : length stored ≡ 257) (beyond : SameBeyond index stored) where
      abbrev still : ℕ
      still = still_in owners gone (places_of index gone)

      abbrev after : List ℕ
      after = grouped a gone still stored

      -- the byte is that of no other head
      only_a : (k : ℕ) → (k ≡ a → ⊥) → byte ≡ 3 + k → ⊥
      only_a k other e =
          by_bool (somewhere still) (λ t. let b = drains t in other (omega arith)) (λ t. absurd (let b = frees t in omega arith))

      nobody_under : (k : ℕ) → k < 64 → get_or states k 0 ≡ 3 + a → ⊥
      nobody_under k l e = absurd (let u = ok.head_drains k a l e in omega arith)

      gone_covered : (k word : ℕ) → k < 64 → word < 256 → member gone k ≡ true → member (get_or owners word 0) k ≡ true →
          member (places_at after (keeper (bytes_put gone byte states) k)) (word % 64) ≡ true
      gone_covered k word lk lw m stands =
          let left = still_has owners gone (places_of index gone) (word % 64) (omega arith) (family_covered word k lw stands m)
          (place_by owners gone ok.owners_long word k lw stands m) in
          let under : get_or (bytes_put gone byte states) k 0 ≡ 3 + a =
          put_at gone byte k lk ∙ ap (λ t. if t then byte else get_or states k 0) m ∙ drains (left_somewhere still (word % 64) left) in
          rw (keeper_high (bytes_put gone byte states) k a under, own_places stored stored_long a known gone still) left

      other_covered : (k word : ℕ) → k < 64 → word < 256 → member gone k ≡ false → member (get_or owners word 0) k ≡ true →
          member (places_at after (keeper (bytes_put gone byte states) k)) (word % 64) ≡ true
      other_covered k word lk lw m stands =
          let same : get_or (bytes_put gone byte states) k 0 ≡ get_or states k 0 = put_at gone byte k lk ∙ ap (λ t. if t then byte else get_or states k 0) m in
          let apart = keeper_apart states k a (λ e. clash (member gone a) one (rw e at m)) (nobody_under k lk) in
          rw (
            keeper_same states k (bytes_put gone byte states) same,
            other_places stored stored_long a known gone still (keeper states k) apart,
            beyond.same_places (keeper states k),
          )
          (h.covers k word lk lw stands)

      own_members : get_or (bytes_put gone byte states) a 0 ≡ 3 + a → (k : ℕ) → k < 64 → member gone k ≡ eqb (get_or (bytes_put gone byte states) k 0) (3 + a % 64)
      own_members e k l =
          let b : byte ≡ 3 + a = sym (put_at gone byte a known ∙ ap (λ t. if t then byte else get_or states a 0) one) ∙ e in
          rw (mod-eq_of_lt known, put_at gone byte k l)
          (by_bool (member gone k) (λ m. rw m (sym (eq-eqb byte (3 + a) b)))
          (λ m. rw m (sym (ne_eqb (get_or states k 0) (3 + a) (nobody_under k l)))))

      pub aborted_placed : Placed (bytes_put gone byte states) owners after
      aborted_placed =
          record {
            covers = λ k word lk lw stands. by_bool (member gone k) (λ m. gone_covered k word lk lw m stands) (λ m. other_covered k word lk lw m stands);
            groups = λ k l e u.
                by_bool (eqb k a)
                (λ t. let same = eqb-true k a t in
                rw (same, own_group stored stored_long a known gone still)
                (set_same (λ j. eqb (get_or (bytes_put gone byte states) j 0) (3 + a % 64)) gone fits (own_members (rw same at e))))
                (λ t. let other = eqb-false k a t in
                let same = other_group stored stored_long a known gone still k l other ∙ beyond.same_groups k in
                same
                ∙ h.groups k l (drained_before byte k l (only_a k other) e) (λ v. u (same ∙ v))
                ∙ sym (other_groups byte k (λ v. only_a k other (v ∙ ap (λ n. 3 + n) (mod-eq_of_lt l)))));
          }

  -- ---- a group

  module _ (a i : ℕ) (known : a < 64) (drains : get_or states a 0 ≡ 3 + a) where
    abbrev group : ℕ
    group = group_in states a

    abbrev left : List ℕ
    left = left_instrument owners i group

    abbrev rest : ℕ
    rest = still_in left group (places_at index a)

    abbrev states' : List ℕ
    states' = freed_unless (somewhere rest) group states

    abbrev index' : List ℕ
    index' = grouped a group rest index

    of_group : (k : ℕ) → member group k ≡ eqb (get_or states k 0) (3 + a)
    of_group = group_members states ok.states_long a known

    pub group_covered : Cover left group (instrument_long owners i group ∙ ok.owners_long) (places_at index a)
    group_covered word k l stands one =
        let under = eqb-true (get_or states k 0) (3 + a) (sym (of_group k) ∙ one) in
        let inside = member_inside 64 group k (set_fits (λ j. eqb (get_or states j 0) (3 + a % 64)) 64) one in
        rw (keeper_high states k a under) at (h.covers k word inside l (stood_before owners i group word k ok.owners_long stands))

    -- a number of another byte keeps it
    kept_byte : (k : ℕ) → k < 64 → (get_or states k 0 ≡ 3 + a → ⊥) → get_or states' k 0 ≡ get_or states k 0
    kept_byte k l other =
        let out : member group k ≡ false = of_group k ∙ ne_eqb (get_or states k 0) (3 + a) other in
        by_bool (somewhere rest) (λ t. rw t) (λ t. rw t (put_at group 0 k l ∙ ap (λ u. if u then 0 else get_or states k 0) out))

    -- one of the group is free or keeps it
    group_byte : (k : ℕ) → k < 64 → get_or states k 0 ≡ 3 + a → (somewhere rest ≡ false → get_or states' k 0 ≡ 0)
    group_byte k l under t =
        let one : member group k ≡ true = of_group k ∙ eq-eqb (get_or states k 0) (3 + a) under in
        rw t (put_at group 0 k l ∙ ap (λ u. if u then 0 else get_or states k 0) one)

    -- where the group of another head is looked up, nothing has changed
    same_test : (k j : ℕ) → k < 64 → (k ≡ a → ⊥) → j < 64 → eqb (get_or states' j 0) (3 + k % 64) ≡ eqb (get_or states j 0) (3 + k % 64)
    same_test k j lk other l =
        by_bool (eqb (get_or states j 0) (3 + a))
        (λ t. let under = eqb-true (get_or states j 0) (3 + a) t in
        by_bool (somewhere rest) (λ u. rw u)
        (λ u. rw (group_byte j l under u, under, ne_eqb 0 (3 + k % 64) (λ v. absurd (omega arith)))
        (sym (ne_eqb (3 + a) (3 + k % 64) (λ v. other (omega arith))))))
        (λ t. rw (kept_byte j l (eqb-false (get_or states j 0) (3 + a) t)))

    pub quieted_placed : Placed states' left index'
    quieted_placed = record { covers = covered; groups = grouped_again }
      where
        covered : (k word : ℕ) → k < 64 → word < 256 → member (get_or left word 0) k ≡ true → member (places_at index' (keeper states' k)) (word % 64) ≡ true
        covered k word lk lw stands =
            by_bool (eqb (get_or states k 0) (3 + a))
            (λ t. let under = eqb-true (get_or states k 0) (3 + a) t in
            let one : member group k ≡ true = of_group k ∙ t in
            let has = still_has left group (places_at index a) (word % 64) (omega arith) (group_covered word k lw stands one)
            (place_by left group (instrument_long owners i group ∙ ok.owners_long) word k lw stands one) in
            rw (left_somewhere rest (word % 64) has, keeper_high states k a under, own_places index long a known group rest) has)
            (λ t. let apart = eqb-false (get_or states k 0) (3 + a) t in
            let other = keeper_apart states k a (λ e. apart (rw e drains)) apart in
            rw (keeper_same states k states' (kept_byte k lk apart), other_places index long a known group rest (keeper states k) other)
            (h.covers k word lk lw (stood_before owners i group word k ok.owners_long stands)))

        grouped_again : (k : ℕ) → k < 64 → get_or states' k 0 ≡ 3 + k → (group_at index' k ≡ unknown → ⊥) → group_at index' k ≡ group_in states' k
        grouped_again k l e u =
            by_bool (eqb k a)
            (λ t. let same = eqb-true k a t in
            by_bool (somewhere rest) (λ v. rw (same, v) (own_group index long a known group rest))
            (λ v. absurd (let none = group_byte a known drains v in let three : get_or states' a 0 ≡ 3 + a = rw same at e in omega arith)))
            (λ t. let other = eqb-false k a t in
            let same = other_group index long a known group rest k l other in
            let was : get_or states k 0 ≡ 3 + k =
            by_bool (eqb (get_or states k 0) (3 + a))
            (λ v. by_bool (somewhere rest) (λ w. rw w at e)
            (λ w. absurd (let none = group_byte k l (eqb-true (get_or states k 0) (3 + a) v) w in omega arith)))
            (λ v. sym (kept_byte k l (eqb-false (get_or states k 0) (3 + a) v)) ∙ e) in
            same ∙ h.groups k l was (λ v. u (same ∙ v)) ∙ sym (group_same states states' k (λ j lj. same_test k j l other lj)))
