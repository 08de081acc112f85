-- Arrays that change place by place: bytes of numbers that get another, one number at a time, and sets, one place at a time. Assumes nothing.
use Rattle.std.specs.Prelude.{if◌then◌else◌}
use mathlib.Core.Path.{◌≡◌, refl, sym, ◌∙◌}
use mathlib.Core.Bool.{Bool, true, false, and-true}
use mathlib.Core.List.{List}
use Prim.Native.Nat.{ℕ, ◌+◌, ◌≤◌, ◌<◌, ◌^◌}
use native.Mathlib.Omega.{arith}
use borrow.Author.Tests.{eqb-true, eqb-false, ltb-true, ltb-false}
use lib.Dec.{eqb, ltb}
use lib.Pow.{pow_pos}
use lib.ListN.{length, get_or, set, length-set, get_or-eq_default}
use lib.Seq.{get_or-set_same, get_or-set_other}
use Rattle.sets.specs.Sets.{member, difference}
use Rattle.sets.proofs.Laws.{member_empty, no_members, member_difference, difference_fits}
use Rattle.rules.proofs.Tests.{by_bool, refuted}
use Rattle.tables.specs.Changes.{given, kept, Changed}
use Rattle.tables.proofs.Taken.{Taken}

-- ---- places past the end

-- Where `at` makes nothing of nothing past the end, an array was changed there too.
pub changed_at : (at : ℕ → ℕ → ℕ) (before after : List ℕ) → Changed at before after → (k : ℕ) → (length before ≤ k → at k 0 ≡ 0) → get_or after k 0 ≡ at k (get_or before k 0)
changed_at at before after c k past =
    by_bool (ltb k (length before)) (λ t. c.each k (ltb-true k (length before) t))
    (λ t. let l = ltb-false k (length before) t in
    let nothing : get_or before k 0 ≡ 0 = get_or-eq_default before 0 l in
    get_or-eq_default after 0 (rw c.long l) ∙ rw (nothing, past l))

-- so where bytes of numbers of the array get another
pub given_at : (numbers : ℕ → Bool) (value : ℕ) (before after : List ℕ) → Changed (given numbers value) before after → ((k : ℕ) → numbers k ≡ true → k < length before) → (k : ℕ) →
    get_or after k 0 ≡ given numbers value k (get_or before k 0)
given_at numbers value before after c known k =
    changed_at (given numbers value) before after c k
    (λ past. rw (refuted (numbers k) (λ u. let l = known k u in omega arith)))

-- and where numbers go
pub kept_at : (gone : ℕ → Bool) (before after : List ℕ) → Changed (kept gone) before after → (k : ℕ) → get_or after k 0 ≡ kept gone k (get_or before k 0)
kept_at gone before after c k = changed_at (kept gone) before after c k (λ past. nothing_kept (gone k))
  where
    nothing_kept : (t : Bool) → ◌≡◌ {A = ℕ} (if t then 0 else 0) 0
    nothing_kept true = refl
    nothing_kept false = refl

-- no numbers are left of none
pub difference_empty : (gone : ℕ) → difference 0 gone ≡ 0
difference_empty gone =
    no_members 0 (difference 0 gone) (difference_fits 0 0 gone (pow_pos 0))
    (λ k l. rw (member_difference, member_empty))

-- ---- bytes

-- When the numbers that are left get another byte, the array is as when all numbers get it at the start.
pub record Going (n value : ℕ) (bytes₀ : List ℕ) (gone : ℕ) (bytes : List ℕ) (rest : ℕ) : Type 0 where
  pub fits : rest < 2 ^ n
  pub long : length bytes ≡ length bytes₀
  pub left : (k : ℕ) → k < length bytes₀ → given (member rest) value k (get_or bytes k 0) ≡ given (member gone) value k (get_or bytes₀ k 0)

module _ (n value : ℕ) where
  pub going_start : (bytes : List ℕ) (gone : ℕ) → gone < 2 ^ n → Going n value bytes gone bytes gone
  going_start bytes gone fits = record { fits = fits; long = refl; left = λ k l. refl }

  pub going_turn : (bytes₀ : List ℕ) (gone : ℕ) (bytes : List ℕ) (rest k next : ℕ) → Going n value bytes₀ gone bytes rest → Taken n rest k next →
      Going n value bytes₀ gone (set bytes k value) next
  going_turn bytes₀ gone bytes rest k next h t =
      record {
        fits = t.fits;
        long = length-set bytes k value ∙ h.long;
        left = λ j l. by_bool (eqb j k) (λ e. itself j l (eqb-true j k e)) (other j) ∙ h.left j l;
      }
    where
      same_either : (t : Bool) → ◌≡◌ {A = ℕ} (if t then value else value) value
      same_either true = refl
      same_either false = refl

      itself : (j : ℕ) → j < length bytes₀ → j ≡ k → given (member next) value j (get_or (set bytes k value) j 0) ≡ given (member rest) value j (get_or bytes j 0)
      itself j l e =
          let inside : k < length bytes = (let long = h.long in omega arith) in
          rw (e, get_or-set_same bytes k value 0 inside, t.was) (same_either (member next k))

      other : (j : ℕ) → eqb j k ≡ false → given (member next) value j (get_or (set bytes k value) j 0) ≡ given (member rest) value j (get_or bytes j 0)
      other j e = rw (get_or-set_other bytes k j value 0 (eqb-false j k e), t.members j, e, and-true)

  pub going_end : (bytes₀ : List ℕ) (gone : ℕ) (bytes : List ℕ) (rest : ℕ) → rest ≡ 0 → Going n value bytes₀ gone bytes rest → Changed (given (member gone) value) bytes₀ bytes
  going_end bytes₀ gone bytes rest e h =
      record { long = h.long; each = λ k l. sym (rw (e, member_empty k)) ∙ h.left k l }

-- ---- words

-- Below i each word is what `at` makes of it; from i on the words are as at the start. There are `count` words.
pub record ClearedTo (count : ℕ) (at : ℕ → ℕ → ℕ) (words₀ words : List ℕ) (i : ℕ) : Type 0 where
  pub long : length words ≡ count
  pub done : (j : ℕ) → j < i → get_or words j 0 ≡ at j (get_or words₀ j 0)
  pub left : (j : ℕ) → i ≤ j → get_or words j 0 ≡ get_or words₀ j 0

module _ (count : ℕ) (at : ℕ → ℕ → ℕ) where
  pub cleared_none : (words : List ℕ) → length words ≡ count → ClearedTo count at words words 0
  cleared_none words long = record { long = long; done = λ j l. absurd (omega arith); left = λ j l. refl }

  pub cleared_more : (words₀ words : List ℕ) (i : ℕ) → i < count → ClearedTo count at words₀ words i → ClearedTo count at words₀ (set words i (at i (get_or words i 0))) (i + 1)
  cleared_more words₀ words i l h =
      record {
        long = length-set words i (at i (get_or words i 0)) ∙ h.long;
        done = λ j lj. by_bool (eqb j i) (λ e. itself j (eqb-true j i e))
            (λ e. let ne = eqb-false j i e in
            get_or-set_other words i j (at i (get_or words i 0)) 0 ne ∙ h.done j (omega arith));
        left = λ j lj. get_or-set_other words i j (at i (get_or words i 0)) 0 (λ e. absurd (omega arith)) ∙ h.left j (omega arith);
      }
    where
      itself : (j : ℕ) → j ≡ i → get_or (set words i (at i (get_or words i 0))) j 0 ≡ at j (get_or words₀ j 0)
      itself j e =
          rw (e, get_or-set_same words i (at i (get_or words i 0)) 0 (rw h.long l), h.left i (omega arith))

  pub cleared_all : (words₀ words : List ℕ) → length words₀ ≡ count → ClearedTo count at words₀ words count → Changed at words₀ words
  cleared_all words₀ words long h = record { long = h.long ∙ sym long; each = λ j l. h.done j (omega arith) }
