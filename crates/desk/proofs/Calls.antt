-- What a call leaves in an image and in the words of its list. Assumes nothing.
use mathlib.Core.Path.{◌≡◌, refl, sym, ◌∙◌}
use mathlib.Core.Bool.{Bool, true, false, false≢true}
use mathlib.Core.List.{List, ◌++◌}
use Prim.Native.Nat.{ℕ}
use native.Mathlib.Omega.{arith}
use lib.ListN.{length, get_or, length-append, take, drop}
use lib.Seq.{take_at, drop_at}
use Rattle.sets.specs.Sets.{member}
use Rattle.rules.specs.Tests.{any}
use Rattle.rules.specs.Lists.{call}
use Rattle.tables.specs.Steps.{Long}
use Rattle.views.specs.View.{layout, arrays}
use Rattle.views.specs.Soundness.{sound_with}
use Rattle.steps.specs.Arrays.{lent, view_of, read_sets, write_sets}
use Rattle.image.specs.Image.{is_image, image_view}
use Rattle.image.proofs.Images.{ReadOut, image_long, second_half, read_view, read_sound, read_long}
use Rattle.desk.specs.Desk.{too_long, ListPlayed, KnownLists, ListDone}

module _ (actions owners words : List ℕ) where
  -- a list that is too long, and slices that are no image
  pub long_refused : too_long words ≡ true → ListPlayed actions owners words 11 actions owners words
  unfolding call
  long_refused long =
      record { bytes_long = refl; sets_long = refl; spare = refl; called = λ image. rw long; no_image = λ none. (rw long, refl, refl, refl) }

  pub none_refused : too_long words ≡ false → is_image actions owners ≡ false → ListPlayed actions owners words 7 actions owners words
  none_refused short other =
      record {
        bytes_long = refl;
        sets_long = refl;
        spare = refl;
        called = λ image. absurd (false≢true (sym other ∙ image));
        no_image = λ none. (rw short, refl, refl, refl);
      }

  -- ---- an image

  module _ (image : is_image actions owners ≡ true) {parents states : List ℕ} (is_parents : parents ≡ take 64 actions) (is_states : states ≡ drop 64 actions) where
    long : (length actions ≡ 128) × (length owners ≡ 256)
    long = image_long actions owners image

    -- parents and states are the two halves of its bytes
    out : ReadOut actions owners parents states
    out = record { image = image; is_parents = is_parents; is_states = is_states ∙ sym (second_half 64 actions long.0) }

    -- whether they are those of a sound bench is what the test found
    pub image_known : (numbers : ℕ) (ok : Bool) → ((k : ℕ) → member numbers k ≡ any (length owners) (λ i. member (get_or owners i 0) k)) → ok ≡ sound_with parents states numbers → KnownLists ok (lent parents states owners)
    image_known numbers ok gathered e = record { table = record { long = read_long out; known = read_sound out numbers gathered e }; owners_long = long.1 }

    -- the list is played
    pub image_played : {ok : Bool} {parents' states' owners' words' : List ℕ} → too_long words ≡ false → ListDone ok (lent parents states owners) words (lent parents' states' owners') words' → ListPlayed actions owners words 0 (parents' ++ states') owners' words'
    unfolding call
    image_played {parents' = parents'} {states' = states'} {owners' = owners'} {words' = words'} short done =
        record {
          bytes_long = rw (length-append parents' states') (let p = lists.parents_long in let s = lists.states_long in let l = long.0 in omega arith);
          sets_long = done.known.owners_long ∙ sym long.1;
          spare = done.spare;
          called = λ yes. rw (short, seen, ← read_view out, done.list, done.bench);
          no_image = λ none. absurd (false≢true (sym none ∙ image));
        }
      where
        lists : Long layout (arrays parents' states' (read_sets owners') (write_sets owners'))
        lists = done.known.table.long

        seen : image_view (parents' ++ states') owners' ≡ view_of (lent parents' states' owners')
        seen =
            rw (take_at parents' states' 64 lists.parents_long, drop_at parents' states' 64 lists.parents_long, second_half 128 owners' done.known.owners_long)
