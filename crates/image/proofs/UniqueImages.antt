-- A request on an image has one result: the view that a contract gives fixes the image. Assumes nothing.
use mathlib.Core.Path.{◌≡◌, sym, ◌∙◌, ap}
use mathlib.Core.List.{List, ◌++◌}
use mathlib.Core.Option.{Option}
use Prim.Native.Nat.{ℕ, ◌+◌, ◌^◌, ◌<◌}
use native.Mathlib.Omega.{arith}
use lib.ListN.{length, get_or, take, drop, length-drop, take-append-drop}
use lib.Seq.{length-take-le, get_or-take, get_or-drop}
use Rattle.rules.specs.Requests.{Request}
use Rattle.rules.proofs.Tests.{by_bool}
use Rattle.bench.specs.declared.Bench.{Bench}
use Rattle.bench.proofs.Unique.{Fits, view_injective}
use Rattle.image.specs.Image.{is_image, image_view, Requested}
use Rattle.image.proofs.Images.{image_long}

-- the words of an image, as the language has them
pub WordsFit : List ℕ → Type 0
WordsFit owners = (i : ℕ) → get_or owners i 0 < 2 ^ 64

-- the record of an image
halves : List ℕ → List ℕ → Bench
halves actions owners =
    record { parents = take 64 actions; states = drop 64 actions; reads = take 128 owners; writes = drop 128 owners }

halves_fit : (actions owners : List ℕ) → length actions ≡ 128 → length owners ≡ 256 → WordsFit owners → Fits (halves actions owners)
unfolding halves WordsFit
halves_fit actions owners a o w =
    record {
      parents_long = length-take-le 64 actions (omega arith);
      states_long = (let e = length-drop 64 actions in omega arith);
      reads_long = length-take-le 128 owners (omega arith);
      writes_long = (let e = length-drop 128 owners in omega arith);
      reads_fit = λ i h. rw (get_or-take 128 owners i 0 h) (w i);
      writes_fit = λ i h. rw (get_or-drop 128 owners i 0) (w (128 + i));
    }

-- images with the same view are the same
pub image_injective : (actions owners actions' owners' : List ℕ) → length actions ≡ 128 → length owners ≡ 256 → length actions' ≡ 128 → length owners' ≡ 256 → WordsFit owners → WordsFit owners' → image_view actions owners ≡ image_view actions' owners' → (actions ≡ actions') × (owners ≡ owners')
unfolding halves
image_injective actions owners actions' owners' a o a' o' w w' e =
    let same = view_injective (halves actions owners) (halves actions' owners') (halves_fit actions owners a o w) (halves_fit actions' owners' a' o' w') e in (
      sym (take-append-drop 64 actions) ∙ ap (λ b. b.parents ++ b.states) same ∙ take-append-drop 64 actions',
      sym (take-append-drop 128 owners) ∙ ap (λ b. b.reads ++ b.writes) same ∙ take-append-drop 128 owners',
    )

-- A request on an image has one answer, and leaves one content of each slice.
pub request_unique : (q : Option Request) (actions owners : List ℕ) (r r' : ℕ) (actions₁ owners₁ actions₂ owners₂ : List ℕ) → WordsFit owners₁ → WordsFit owners₂ → Requested q actions owners r actions₁ owners₁ → Requested q actions owners r' actions₂ owners₂ → (r ≡ r') × (actions₁ ≡ actions₂) × (owners₁ ≡ owners₂)
request_unique q actions owners r r' actions₁ owners₁ actions₂ owners₂ w₁ w₂ m n =
    by_bool (is_image actions owners)
    (λ image.
    let long = image_long actions owners image in
    let same = m.outcome image ∙ sym (n.outcome image) in
    let lists = image_injective actions₁ owners₁ actions₂ owners₂ (m.bytes_long ∙ long.0) (m.words_long ∙ long.1) (n.bytes_long ∙ long.0) (n.words_long ∙ long.1) w₁ w₂ (ap (λ o. o.next) same) in
    (ap (λ o. o.answer) same, lists.0, lists.1))
    (λ none.
    let x = m.no_image none in
    let y = n.no_image none in
    (x.0 ∙ sym y.0, x.1 ∙ sym y.1, x.2 ∙ sym y.2))
