-- A call on an image and a list has one result: one answer, and one content of each slice that was lent. Assumes nothing.
use mathlib.Core.Path.{◌≡◌, sym, ◌∙◌, ap}
use mathlib.Core.List.{List}
use Prim.Native.Nat.{ℕ}
use Rattle.rules.proofs.Tests.{by_bool}
use Rattle.image.specs.Image.{is_image}
use Rattle.image.proofs.Images.{image_long}
use Rattle.image.proofs.UniqueImages.{WordsFit, image_injective}
use Rattle.desk.specs.Desk.{ListPlayed}
use Rattle.desk.proofs.WordLaws.{same_words}

pub call_unique : (actions owners words : List ℕ) (r r' : ℕ) (actions₁ owners₁ words₁ actions₂ owners₂ words₂ : List ℕ) → WordsFit owners₁ → WordsFit owners₂ → ListPlayed actions owners words r actions₁ owners₁ words₁ → ListPlayed actions owners words r' actions₂ owners₂ words₂ → (r ≡ r') × (actions₁ ≡ actions₂) × (owners₁ ≡ owners₂) × (words₁ ≡ words₂)
call_unique actions owners words r r' actions₁ owners₁ words₁ actions₂ owners₂ words₂ w₁ w₂ m n =
    by_bool (is_image actions owners)
    (λ image.
    let long = image_long actions owners image in
    let same = m.called image ∙ sym (n.called image) in
    let lists = image_injective actions₁ owners₁ actions₂ owners₂ (m.bytes_long ∙ long.0) (m.sets_long ∙ long.1) (n.bytes_long ∙ long.0) (n.sets_long ∙ long.1) w₁ w₂ (ap (λ c. c.next) same) in
    (ap (λ c. c.answer) same, lists.0, lists.1, same_words words₁ words₂ (ap (λ c. c.list) same) (m.spare ∙ sym n.spare)))
    (λ none.
    let x = m.no_image none in
    let y = n.no_image none in
    (x.0 ∙ sym y.0, x.1 ∙ sym y.1, x.2 ∙ sym y.2, x.3 ∙ sym y.3))
