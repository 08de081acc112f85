-- The calls on a lent image have one result each: one answer, and one content of every slice and number lent. (Those for soundness and the version are equations; those of
-- requests have the law `request_unique` of the image, and that of a list has `call_unique` of the desk.) Assumes nothing.
use mathlib.Core.Path.{◌≡◌, sym, ◌∙◌}
use mathlib.Core.List.{List}
use Prim.Native.Nat.{ℕ}
use Rattle.rules.proofs.Tests.{by_bool}
use Rattle.lines.specs.Feeding.{Feeding}
use Rattle.bench.specs.declared.Bench.{Bench}
use Rattle.image.specs.Image.{is_image}
use Rattle.image.proofs.UniqueImages.{WordsFit, image_injective}
use Rattle.dikothelm.specs.Calls.{Replaced, SavedAs, SizeTold, playable, Moved}

module _ (actions owners : List ℕ) (x y : ℕ) where
  -- `dikothelm_image_empty` and `dikothelm_image_load`, whose contracts say which record replaces the image
  pub replaced_unique : (given : ℕ) (b : Bench) (actions₁ owners₁ actions₂ owners₂ : List ℕ) → Replaced given b actions owners x actions₁ owners₁ → Replaced given b actions owners y actions₂ owners₂ → (x ≡ y) × (actions₁ ≡ actions₂) × (owners₁ ≡ owners₂)
  replaced_unique given b actions₁ owners₁ actions₂ owners₂ m n =
      by_bool (is_image actions owners)
      (λ image.
      let p = m.image image in
      let q = n.image image in
      (p.0 ∙ sym q.0, p.1 ∙ sym q.1, p.2 ∙ sym q.2))
      (λ none.
      let p = m.no_image none in
      let q = n.no_image none in
      (p.0 ∙ sym q.0, p.1 ∙ sym q.1, p.2 ∙ sym q.2))

  -- `dikothelm_image_save`
  pub save_unique : (out out₁ out₂ : List ℕ) (count₁ count₂ : ℕ) → SavedAs actions owners out x out₁ count₁ → SavedAs actions owners out y out₂ count₂ → (x ≡ y) × (count₁ ≡ count₂) × (out₁ ≡ out₂)
  save_unique out out₁ out₂ count₁ count₂ m n =
      by_bool (is_image actions owners)
      (λ image.
      let p = m.image image in
      let q = n.image image in
      (p.0 ∙ sym q.0, p.1 ∙ sym q.1, p.2 ∙ sym q.2))
      (λ none.
      let p = m.no_image none in
      let q = n.no_image none in
      (p.0 ∙ sym q.0, p.1 ∙ sym q.1, p.2 ∙ sym q.2))

  -- `dikothelm_image_text_size`
  pub size_unique : (count₁ count₂ : ℕ) → SizeTold actions owners x count₁ → SizeTold actions owners y count₂ → (x ≡ y) × (count₁ ≡ count₂)
  size_unique count₁ count₂ m n =
      by_bool (is_image actions owners)
      (λ image.
      let p = m.image image in
      let q = n.image image in
      (p.0 ∙ sym q.0, p.1 ∙ sym q.1))
      (λ none.
      let p = m.no_image none in
      let q = n.no_image none in
      (p.0 ∙ sym q.0, p.1 ∙ sym q.1))

  -- `dikothelm_image_play` and `dikothelm_image_finish`, whose contracts say where the caller's player goes; the words are as the language has them
  pub moved_unique : (to : Feeding) (used : ℕ) (text progress out actions₁ owners₁ progress₁ out₁ actions₂ owners₂ progress₂ out₂ : List ℕ) → WordsFit owners₁ → WordsFit owners₂ → Moved to used text actions owners progress out x actions₁ owners₁ progress₁ out₁ → Moved to used text actions owners progress out y actions₂ owners₂ progress₂ out₂ → (x ≡ y) × (actions₁ ≡ actions₂) × (owners₁ ≡ owners₂) × (progress₁ ≡ progress₂) × (out₁ ≡ out₂)
  moved_unique to used text progress out actions₁ owners₁ progress₁ out₁ actions₂ owners₂ progress₂ out₂ w₁ w₂ m n =
      by_bool (playable actions owners progress)
      (λ ok.
      let p = m.moved ok in
      let q = n.moved ok in
      let s = p.1 in
      let t = q.1 in
      let image = image_injective actions₁ owners₁ actions₂ owners₂ s.bytes_long s.words_long t.bytes_long t.words_long w₁ w₂ (s.bench ∙ sym t.bench) in
      (p.0 ∙ sym q.0, image.0, image.1, s.line ∙ sym t.line, s.output ∙ sym t.output))
      (λ none.
      let p = m.refused none in
      let q = n.refused none in
      (p.0 ∙ sym q.0, p.1 ∙ sym q.1, p.2 ∙ sym q.2, p.3 ∙ sym q.3, p.4 ∙ sym q.4))
