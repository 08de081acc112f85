-- Words read as records, computed: six words are a record and two spare words; and kinds that no request has, of which 259 has the low byte of a read.
use mathlib.Core.Path.{◌≡◌, refl}
use mathlib.Core.List.{[], ◌∷◌}
use mathlib.Core.Option.{none, some}
use Rattle.rules.specs.ReadWrite.{read}
use Rattle.rules.specs.Frames.{framed}
use Rattle.desk.specs.Words.{entries_in, spare_in}

six_words : (entries_in (3 ∷ 1 ∷ 5 ∷ 77 ∷ 4 ∷ 1 ∷ []) ≡ record { kind = 3; x = 1; y = 5; answer = 77 } ∷ []) × (spare_in (3 ∷ 1 ∷ 5 ∷ 77 ∷ 4 ∷ 1 ∷ []) ≡ 4 ∷ 1 ∷ [])
unfolding entries_in spare_in
six_words = (refl, refl)

kinds : (framed 3 1 5 ≡ some (read 1 5)) × (framed 0 1 5 ≡ none) × (framed 8 1 5 ≡ none) × (framed 259 1 5 ≡ none)
kinds = (refl, refl, refl, refl)
