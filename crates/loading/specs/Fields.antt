-- What a function that reads a frame hands back.
use Rattle.std.specs.Prelude.{List, ℕ, Option, Some, None, if◌then◌else◌}
use Rattle.loading.specs.declared.fields.Fields.{Fields}
use Rattle.forms.specs.Kinds.{FrameShape, Kind}
use Rattle.forms.specs.WellShaped.{head_at, first_at, second_at}

-- the two values of the frame of this shape and number; none where it doesn't stand there
unfoldable pub fields_at : FrameShape → List ℕ → ℕ → ℕ → Option Fields
fields_at f text at k =
    if head_at f text at k then Some (record { first = first_at f text at; second = second_at f text at }) else None

-- the two elements that two values say; none where a frame can't have these values
abbrev pub elements_of : Kind → ℕ → ℕ → Option (ℕ × ℕ)
elements_of K x y = if K.fits x y then Some (K.first_element x y, K.second_element x y) else None
