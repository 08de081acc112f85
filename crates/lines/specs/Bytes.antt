-- The bytes of a text.
use Rattle.std.specs.Prelude.{List, [], ◌∷◌, ℕ}
use Prim.Native.Char.{code}
use Prim.Native.String.{String, [] as done, ◌∷◌ as ◌then◌}

abbrev pub bytes_of : String → List ℕ
bytes_of done = []
bytes_of (c then rest) = code c ∷ bytes_of rest
