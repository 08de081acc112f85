-- `named`, `named_of_request` and `text_of` have one result for each input. Assumes nothing.
use mathlib.Core.List.{List}
use mathlib.Core.Path.{◌≡◌, sym, ◌∙◌}
use Prim.Native.Nat.{ℕ}
use Rattle.naming.specs.declared.Reason.{Reason}
use Rattle.naming.specs.declared.text.Text.{Text}
use Rattle.naming.specs.Blocking.{named_in}
use Rattle.naming.specs.Text.{text_of}

pub named_unique : (parents states : List ℕ) (readers writers code x y answer : ℕ) (r s : Reason) → r ≡ named_in parents states readers writers code x y answer → s ≡ named_in parents states readers writers code x y answer → r ≡ s
named_unique parents states readers writers code x y answer r s er es = er ∙ sym es

pub text_unique : (reason : Reason) (r s : Text) → r ≡ text_of reason → s ≡ text_of reason → r ≡ s
text_unique reason r s er es = er ∙ sym es
