-- The bench after a text, character by character, as a loop that counts up passes them.
use mathlib.Core.Path.{◌≡◌}
use mathlib.Core.List.{List}
use Prim.Native.Nat.{ℕ, ◌+◌, ◌<◌}
use native.Mathlib.Numerals.{add-one}
use lib.ListN.{length, drop, get_or}
use lib.Seq.{drop-cons, drop-length}
use Rattle.std.specs.Prelude.{Option}
use Rattle.rules.specs.Bench.{Bench}
use Rattle.trials.specs.declared.session.Reading.{Reading}
use Rattle.trials.specs.Session.{read_on, after_read, after_character, after_text}

pub text_more : (b : Bench) (r : Option Reading) (text : List ℕ) (k : ℕ) → k < length text →
    after_text b r (drop k text) ≡ after_text (after_character b r (get_or text k 0)) (read_on r (get_or text k 0)) (drop (k + 1) text)
unfolding after_text
text_more b r text k l = rw (add-one, drop-cons text k 0 l)

pub text_ended : (b : Bench) (r : Option Reading) (text : List ℕ) → after_text b r (drop (length text) text) ≡ after_read b r
unfolding after_text
text_ended b r text = rw (drop-length text)
