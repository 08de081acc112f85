-- `clear_words` meets its contract. The loop's invariant: the numbers have left the sets passed, and the others are as they were. Assumes nothing.
use mathlib.Core.Path.{◌≡◌}
use Rattle.sets.specs.Sets.{difference}
use Rattle.steps.proofs.Clears.{map_to}
use Rattle.steps.proofs.clear.clear_words.Given as goal

abbrev pub invariant-loop-word : goal.invariant-loop-word
invariant-loop-word l = l.words ≡ map_to l.word-index (λ s. difference s l.gone) l.initial.words
