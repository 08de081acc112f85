-- The trace player's output is the definition's, with answers and with reasons, however the input is cut and whatever buffers are lent.
use mathlib.Core.Path.{◌≡◌, refl, sym, ◌∙◌, ap, ap₂}
use mathlib.Core.List.{List, ◌++◌}
use mathlib.Core.Option.{Option}
use Prim.Native.Nat.{ℕ}
use lib.ListN.{take, drop}
use lib.Seq.{take_at}
use Rattle.rules.specs.Bench as rules
use Rattle.rules.specs.Bench.{empty}
use Rattle.rules.specs.Requests.{Request}
use Rattle.lines.specs.Lines.{answer_line, output_by, output_of}
use Rattle.lines.specs.Feeding.{between, fed, said_by, said_at_end_by, said_at_end, taken_by}
use Rattle.naming.specs.Text.{longest, reason_line}
use Rattle.lines.proofs.LineFeeding.{fed_append, said_append, output_of_feeding}
use Rattle.play.specs.declared.Player.{Player}
use Rattle.play.specs.Feeding.{feeding}
use Rattle.play.specs.Feeds.{FeedsBy, Feeds, Explains, stopped, then}

module _ (say : rules.Bench → Option Request → List ℕ) (width : ℕ) where
  -- Whatever was taken, what was written and where the player stands are what those bytes lead to.
  pub feeds_as : {p q : Player} {xs ys : List ℕ} → FeedsBy say width p xs ys q → (ys ≡ said_by say (feeding p) xs) × (feeding q ≡ fed (feeding p) xs)
  unfolding said_by fed
  feeds_as stopped = (refl, refl)
  feeds_as (then {p = p} {xs = xs} {ys = ys} input out after r f rest) =
      let further = feeds_as rest in
      let bytes = take (taken_by width input out) input in
      let used : take r.used input ≡ bytes = ap (λ n. take n input) f.used in
      let wrote : take r.written after ≡ said_by say (feeding p) bytes = ap (take r.written) f.output ∙ take_at (said_by say (feeding p) bytes) (drop r.written out) r.written (sym f.written) in (
        ap₂ (λ a b. a ++ b) wrote (further.0 ∙ ap (λ s. said_by say s xs) f.player) ∙ sym (said_append say (feeding p) bytes xs) ∙ ap (λ l. said_by say (feeding p) (l ++ xs)) (sym used),
        further.1 ∙ ap (λ s. fed s xs) f.player ∙ sym (fed_append (feeding p) bytes xs) ∙ ap (λ l. fed (feeding p) (l ++ xs)) (sym used),
      )

  -- From a new player on, what was written and what a last line without its 0a adds are what is written for the trace.
  pub says_the_trace : {p q : Player} {xs ys : List ℕ} → feeding p ≡ between empty → FeedsBy say width p xs ys q → ys ++ said_at_end_by say (feeding q) ≡ output_by say xs
  says_the_trace {p} {q} {xs} {ys} new feeds =
      let ends = feeds_as feeds in
      ap₂ (λ a b. a ++ said_at_end_by say b) ends.0 ends.1 ∙ ap (λ s. said_by say s xs ++ said_at_end_by say (fed s xs)) new ∙ output_of_feeding say xs

-- With `feed` these are the trace's output.
pub plays_the_trace : {p q : Player} {xs ys : List ℕ} → feeding p ≡ between empty → Feeds p xs ys q → ys ++ said_at_end (feeding q) ≡ output_of xs
plays_the_trace = says_the_trace answer_line 3

-- With `explain` they are each line's reason.
pub explains_the_trace : {p q : Player} {xs ys : List ℕ} → feeding p ≡ between empty → Explains p xs ys q → ys ++ said_at_end_by reason_line (feeding q) ≡ output_by reason_line xs
explains_the_trace = says_the_trace reason_line longest
