-- `drain_byte` meets its contract: the byte by whether the numbers have one in common with those that stand in a set. Assumes nothing.
use mathlib.Core.Path.{◌∙◌, ap}
use mathlib.Core.Bool.{Bool}
use Rattle.steps.specs.Changes.{aborted_byte}
use Rattle.bench.proofs.Bench.drain_byte.Goals as goal

pub returns : goal.returns
returns c =
    record {
      standing = c.standing-owners.result;
      tells = c.standing-owners.ensures;
      is = c.aborted_byte.ensures ∙ ap (λ (stands : Bool). aborted_byte stands c.args.a) c.meet.ensures;
    }
