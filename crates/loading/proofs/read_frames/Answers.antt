use mathlib.Core.Path.{◌∙◌, ap₂}
use Prim.Native.Nat.{◌+◌}
use Rattle.std.proofs.lemmas.List.{length-map}
use Rattle.loading.proofs.ReadTurns.{left_less}
use Rattle.loading.proofs.ReadHalves.{all_read}
use Rattle.loading.proofs.read_frames.Goals as goal

pub loop-k-preserved : goal.loop-k-preserved
loop-k-preserved g c =
    record {
      left = left_less c.loop-k.invariant.left (rw c.COUNT-k-end.ensures at c.loop-k-test.true) c.take_frame-at.ensures;
      long = simp length-map (c.take_frame-at.auto.list ∙ c.loop-k.auto.list);
    }

pub returns : goal.returns
returns g c =
    all_read (rw length-map (c.if-list-COUNT.false ∙ ap₂ (λ m n. m + n) c.COUNT.ensures c.COUNT-2.ensures)) c.loop-k.invariant (rw c.COUNT-k-end.ensures at c.loop-k-test.false)
