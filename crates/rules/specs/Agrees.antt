-- When a bench and the plain machine say the same: the numbers in use and running, the ancestors, the heads of those that drain, and at every
-- instrument the heirs of the bench's sets are the plain machine's owners. And the plain machine that a sound bench says the same as.
use Rattle.std.specs.Prelude.{not, List, [], ◌∷◌, ◌≡◌, ℕ, zero, suc, ◌<◌}
use Rattle.std.proofs.Math.Option.{Option}
use Rattle.rules.specs.Tests.{from}
use Rattle.rules.specs.Bench.{Shape, Bench, is_free, is_running, head_of}
use Rattle.rules.specs.Owners.{is_owner}
use Rattle.rules.specs.Plain.{Plain}

pub record Agrees (sh : Shape) (b : Bench) (s : Plain) : Type 0 where
  pub used : (k : ℕ) → k < sh.actions → s.used k ≡ not (is_free (b.state k))
  pub runs : (k : ℕ) → k < sh.actions → s.runs k ≡ is_running (b.state k)
  pub ancestors : (k : ℕ) → k < sh.actions → s.ancestors k ≡ from (b.parent k) [] (λ p. p ∷ s.ancestors p)
  pub heads : (k : ℕ) → k < sh.actions → s.heads k ≡ head_of (b.state k)
  pub owns : (m i h : ℕ) → m < sh.modes → i < sh.instruments → h < sh.actions → s.owns m i h ≡ is_owner sh b m i h

-- the numbers met going up from k by `up`, n at most
unfoldable pub chain : ℕ → (ℕ → Option ℕ) → ℕ → List ℕ
chain zero up k = []
chain (suc n) up k = from (up k) [] (λ p. p ∷ chain n up p)

-- The plain machine of a bench: its numbers in use and running, the ancestors and the head of each, and the heirs of its sets as owners.
abbrev pub plain_of : Shape → Bench → Plain
plain_of sh b =
    record {
      used = λ k. not (is_free (b.state k));
      runs = λ k. is_running (b.state k);
      ancestors = chain sh.actions b.parent;
      heads = λ k. head_of (b.state k);
      owns = is_owner sh b;
    }
