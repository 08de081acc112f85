-- What reading into a buffer gives.
use Rattle.std.specs.Prelude.{List, ℕ, Result, MatchResult, ◌≡◌}
use Rattle.io.specs.Counts.{IsPrefixLen}
use Rattle.streams.specs.declared.Failure.{Failure}
use Rattle.streams.specs.declared.Failure.TheVariants.{Input}

-- On `Ok(n)`, n bytes stand at the buffer's start. What failed else is the input, and its bytes stand there too.
abbrev pub Reads : Result ℕ Failure → List ℕ → Type 0
Reads r buffer = MatchResult r (λ n. IsPrefixLen n buffer) (λ e. (n : ℕ) × (e ≡ Input n) × IsPrefixLen n buffer)
