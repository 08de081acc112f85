-- What an accepted request implies, for each request: the facts behind an answer 0.
use mathlib.Core.Path.{◌≡◌}
use mathlib.Core.Bool.{Bool, true, false, not, ◌||◌}
use Prim.Native.Nat.{ℕ, ◌<◌}
use native.Mathlib.Omega.{arith}
use borrow.Author.Tests.{leb-false, not-false}
use Rattle.rules.specs.Bench.{Shape, Bench, is_free, is_running}
use Rattle.rules.specs.Owners.{has_running_child, drains_under, stand_at}
use Rattle.rules.specs.Requests.{Request, open_top, open_sub, ask, commit, abort, quiet}
use Rattle.rules.specs.Answers.{too_high, no_instrument, row_by}
use Rattle.rules.proofs.Tests.{or_fails_left, or_fails_right, refuted}

pub record OpensTop (sh : Shape) (b : Bench) (n : ℕ) : Type 0 where
  pub known : n < sh.actions
  pub was_free : is_free (b.state n) ≡ true

pub record OpensSub (sh : Shape) (b : Bench) (n p : ℕ) : Type 0 where
  pub known : n < sh.actions
  pub parent_known : p < sh.actions
  pub was_free : is_free (b.state n) ≡ true
  pub parent_runs : is_running (b.state p) ≡ true

pub record Asks (grants : ℕ → ℕ → ℕ → Bool) (sh : Shape) (b : Bench) (m a i : ℕ) : Type 0 where
  pub known : a < sh.actions
  pub instrument_known : i < sh.instruments
  pub runs : is_running (b.state a) ≡ true
  pub no_running_child : has_running_child sh b a ≡ false
  pub is_granted : grants m a i ≡ true

pub record Commits (sh : Shape) (b : Bench) (a : ℕ) : Type 0 where
  pub known : a < sh.actions
  pub runs : is_running (b.state a) ≡ true
  pub no_running_child : has_running_child sh b a ≡ false

pub record Aborts (sh : Shape) (b : Bench) (a : ℕ) : Type 0 where
  pub known : a < sh.actions
  pub runs : is_running (b.state a) ≡ true

pub record Quiets (sh : Shape) (b : Bench) (a i : ℕ) : Type 0 where
  pub known : a < sh.actions
  pub instrument_known : i < sh.instruments
  pub drains : drains_under b a a ≡ true
  pub group_stands : stand_at sh b (drains_under b a) i ≡ true

abbrev pub Accepted : (ℕ → ℕ → ℕ → Bool) → Shape → Bench → Request → Type 0
Accepted grants sh b (open_top n) = OpensTop sh b n
Accepted grants sh b (open_sub n p) = OpensSub sh b n p
Accepted grants sh b (ask m a i) = Asks grants sh b m a i
Accepted grants sh b (commit a) = Commits sh b a
Accepted grants sh b (abort a) = Aborts sh b a
Accepted grants sh b (quiet a i) = Quiets sh b a i

pub accepted : (grants : ℕ → ℕ → ℕ → Bool) (sh : Shape) (b : Bench) (r : Request) → row_by grants sh b r ≡ 0 → Accepted grants sh b r
unfolding row_by
accepted grants sh b (open_top n) h =
    let not1 = refuted (too_high sh n) (λ t. let z = rw t at h in omega arith) in
    let not3 = refuted (not (is_free (b.state n))) (λ t. let z = rw (not1, t) at h in omega arith) in
    record { known = leb-false sh.actions n not1; was_free = not-false (is_free (b.state n)) not3 }
accepted grants sh b (open_sub n p) h =
    let not1 = refuted (too_high sh n || too_high sh p) (λ t. let z = rw t at h in omega arith) in
    let not3 = refuted (not (is_free (b.state n))) (λ t. let z = rw (not1, t) at h in omega arith) in
    let not4 = refuted (not (is_running (b.state p))) (λ t. let z = rw (not1, not3, t) at h in omega arith) in
    record {
      known = leb-false sh.actions n (or_fails_left (too_high sh n) (too_high sh p) not1);
      parent_known = leb-false sh.actions p (or_fails_right (too_high sh n) (too_high sh p) not1);
      was_free = not-false (is_free (b.state n)) not3;
      parent_runs = not-false (is_running (b.state p)) not4;
    }
accepted grants sh b (ask m a i) h =
    let not1 = refuted (too_high sh a) (λ t. let z = rw t at h in omega arith) in
    let not2 = refuted (no_instrument sh i) (λ t. let z = rw (not1, t) at h in omega arith) in
    let not4 = refuted (not (is_running (b.state a))) (λ t. let z = rw (not1, not2, t) at h in omega arith) in
    let not5 = refuted (has_running_child sh b a) (λ t. let z = rw (not1, not2, not4, t) at h in omega arith) in
    let not6 = refuted (not (grants m a i)) (λ t. let z = rw (not1, not2, not4, not5, t) at h in omega arith) in
    record {
      known = leb-false sh.actions a not1;
      instrument_known = leb-false sh.instruments i not2;
      runs = not-false (is_running (b.state a)) not4;
      no_running_child = not5;
      is_granted = not-false (grants m a i) not6;
    }
accepted grants sh b (commit a) h =
    let not1 = refuted (too_high sh a) (λ t. let z = rw t at h in omega arith) in
    let not4 = refuted (not (is_running (b.state a))) (λ t. let z = rw (not1, t) at h in omega arith) in
    let not5 = refuted (has_running_child sh b a) (λ t. let z = rw (not1, not4, t) at h in omega arith) in
    record { known = leb-false sh.actions a not1; runs = not-false (is_running (b.state a)) not4; no_running_child = not5 }
accepted grants sh b (abort a) h =
    let not1 = refuted (too_high sh a) (λ t. let z = rw t at h in omega arith) in
    let not4 = refuted (not (is_running (b.state a))) (λ t. let z = rw (not1, t) at h in omega arith) in
    record { known = leb-false sh.actions a not1; runs = not-false (is_running (b.state a)) not4 }
accepted grants sh b (quiet a i) h =
    let not1 = refuted (too_high sh a) (λ t. let z = rw t at h in omega arith) in
    let not2 = refuted (no_instrument sh i) (λ t. let z = rw (not1, t) at h in omega arith) in
    let group = drains_under b a in
    let not10 = refuted (not (group a) || not (stand_at sh b group i)) (λ t. let z = rw (not1, not2, t) at h in omega arith) in
    record {
      known = leb-false sh.actions a not1;
      instrument_known = leb-false sh.instruments i not2;
      drains = not-false (group a) (or_fails_left (not (group a)) (not (stand_at sh b group i)) not10);
      group_stands = not-false (stand_at sh b group i) (or_fails_right (not (group a)) (not (stand_at sh b group i)) not10);
    }
