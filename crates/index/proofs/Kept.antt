-- An abort on any arrays and index, and a quiet, is the request that asks for it. Assumes nothing.
use Rattle.std.specs.Prelude.{Option, Some}
use mathlib.Core.Path.{◌≡◌, ◌∙◌, ap}
use mathlib.Core.List.{[]}
use Prim.Native.Nat.{ℕ, ◌<◌, ◌^◌}
use native.Mathlib.Omega.{arith}
use lib.Dec.{eqb}
use Rattle.rules.proofs.Tests.{by_bool}
use Rattle.marks.specs.declared.requests.Request.{Request}
use Rattle.marks.specs.declared.requests.Request.TheVariants.{Abort, Quiet}
use Rattle.marks.specs.Requests.{code_of, first_of, second_of}
use Rattle.steps.specs.Arrays.{Arrays, lent}
use Rattle.index.specs.Tables.{Table, table, running_set}
use Rattle.index.specs.Kept.{busy_by, QuietKept, EndKept, RequestKept}

module _ {before after : Table} {answer : ℕ} (asked : Option Request) (x : ℕ) where
  pub kept_abort : asked ≡ Some (Abort x) → running_set before.index < 2 ^ 64 → EndKept 6 x (busy_by before.index x) before answer after →
      RequestKept (code_of asked) (first_of asked) (second_of asked) before answer after
  kept_abort e fits ended =
      rw e
      (record {
        running_fits = fits;
        gone = ended.gone;
        freed = λ above other. ended.freed;
        arrays = ended.arrays;
        index = ended.index;
      })

  pub kept_quiet : (y : ℕ) → asked ≡ Some (Quiet x y) → running_set before.index < 2 ^ 64 →
      QuietKept x y (table [] before.states before.owners before.index) answer (table [] after.states after.owners after.index) → after.parents ≡ before.parents →
      RequestKept (code_of asked) (first_of asked) (second_of asked) before answer after
  kept_quiet y e fits quieted same =
      rw (e, same)
      (record {
        running_fits = fits;
        gone = 0;
        freed = λ above other. absurd (other (omega arith));
        arrays = record {
          answered = quieted.arrays.answered;
          left = ap (λ (b : Arrays). lent before.parents b.states b.owners) quieted.arrays.left ∙ by_bool (eqb answer 0) (λ t. rw t) (λ t. rw t);
        };
        index = quieted.index;
      })
