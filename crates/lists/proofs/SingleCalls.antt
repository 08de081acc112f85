-- A call gives what single calls in list order give: the same answers at their places, and the same bench. Assumes nothing.
use mathlib.Core.Path.{◌≡◌, refl, sym, ◌∙◌, ap, ap₂}
use mathlib.Core.List.{List, ◌∷◌, map, map-map}
use Prim.Native.Nat.{ℕ, ◌≤◌}
use lib.ListN.{length, length-map}
use Rattle.rules.specs.Answers.{answered}
use Rattle.rules.specs.ReadWrite.{read_write}
use Rattle.rules.specs.Lists.{entry_request, list_answered, after_list}
use Rattle.rules.proofs.Lists.{call_played}
use Rattle.bench.specs.declared.Bench.{Bench}
use Rattle.bench.specs.declared.Reply.{Reply}
use Rattle.bench.specs.Record.{viewed}
use Rattle.bench.proofs.Unique.{Fits, view_injective}
use Rattle.lists.specs.declared.Request.{Request}
use Rattle.lists.specs.Listed.{entry, called, ReturnsList}
use Rattle.lists.specs.Singly.{Singly, none_left, then}

-- A list of at most 32 that was played, read as the rules have it.
pub as_played : (b : Bench) (list : List Request) (r : Reply) (after : List Request) → ReturnsList b list r after → length list ≤ 32 →
    called r after ≡ record { answer = 0; list = list_answered read_write (viewed b) (map entry list); next = after_list read_write (viewed b) (map entry list) }
as_played b list r after returned short = returned ∙ call_played read_write (viewed b) (map entry list) (rw (length-map list entry) short)

-- what single calls give, by the rules
singly_given : {b c : Bench} {list : List Request} {given : List ℕ} → Singly b list given c → (given ≡ map (λ e. e.answer) (list_answered read_write (viewed b) (map entry list))) × (viewed c ≡ after_list read_write (viewed b) (map entry list))
unfolding list_answered after_list
singly_given none_left = (refl, refl)
singly_given (then {b = b} {q = q} {list = list} r returned rest) =
    let further = singly_given rest in
    let next : viewed r.bench ≡ (answered read_write (viewed b) (entry_request (entry q))).next = ap (λ o. o.next) returned in (
      ap₂ (λ x xs. x ∷ xs) (ap (λ o. o.answer) returned) (further.0 ∙ ap (λ v. map (λ e. e.answer) (list_answered read_write v (map entry list))) next),
      further.1 ∙ ap (λ v. after_list read_write v (map entry list)) next,
    )

-- The answers and the final bench of a call are those of single calls in list order, and the call's own answer is 0.
pub as_single_calls : {b c : Bench} {list : List Request} {given : List ℕ} → Singly b list given c → (r : Reply) (after : List Request) → ReturnsList b list r after → length list ≤ 32 →
    (r.answer ≡ 0) × (map (λ q. q.answer) after ≡ given) × (Fits c → Fits r.bench → r.bench ≡ c)
as_single_calls {b} {c} {list} singly r after returned short =
    let is = as_played b list r after returned short in
    let alone = singly_given singly in (
      ap (λ u. u.answer) is,
      sym (map-map (λ e. e.answer) entry after) ∙ ap (λ u. map (λ e. e.answer) u.list) is ∙ sym alone.0,
      λ fc fr. view_injective r.bench c fr fc (ap (λ u. u.next) is ∙ sym alone.1),
    )
