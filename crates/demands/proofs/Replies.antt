-- Every request of a method, on every record, has a reply that the contract allows, so that nothing said of `Plays` is said of nothing; document 01's whole
-- session is played with its answers. Assumes nothing.
use mathlib.Core.Path.{◌≡◌, refl, ◌∙◌, ap, subst}
use mathlib.Core.Bool.{Bool, true, ◌&&◌}
use mathlib.Core.List.{List, [], ◌∷◌}
use Prim.Native.Nat.{ℕ}
use Rattle.rules.specs.Requests.{Request}
use Rattle.rules.specs.Answers.{step, answers}
use Rattle.rules.specs.ReadWrite.{read_write}
use Rattle.rules.specs.Sessions.{whole_trace}
use Rattle.rules.proofs.Tests.{and_left, and_right}
use Rattle.rules.proofs.Sessions.{requests_of, answers_of, whole_trace_holds}
use Rattle.bench.specs.declared.Bench.{Bench}
use Rattle.bench.specs.declared.Reply.{Reply}
use Rattle.bench.specs.Record.{viewed}
use Rattle.bench.specs.Plays.{IsEmpty, Returns, Plays, played, then}
use Rattle.bench.proofs.Unique.{Fits}
use Rattle.demands.proofs.Listed.{record_of, record_fits, record_shown}
use Rattle.demands.proofs.KeptWithin.{method_of, view_within, step_within}
use Rattle.demands.proofs.Demands.{plays_by_rules}

-- There is a reply as the contract has it, and its record is one that the language has.
pub reply_exists : (b : Bench) → Fits b → (q : Request) → method_of q ≡ true → (r : Reply) × Returns b q r × Fits r.bench
reply_exists b fits q known =
    let o = step read_write (viewed b) q in
    let shown = record_shown o.next (step_within (viewed b) (view_within b fits) q known) in
    (record { bench = record_of o.next; answer = o.answer }, λ j. record { answer = o.answer; next = shown j }, record_fits o.next)

-- every request of the list is a method's
abbrev pub methods_of : List Request → Bool
methods_of [] = true
methods_of (q ∷ qs) = method_of q && methods_of qs

pub plays_exist : (b : Bench) → Fits b → (qs : List Request) → methods_of qs ≡ true → (given : List ℕ) × (c : Bench) × Plays b qs given c × Fits c
plays_exist b fits [] known = ([], b, played, fits)
plays_exist b fits (q ∷ qs) known =
    let reply = reply_exists b fits q (and_left (method_of q) (methods_of qs) known) in
    let rest = plays_exist reply.0.bench reply.2 qs (and_right (method_of q) (methods_of qs) known) in
    (reply.0.answer ∷ rest.0, rest.1, then reply.0 reply.1 rest.2, rest.3)

-- Document 01's whole session is played on an empty record, with the answers that the document gives.
pub whole_session_plays : (b : Bench) → Fits b → IsEmpty b → (c : Bench) × Plays b (requests_of whole_trace) (answers_of whole_trace) c × Fits c
unfolding requests_of whole_trace
whole_session_plays b fits e =
    let all = plays_exist b fits (requests_of whole_trace) refl in
    let given : all.0 ≡ answers_of whole_trace = (plays_by_rules all.2).0 ∙ ap (λ v. answers read_write v (requests_of whole_trace)) e ∙ whole_trace_holds in
    (all.1, subst (λ g. Plays b (requests_of whole_trace) g all.1) given all.2, all.3)
