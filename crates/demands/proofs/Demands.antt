-- Demands 2 and 3 of what the bench's methods return.
use mathlib.Core.Path.{◌≡◌, refl, sym, ◌∙◌, ap, ap₂}
use mathlib.Core.Bool.{true}
use mathlib.Core.List.{List, [], ◌∷◌}
use Prim.Native.Nat.{ℕ}
use Rattle.rules.specs.Bench.{empty}
use Rattle.rules.specs.Sound.{sound}
use Rattle.rules.specs.Requests.{Request}
use Rattle.rules.specs.Answers.{step, answers, after}
use Rattle.rules.specs.ReadWrite.{read_write}
use Rattle.rules.specs.Plain.{Plain, plain_empty, plain_answers, plain_after}
use Rattle.rules.specs.Agrees.{Agrees, plain_of}
use Rattle.rules.specs.Merging.{Apart, Merging, firsts, seconds}
use Rattle.rules.proofs.Kept.{empty_sound}
use Rattle.rules.proofs.DemandTwo.{demand_two, plain_of_lem, empty_agrees}
use Rattle.rules.proofs.DemandThree.{demand_three, read_write_symmetric}
use Rattle.bench.specs.declared.Bench.{Bench}
use Rattle.bench.specs.Record.{viewed}
use Rattle.bench.specs.Plays.{IsEmpty, Plays, played, then}
use Rattle.bench.proofs.Unique.{Fits, view_injective}

-- What the methods answer and leave is what the rules say of the record that they began with.
pub plays_by_rules : {b c : Bench} {qs : List Request} {given : List ℕ} → Plays b qs given c → (given ≡ answers read_write (viewed b) qs) × (viewed c ≡ after read_write (viewed b) qs)
unfolding answers after
plays_by_rules played = (refl, refl)
plays_by_rules (then {b = b} {qs = qs} r returned rest) =
    let further = plays_by_rules rest in
    let next : viewed r.bench ≡ (step read_write (viewed b) _).next = ap (λ o. o.next) returned in
    (ap₂ (λ x xs. x ∷ xs) (ap (λ o. o.answer) returned) (further.0 ∙ ap (λ n. answers read_write n qs) next), further.1 ∙ ap (λ n. after read_write n qs) next)

-- From any sound record and a plain machine that says the same, the methods' answers are the plain machine's, and after the requests the heirs of the
-- record's sets are the plain machine's owners.
methods_beside : {b c : Bench} {qs : List Request} {given : List ℕ} (s : Plain) → sound read_write (viewed b) ≡ true → Agrees read_write (viewed b) s → Plays b qs given c → (given ≡ plain_answers read_write s qs) × Agrees read_write (viewed c) (plain_after read_write s qs)
methods_beside {b} {qs = qs} s ok agrees plays =
    let by_rules = plays_by_rules plays in
    let by_moss = demand_two read_write (viewed b) s ok agrees qs in
    (by_rules.0 ∙ by_moss.0, rw by_rules.1 by_moss.1)

-- Demand 2. From each sound record on, the methods' answers are those of the record's plain machine of Moss's rules, and after any requests the heirs of
-- the record's sets are its owners.
pub methods_by_moss : {b c : Bench} {qs : List Request} {given : List ℕ} → sound read_write (viewed b) ≡ true → Plays b qs given c → (given ≡ plain_answers read_write (plain_of read_write (viewed b)) qs) × Agrees read_write (viewed c) (plain_after read_write (plain_of read_write (viewed b)) qs)
methods_by_moss {b} ok plays = methods_beside (plain_of read_write (viewed b)) ok (plain_of_lem read_write (viewed b) ok) plays

-- On an empty record that machine is the empty one.
pub methods_from_empty : {b c : Bench} {qs : List Request} {given : List ℕ} → IsEmpty b → Plays b qs given c → (given ≡ plain_answers read_write plain_empty qs) × Agrees read_write (viewed c) (plain_after read_write plain_empty qs)
methods_from_empty {b} e plays =
    methods_beside plain_empty (ap (sound read_write) e ∙ empty_sound read_write) (rw e (empty_agrees read_write)) plays

-- Demand 3. On an empty bench, two lists that name no action number in common, and no instrument except those both only ask to read: however they
-- are merged, the methods give each request the answer that the plain machine gives when its list is played alone, and every merging ends in the
-- same record.
pub methods_in_any_merging : {b c : Bench} {xs ys zs : List Request} {given : List ℕ} → IsEmpty b → Apart read_write xs ys → (m : Merging xs ys zs) → Plays b zs given c →
    (firsts m given ≡ plain_answers read_write plain_empty xs)
    × (seconds m given ≡ plain_answers read_write plain_empty ys)
    × ((others : List Request) (elsewise : List ℕ) (d : Bench) → Merging xs ys others → Plays b others elsewise d → Fits c → Fits d → d ≡ c)
methods_in_any_merging {b} {c} {xs} {ys} {zs} e apart m plays =
    let by_rules = plays_by_rules plays in
    let by_moss = demand_three read_write read_write_symmetric xs ys zs apart m in
    let start : (rs : List Request) → answers read_write (viewed b) rs ≡ answers read_write empty rs = λ rs. ap (λ n. answers read_write n rs) e in (
      ap (firsts m) (by_rules.0 ∙ start zs) ∙ by_moss.0,
      ap (seconds m) (by_rules.0 ∙ start zs) ∙ by_moss.1,
      λ others elsewise d n others_play fc fd.
          view_injective d c fd fc
          ((plays_by_rules others_play).1 ∙ ap (λ x. after read_write x others) e ∙ by_moss.2 others n
          ∙ sym (by_rules.1 ∙ ap (λ x. after read_write x zs) e)),
    )
