-- `frame_at` meets its contract: a pass over a part of the text joins the tests of its bytes. Assumes nothing.
use Rattle.std.proofs.Common.{◌≡◌, ◌+◌, ◌-◌, ◌∙◌, true, ◌&&◌, take, drop, ltb, rules, tests, arith}
use Rattle.std.proofs.lemmas.Iterator.{YieldsList-from_slice}
use Rattle.std.proofs.lemmas.Iterator.Consumers.{fold_from_yields_List}
use Rattle.std.specs.List.{list_all}
use Rattle.digits.proofs.Worth.{digit_known}
use Rattle.forms.specs.WellShaped.{digit_of, digits_at}
use Rattle.loading.proofs.ReadDigits.{all_joined, digits_part}
use Rattle.loading.proofs.fields.frame_at.Goals as goal

pub returns : goal.returns
returns c =
    let a = c.args in
    let part = take (a.at + a.n - a.at) (drop a.at a.text.now) in
    let joined = fold_from_yields_List _ (λ ok d. ok && ltb (digit_of d) 16) true _ c.fold-ok.ensures.ran (YieldsList-from_slice part cc) (λ ok x b q k. search (rules, tests, digit_known)) in
    let there : c.fold-ok.result ≡ list_all (λ d. ltb (digit_of d) 16) part = joined ∙ all_joined (λ d. ltb (digit_of d) 16) true part in
    let passed : a.at + a.n - a.at ≡ a.n = omega arith in
    let digits : c.fold-ok.result ≡ digits_at a.text.now a.at a.n = rw passed at there ∙ digits_part a.text.now a.at a.n (omega arith) in
    rw digits
