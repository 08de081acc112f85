-- Two lists that are apart, one called after the other from an empty bench: in either order each gets the answers that it gets alone by Moss's rules, and both orders
-- leave the same record. Either order of calls is a merging of the two (demand 3). Assumes nothing.
use mathlib.Core.Path.{◌≡◌, refl, sym, ◌∙◌, ap}
use mathlib.Core.List.{List, [], ◌∷◌, ◌++◌}
use Rattle.rules.specs.Bench.{Shape, Bench, empty}
use Rattle.rules.specs.Requests.{Request}
use Rattle.rules.specs.Answers.{step, answers, after}
use Rattle.rules.specs.Plain.{plain_empty, plain_answers}
use Rattle.rules.specs.Merging.{Apart, Symmetric, Merging, done, first, second, seconds}
use Rattle.rules.specs.Lists.{Entry, list_answered, after_list}
use Rattle.rules.specs.SingleCalls.{requests_in, answers_in}
use Rattle.rules.proofs.Kept.{empty_sound}
use Rattle.rules.proofs.DemandTwo.{demand_two, empty_agrees}
use Rattle.rules.proofs.DemandThree.{any_merging, same_record}
use Rattle.rules.proofs.Lists.{answers_single, after_single, same_answers}

-- ---- one list after the other is a merging

alone : (ys : List Request) → Merging [] ys ys
alone [] = done
alone (y ∷ ys) = second (alone ys)

-- the first list first, and the second list first
pub in_turn : (xs ys : List Request) → Merging xs ys (xs ++ ys)
in_turn [] ys = alone ys
in_turn (x ∷ xs) ys = first (in_turn xs ys)

rest : (xs : List Request) → Merging xs [] xs
rest [] = done
rest (x ∷ xs) = first (rest xs)

pub other_turn : (xs ys : List Request) → Merging xs ys (ys ++ xs)
other_turn xs [] = rest xs
other_turn xs (y ∷ ys) = second (other_turn xs ys)

module _ (sh : Shape) where
  pub after_then : (b : Bench) (xs ys : List Request) → after sh b (xs ++ ys) ≡ after sh (after sh b xs) ys
  unfolding after
  after_then b [] ys = refl
  after_then b (x ∷ xs) ys = after_then (step sh b x).next xs ys

  all_answers : (b : Bench) (ys : List Request) → seconds (alone ys) (answers sh b ys) ≡ answers sh b ys
  unfolding alone seconds answers
  all_answers b [] = refl
  all_answers b (y ∷ ys) = ap (λ given. (step sh b y).answer ∷ given) (all_answers (step sh b y).next ys)

  -- the second list's answers are given on the bench that the first left
  later_answers : (b : Bench) (xs ys : List Request) → seconds (in_turn xs ys) (answers sh b (xs ++ ys)) ≡ answers sh (after sh b xs) ys
  unfolding in_turn seconds answers after
  later_answers b [] ys = all_answers b ys
  later_answers b (x ∷ xs) ys = later_answers (step sh b x).next xs ys

  pub alone_by_moss : (rs : List Request) → answers sh empty rs ≡ plain_answers sh plain_empty rs
  alone_by_moss rs = (demand_two sh empty plain_empty (empty_sound sh) (empty_agrees sh) rs).0

  module _ (symmetric : Symmetric sh) where
    -- who comes second is answered as if it were alone
    pub second_as_alone : (xs ys : List Request) → Apart sh xs ys → answers sh (after sh empty xs) ys ≡ plain_answers sh plain_empty ys
    second_as_alone xs ys apart = sym (later_answers empty xs ys) ∙ (any_merging sh symmetric xs ys (xs ++ ys) apart (in_turn xs ys)).1 ∙ alone_by_moss ys

    pub apart_swapped : (xs ys : List Request) → Apart sh xs ys → Apart sh ys xs
    apart_swapped xs ys apart =
        record {
          numbers = λ k h g. apart.numbers k g h;
          instruments = λ i m held h g. symmetric m held ∙ apart.instruments i held m g h;
        }

    -- ---- the same of lists of request records

    -- A list that is called first, and one that is called second.
    pub first_called : (es : List Entry) → answers_in (list_answered sh empty es) ≡ plain_answers sh plain_empty (requests_in es)
    first_called es = answers_single sh empty es ∙ alone_by_moss (requests_in es)

    pub second_called : (es fs : List Entry) → Apart sh (requests_in es) (requests_in fs) → answers_in (list_answered sh (after_list sh empty es) fs) ≡ plain_answers sh plain_empty (requests_in fs)
    second_called es fs apart =
        answers_single sh (after_list sh empty es) fs
        ∙ ap (λ b. answers sh b (requests_in fs)) (after_single sh empty es)
        ∙ second_as_alone (requests_in es) (requests_in fs) apart

    -- The list after its call is the same whether it is called first or second.
    pub second_as_first : (es fs : List Entry) → Apart sh (requests_in es) (requests_in fs) → list_answered sh (after_list sh empty es) fs ≡ list_answered sh empty fs
    second_as_first es fs apart =
        same_answers sh (after_list sh empty es) empty fs
        (sym (answers_single sh (after_list sh empty es) fs) ∙ second_called es fs apart ∙ sym (alone_by_moss (requests_in fs)))

    -- Both orders leave the same record.
    pub either_order : (es fs : List Entry) → Apart sh (requests_in es) (requests_in fs) → after_list sh (after_list sh empty es) fs ≡ after_list sh (after_list sh empty fs) es
    either_order es fs apart = left es fs ∙ same_record sh symmetric (requests_in es) (requests_in fs) _ _ apart (in_turn (requests_in es) (requests_in fs)) (other_turn (requests_in es) (requests_in fs)) ∙ sym (left fs es)
      where
        left : (es fs : List Entry) → after_list sh (after_list sh empty es) fs ≡ after sh empty (requests_in es ++ requests_in fs)
        left es fs =
            after_single sh (after_list sh empty es) fs
            ∙ ap (λ b. after sh b (requests_in fs)) (after_single sh empty es)
            ∙ sym (after_then empty (requests_in es) (requests_in fs))
