-- Thirty-two requests in one call: what a call gives is what single calls in list order give. Nothing but the answer places changes, one call is as good as two, and a
-- sound bench stays sound. Assumes nothing.
use mathlib.Core.Path.{◌≡◌, refl, sym, ◌∙◌, ap, ap₂}
use mathlib.Core.Bool.{true, false, ◌||◌}
use mathlib.Core.List.{List, [], ◌∷◌, ◌++◌, map}
use mathlib.Core.Option.{Option, none, some}
use Prim.Native.Nat.{ℕ, suc, ◌+◌, ◌<◌, ◌≤◌}
use native.Mathlib.Omega.{arith}
use borrow.Author.Tests.{lt-ltb, le-ltb}
use lib.Dec.{ltb, eqb}
use lib.ListN.{length, get_or, drop, length-append}
use Rattle.rules.specs.Bench.{Shape, Bench}
use Rattle.rules.specs.Sound.{sound}
use Rattle.rules.specs.Requests.{Request}
use Rattle.rules.specs.Answers.{answer_of, step, answered, answers, after}
use Rattle.rules.specs.Lists.{Entry, entry_request, with_answer, list_answered, after_list, call}
use Rattle.rules.specs.SingleCalls.{asked, requests_in, given, answers_in, is_request, others_hold, unsound_answer}
use Rattle.rules.proofs.Tests.{by_bool, and_both}
use Rattle.rules.proofs.Kept.{step_keeps_sound}

module _ (sh : Shape) where
  -- ---- single calls

  -- The answers at the places of the list's requests are those of single calls, and so is the bench.
  pub answers_single : (b : Bench) (es : List Entry) → answers_in (list_answered sh b es) ≡ answers sh b (requests_in es)
  unfolding list_answered requests_in answers_in answers
  answers_single b [] = refl
  answers_single b (e ∷ es) = one (λ b. answers_single b es) (entry_request e)
    where
      one : ((b : Bench) → answers_in (list_answered sh b es) ≡ answers sh b (requests_in es)) → (o : Option Request) →
          given o (answered sh b o).answer (answers_in (list_answered sh (answered sh b o).next es)) ≡ answers sh b (asked o (requests_in es))
      one rest none = rest b
      one rest (some r) = ap (λ xs. (step sh b r).answer ∷ xs) (rest (step sh b r).next)

  pub after_single : (b : Bench) (es : List Entry) → after_list sh b es ≡ after sh b (requests_in es)
  unfolding after_list requests_in after
  after_single b [] = refl
  after_single b (e ∷ es) = one (λ b. after_single b es) (entry_request e)
    where
      one : ((b : Bench) → after_list sh b es ≡ after sh b (requests_in es)) → (o : Option Request) → after_list sh (answered sh b o).next es ≡ after sh b (asked o (requests_in es))
      one rest none = rest b
      one rest (some r) = rest (step sh b r).next

  -- Every other place gets 8.
  pub others_get_8 : (b : Bench) (es : List Entry) → others_hold 8 (list_answered sh b es) ≡ true
  unfolding list_answered others_hold
  others_get_8 b [] = refl
  others_get_8 b (e ∷ es) = and_both (is_request (entry_request e) || eqb (answered sh b (entry_request e)).answer 8) _ (one (entry_request e)) (others_get_8 (answered sh b (entry_request e)).next es)
    where
      one : (o : Option Request) → (is_request o || eqb (answered sh b o).answer 8) ≡ true
      one none = refl
      one (some r) = refl

  -- Where the requests get the same answers on two benches, so do all places.
  pub same_answers : (b c : Bench) (es : List Entry) → answers sh b (requests_in es) ≡ answers sh c (requests_in es) → list_answered sh b es ≡ list_answered sh c es
  unfolding list_answered requests_in answers
  same_answers b c [] same = refl
  same_answers b c (e ∷ es) same = one (λ b c. same_answers b c es) (entry_request e) same
    where
      one : ((b c : Bench) → answers sh b (requests_in es) ≡ answers sh c (requests_in es) → list_answered sh b es ≡ list_answered sh c es) →
          (o : Option Request) → answers sh b (asked o (requests_in es)) ≡ answers sh c (asked o (requests_in es)) →
          (with_answer (answered sh b o).answer e ∷ list_answered sh (answered sh b o).next es) ≡ (with_answer (answered sh c o).answer e ∷ list_answered sh (answered sh c o).next es)
      one rest none same = ap (λ xs. with_answer 8 e ∷ xs) (rest b c same)
      one rest (some r) same =
          ap₂ (λ a xs. with_answer a e ∷ xs) (ap (λ xs. get_or xs 0 0) same)
          (rest (step sh b r).next (step sh c r).next (ap (drop 1) same))

  -- ---- nothing but the answer places changes

  pub length_answered : (b : Bench) (es : List Entry) → length (list_answered sh b es) ≡ length es
  unfolding list_answered
  length_answered b [] = refl
  length_answered b (e ∷ es) = ap suc (length_answered (answered sh b (entry_request e)).next es)

  pub only_answers : (a : ℕ) (b : Bench) (es : List Entry) → map (with_answer a) (list_answered sh b es) ≡ map (with_answer a) es
  unfolding list_answered
  only_answers a b [] = refl
  only_answers a b (e ∷ es) = ap (λ xs. with_answer a e ∷ xs) (only_answers a (answered sh b (entry_request e)).next es)

  -- ---- a list in two parts

  pub answered_parts : (b : Bench) (xs ys : List Entry) → list_answered sh b (xs ++ ys) ≡ list_answered sh b xs ++ list_answered sh (after_list sh b xs) ys
  unfolding list_answered after_list
  answered_parts b [] ys = refl
  answered_parts b (x ∷ xs) ys = let o = answered sh b (entry_request x) in ap (λ es. with_answer o.answer x ∷ es) (answered_parts o.next xs ys)

  pub after_parts : (b : Bench) (xs ys : List Entry) → after_list sh b (xs ++ ys) ≡ after_list sh (after_list sh b xs) ys
  unfolding after_list
  after_parts b [] ys = refl
  after_parts b (x ∷ xs) ys = after_parts (answered sh b (entry_request x)).next xs ys

  -- ---- the bench's soundness

  answered_keeps_sound : (b : Bench) (o : Option Request) → sound sh b ≡ true → sound sh (answered sh b o).next ≡ true
  answered_keeps_sound b none ok = ok
  answered_keeps_sound b (some r) ok = step_keeps_sound sh b r ok

  pub list_keeps_sound : (b : Bench) (es : List Entry) → sound sh b ≡ true → sound sh (after_list sh b es) ≡ true
  unfolding after_list
  list_keeps_sound b [] ok = ok
  list_keeps_sound b (e ∷ es) ok = list_keeps_sound (answered sh b (entry_request e)).next es (answered_keeps_sound b (entry_request e) ok)

  answered_unsound : (b : Bench) (o : Option Request) → sound sh b ≡ false → answered sh b o ≡ record { answer = unsound_answer o; next = b }
  unfolding step answer_of
  answered_unsound b none bad = refl
  answered_unsound b (some r) bad = rw bad

  -- On an unsound bench every place gets 7, or 8 where its kind is no request's, and the bench stays.
  pub unsound_answers : (b : Bench) (es : List Entry) → sound sh b ≡ false → list_answered sh b es ≡ map (λ e. with_answer (unsound_answer (entry_request e)) e) es
  unfolding list_answered
  unsound_answers b [] bad = refl
  unsound_answers b (e ∷ es) bad =
      ap (λ o. with_answer o.answer e ∷ list_answered sh o.next es) (answered_unsound b (entry_request e) bad)
      ∙ ap (λ xs. with_answer (unsound_answer (entry_request e)) e ∷ xs) (unsound_answers b es bad)

  pub unsound_stays : (b : Bench) (es : List Entry) → sound sh b ≡ false → after_list sh b es ≡ b
  unfolding after_list
  unsound_stays b [] bad = refl
  unsound_stays b (e ∷ es) bad = ap (λ o. after_list sh o.next es) (answered_unsound b (entry_request e) bad) ∙ unsound_stays b es bad

  -- ---- the call

  -- A list of at most 32 is played, whatever its bench.
  pub call_played : (b : Bench) (es : List Entry) → length es ≤ 32 → call sh b es ≡ record { answer = 0; list = list_answered sh b es; next = after_list sh b es }
  unfolding call
  call_played b es short = rw (le-ltb 32 (length es) short)

  -- A longer one is refused, whatever its bench, and list and bench stay.
  pub call_refused : (b : Bench) (es : List Entry) → 32 < length es → call sh b es ≡ record { answer = 11; list = es; next = b }
  unfolding call
  call_refused b es long = rw (lt-ltb 32 (length es) long)

  pub call_length : (b : Bench) (es : List Entry) → length (call sh b es).list ≡ length es
  unfolding call
  call_length b es = by_bool (ltb 32 (length es)) (λ t. rw t) (λ t. rw t (length_answered b es))

  pub call_only_answers : (a : ℕ) (b : Bench) (es : List Entry) → map (with_answer a) (call sh b es).list ≡ map (with_answer a) es
  unfolding call
  call_only_answers a b es = by_bool (ltb 32 (length es)) (λ t. rw t) (λ t. rw t (only_answers a b es))

  pub call_keeps_sound : (b : Bench) (es : List Entry) → sound sh b ≡ true → sound sh (call sh b es).next ≡ true
  unfolding call
  call_keeps_sound b es ok = by_bool (ltb 32 (length es)) (λ t. rw t ok) (λ t. rw t (list_keeps_sound b es ok))

  -- One call is as good as two with the parts of its list, the second on the bench that the first left.
  pub call_in_two : (b : Bench) (xs ys : List Entry) → length (xs ++ ys) ≤ 32 →
      call sh b (xs ++ ys) ≡ (let front = call sh b xs in let rest = call sh front.next ys in record { answer = 0; list = front.list ++ rest.list; next = rest.next })
  call_in_two b xs ys short =
      call_played b (xs ++ ys) short
      ∙ (λ j. record { answer = 0; list = answered_parts b xs ys j; next = after_parts b xs ys j })
      ∙ sym (ap₂ (λ front rest. record { answer = 0; list = front.list ++ rest.list; next = rest.next }) front rest)
    where
      long : length xs + length ys ≤ 32
      long = rw (length-append xs ys) at short

      front : call sh b xs ≡ record { answer = 0; list = list_answered sh b xs; next = after_list sh b xs }
      front = call_played b xs (omega (arith, long))

      rest : call sh (call sh b xs).next ys ≡ record { answer = 0; list = list_answered sh (after_list sh b xs) ys; next = after_list sh (after_list sh b xs) ys }
      rest = ap (λ c. call sh c.next ys) front ∙ call_played (after_list sh b xs) ys (omega (arith, long))
