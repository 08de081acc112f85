-- Whom an answer names in the arrays is whom the rules say, on the arrays before the answer and on those that it left. Assumes nothing.
use mathlib.Core.Path.{◌≡◌, refl, sym, ◌∙◌, ap}
use mathlib.Core.Bool.{Bool, true, false, not, ◌&&◌, ◌||◌, and-true, or-false, or_comm}
use mathlib.Core.List.{List}
use Rattle.std.specs.Prelude.{Some}
use Rattle.naming.specs.declared.Reason.{Reason}
use mathlib.Core.Option.{Option, none, some}
use Prim.Native.Nat.{ℕ, ◌+◌, ◌%◌, ◌≤◌, ◌<◌}
use native.Mathlib.Nat.{mod-eq_of_lt}
use native.Mathlib.Omega.{arith}
use borrow.Author.Tests.{eqb-true, eqb-false, ltb-true, ltb-false, lt-ltb, ne_eqb, not-true}
use lib.Dec.{eqb, ltb}
use lib.ListN.{get_or}
use Rattle.rules.specs.Tests.{any, from}
use Rattle.rules.specs.Bench as rules
use Rattle.rules.specs.Owners.{is_ancestor, is_owner, is_asker_or_ancestor, drains_under}
use Rattle.rules.specs.Sound.{sound}
use Rattle.rules.specs.Requests.{Request, ask}
use Rattle.rules.specs.Answers.{Outcome, answer_of, step, answered}
use Rattle.rules.specs.ReadWrite.{read_write, reading, writing, mode_of}
use Rattle.rules.specs.Reasons.{smallest, offending, is_running_child, child, blocks, blocker, named, owns_asked, reason_for, reason_of}
use Rattle.rules.proofs.Tests.{by_bool, and_left, and_right}
use Rattle.rules.proofs.Smallest.{smallest_cong, smallest_is}
use Rattle.rules.proofs.Reasons.{acting, answer_row, nobody_accepted, nobody_above, offending_named, child_found, refused_asks, blocker_found}
use Rattle.views.specs.Arrays.{LineEnded}
use Rattle.rules.specs.Frames.{framed}
use Rattle.views.specs.View.{sets_of, view, layout, arrays}
use Rattle.views.specs.Tree.{met_from}
use Rattle.views.specs.Reach.{owns_set}
use Rattle.tables.proofs.States.{running_byte}
use Rattle.tables.proofs.ViewLaws.{child_byte, parents_sound}
use Rattle.tables.proofs.Groups.{group_byte}
use Rattle.tables.proofs.Lines.{met_in_line}
use Rattle.tables.proofs.Owning.{owner_told}
use Rattle.tables.proofs.Steps.{step_refused}
use Rattle.naming.specs.Told.{told, nobody_for, named_for}
use Rattle.naming.specs.Blocking.{against_frame, blocks_in, blocked_in, child_with, offending_in, named_in}
use Rattle.naming.proofs.Frames.{offending_framed, child_framed, asked_framed, is_request}

module _ (b : rules.Bench) (q : Option Request) (n : ℕ) (e : n ≡ (reason_of read_write b q).answer) where
  told_nobody : ((r : Request) → named read_write b r n ≡ none) → nobody_for n ≡ told (reason_of read_write b q)
  unfolding reason_of reason_for
  told_nobody quiet = by_request q e
    where
      by_request : (q : Option Request) → n ≡ (reason_of read_write b q).answer → nobody_for n ≡ told (reason_of read_write b q)
      by_request none h = rw h
      by_request (some r) h = rw (← h, quiet r)

  told_named : (r : Request) (k : ℕ) → q ≡ some r → named read_write b r n ≡ some k → (n ≡ 6 → ⊥) → named_for n k ≡ told (reason_of read_write b q)
  unfolding reason_of reason_for
  told_named r k is found other =
      let h : n ≡ answer_of read_write b r = rw is at e in
      rw (is, ← h, found, ne_eqb n 6 other)

  -- ---- 0, 7, 8 and any other above 6 but 10

  accepted_told : n ≡ 0 → nobody_for n ≡ told (reason_of read_write b q)
  accepted_told z = told_nobody (λ r. rw z (nobody_accepted read_write b r))

  above_told : 6 < n → (n ≡ 10 → ⊥) → nobody_for n ≡ told (reason_of read_write b q)
  above_told l other = told_nobody (λ r. nobody_above read_write b r n l other)

-- ---- 1 to 4, and 10

ten_named : (b : rules.Bench) (r : Request) (n : ℕ) → n ≡ 10 → named read_write b r n ≡ some (offending read_write r n)
unfolding named
ten_named b r n ten = rw ten

module _ (b : rules.Bench) (code x y n : ℕ) (e : n ≡ (reason_of read_write b (framed code x y)).answer) where
  offender_told : ((r : Request) → named read_write b r n ≡ some (offending read_write r n)) → (n ≡ 8 → ⊥) → (n ≡ 6 → ⊥) → named_for n (offending_in code x y n) ≡ told (reason_of read_write b (framed code x y))
  offender_told names eight six =
      let request = is_request b (framed code x y) n e eight in
      let r = request.0 in
      told_named b (framed code x y) n e r (offending_in code x y n) request.1 (names r ∙ ap some (sym (offending_framed x y n code r request.1))) six

  offending_told : 0 < n → n ≤ 4 → named_for n (offending_in code x y n) ≡ told (reason_of read_write b (framed code x y))
  offending_told low high = offender_told (λ r. offending_named read_write b r n low high) (λ eight. omega arith) (λ six. omega arith)

  ten_told : n ≡ 10 → named_for n (offending_in code x y n) ≡ told (reason_of read_write b (framed code x y))
  ten_told ten = offender_told (λ r. ten_named b r n ten) (λ eight. omega arith) (λ six. omega arith)

-- ---- 5 and 6

named_child : (b : rules.Bench) (r : Request) (n k : ℕ) → n ≡ 5 → child read_write b r ≡ some k → named read_write b r n ≡ some k
unfolding named
named_child b r n k five found = rw five found

told_blocker : (b : rules.Bench) (q : Option Request) (m a i h : ℕ) → q ≡ some (ask m a i) → answer_of read_write b (ask m a i) ≡ 6 → smallest 64 (blocks read_write b m a i) ≡ some h → told (reason_of read_write b q) ≡ record { answer = 6; names = Some (record { number = h; reads = is_owner read_write b reading i h; writes = is_owner read_write b writing i h; drains = drains_under b h h }) }
unfolding named blocker owns_asked reason_of reason_for
told_blocker b q m a i h is answer found = rw (is, answer, found)

module _ (parents states reads writes : List ℕ) (code x y n : ℕ) (e : n ≡ (reason_of read_write (view parents states reads writes) (framed code x y)).answer) where
  abbrev b : rules.Bench
  b = view parents states reads writes

  -- the running children of a, by their bytes
  children_bytes : (a : ℕ) → smallest 64 (is_running_child b a) ≡ child_with parents states (a + 1)
  children_bytes a =
      smallest_cong 64 (is_running_child b a) (λ k. eqb (get_or states k 0) 1 && eqb (get_or parents k 0) (a + 1))
      (λ k l. rw (running_byte 64 (get_or states k 0), child_byte (get_or parents k 0) a))

  child_told : n ≡ 5 → named_for n (from (child_with parents states (x % 64 + 1)) 0 (λ k. k)) ≡ told (reason_of read_write b (framed code x y))
  child_told five =
      let request = is_request b (framed code x y) n e (λ eight. omega arith) in
      let r = request.0 in
      let c = child_found read_write b r (request.2 ∙ five) in
      let k = c.0 in
      let acts : acting r ≡ x = child_framed b k x y code r request.1 c.1 in
      let below : x < 64 = rw acts at c.3 in
      let first : child_with parents states (x % 64 + 1) ≡ some k = rw (mod-eq_of_lt below) (sym (children_bytes x) ∙ rw acts at c.2) in
      rw first (told_named b (framed code x y) n e r k request.1 (named_child b r n k five c.1) (λ six. omega arith))

  module _ (ok : sound read_write b ≡ true) where
    -- the owners by Moss's rules, as the bytes tell them
    owner_same : (m i h : ℕ) → is_owner read_write b m i h ≡ owns_set parents states (get_or (sets_of m reads writes) i 0) h
    owner_same = owner_told layout (arrays parents states reads writes) ok

    -- the asker's line is what is met going up from it
    line_same : (a h : ℕ) → a < 64 → is_asker_or_ancestor read_write b a h ≡ met_from parents a h
    unfolding is_asker_or_ancestor is_ancestor
    line_same a h l = sym (met_in_line 64 parents (parents_sound layout (arrays parents states reads writes) ok) a l h)

    -- the modes that conflict with the frame's
    conflicts_same : (owns : ℕ → Bool) → any 2 (λ held. read_write.conflict (mode_of (eqb code 4)) held && owns held) ≡ against_frame code (owns reading) (owns writing)
    unfolding any
    conflicts_same owns =
        by_bool (eqb code 4) (λ t. rw t (ap (λ s. owns writing || s) (or-false (owns reading)) ∙ or_comm (owns writing) (owns reading)))
        (λ t. rw t (or-false (owns writing)))

    blocks_same : (a i h : ℕ) → a < 64 → blocks read_write b (mode_of (eqb code 4)) a i h ≡ blocks_in parents states (get_or reads i 0) (get_or writes i 0) code a h
    unfolding blocks
    blocks_same a i h l =
        rw (conflicts_same (λ held. is_owner read_write b held i h), owner_same reading i h, owner_same writing i h, line_same a h l)

  -- A refused frame: it asks in its mode for its two numbers, which are of the table, and h is the smallest that blocks.
  record Refusal : Type 0 where
    request : framed code x y ≡ some (ask (mode_of (eqb code 4)) x y)
    known : x < 64
    instrument_known : y < 128
    is_sound : sound read_write b ≡ true
    answer : answer_of read_write b (ask (mode_of (eqb code 4)) x y) ≡ 6
    h : ℕ
    found : smallest 64 (blocks read_write b (mode_of (eqb code 4)) x y) ≡ some h

  refusal : n ≡ 6 → Refusal
  refusal six =
      let request = is_request b (framed code x y) n e (λ eight. omega arith) in
      let fact = refused_asks read_write b request.0 (request.2 ∙ six) in
      from_ask fact.m fact.a fact.i (request.1 ∙ ap some fact.is) fact.known fact.instrument_known (rw fact.is at (request.2 ∙ six))
    where
      from_frame : framed code x y ≡ some (ask (mode_of (eqb code 4)) x y) → x < 64 → y < 128 → answer_of read_write b (ask (mode_of (eqb code 4)) x y) ≡ 6 → Refusal
      from_frame is lx ly answer =
          let block = blocker_found read_write b (mode_of (eqb code 4)) x y answer in
          record {
            request = is;
            known = lx;
            instrument_known = ly;
            is_sound = (answer_row read_write b (ask (mode_of (eqb code 4)) x y) 6 answer (λ seven. omega arith)).0;
            answer = answer;
            h = block.0;
            found = block.1;
          }

      from_ask : (m a i : ℕ) → framed code x y ≡ some (ask m a i) → a < 64 → i < 128 → answer_of read_write b (ask m a i) ≡ 6 → Refusal
      from_ask m a i is la li answer =
          let same : ask m a i ≡ ask (mode_of (eqb code 4)) x y = asked_framed x y code m a i is in
          let ea : a ≡ x = cc in
          let ei : i ≡ y = cc in
          from_frame (is ∙ ap some same) (rw ea at la) (rw ei at li) (rw same at answer)

  abbrev blocked_reason : Reason
  blocked_reason = record { answer = n; names = Some (blocked_in parents states (get_or reads (y % 128) 0) (get_or writes (y % 128) 0) code (x % 64)) }

  blocked_told : n ≡ 6 → blocked_reason ≡ told (reason_of read_write b (framed code x y))
  blocked_told six = by_refusal (refusal six)
    where
      by_refusal : Refusal → blocked_reason ≡ told (reason_of read_write b (framed code x y))
      by_refusal f =
          let blocking : ℕ → Bool = blocks_in parents states (get_or reads y 0) (get_or writes y 0) code x in
          let here : smallest 64 blocking ≡ some f.h =
          sym (smallest_cong 64 (blocks read_write b (mode_of (eqb code 4)) x y) blocking (λ k l. blocks_same f.is_sound x y k f.known)) ∙ f.found in
          let known = (smallest_is 64 blocking f.h here).known in
          rw (
            six,
            mod-eq_of_lt f.known,
            mod-eq_of_lt f.instrument_known,
            here,
            ← owner_same f.is_sound reading y f.h,
            ← owner_same f.is_sound writing y f.h,
            lt-ltb f.h 64 known,
            ← group_byte layout (arrays parents states reads writes) f.h f.h known,
          )
          (sym (told_blocker b (framed code x y) (mode_of (eqb code 4)) x y f.h f.request f.answer f.found))

  -- each answer is told as its row says
  pub named_told : named_in parents states (get_or reads (y % 128) 0) (get_or writes (y % 128) 0) code x y n ≡ told (reason_of read_write b (framed code x y))
  named_told =
      by_bool (eqb n 0) (λ t. rw t (accepted_told b (framed code x y) n e (eqb-true n 0 t)))
      (λ some_refusal.
      by_bool (ltb 6 n && not (eqb n 10))
      (λ t. rw (some_refusal, t) (above_told b (framed code x y) n e (ltb-true 6 n (and_left (ltb 6 n) (not (eqb n 10)) t)) (eqb-false n 10 (not-true (eqb n 10) (and_right (ltb 6 n) (not (eqb n 10)) t)))))
      (λ low.
      by_bool (eqb n 6) (λ t. rw (some_refusal, low, t) (blocked_told (eqb-true n 6 t)))
      (λ no_blocker.
      by_bool (eqb n 5) (λ t. rw (some_refusal, low, no_blocker, t) (child_told (eqb-true n 5 t)))
      (λ no_child.
      rw (some_refusal, low, no_blocker, no_child)
      (by_bool (eqb n 10) (λ t. ten_told b code x y n e (eqb-true n 10 t))
      (λ t. offending_told b code x y n e (above_zero (eqb-false n 0 some_refusal)) (below_five (ltb-false 6 n (sym (and-true (ltb 6 n)) ∙ rw t at low)) (eqb-false n 6 no_blocker) (eqb-false n 5 no_child))))))))
    where
      above_zero : (n ≡ 0 → ⊥) → 0 < n
      above_zero h = omega arith

      below_five : n ≤ 6 → (n ≡ 6 → ⊥) → (n ≡ 5 → ⊥) → n ≤ 4
      below_five l six five = omega arith

-- ---- after the step

-- the answer of a line's request is the reason's
answered_reason : (b : rules.Bench) (q : Option Request) → (answered read_write b q).answer ≡ (reason_of read_write b q).answer
unfolding step reason_of reason_for
answered_reason b none = refl
answered_reason b (some r) = refl

-- a refused request leaves the bench as it was
refused_kept : (b : rules.Bench) (q : Option Request) → ((answered read_write b q).answer ≡ 0 → ⊥) → (answered read_write b q).next ≡ b
unfolding step
refused_kept b none h = refl
refused_kept b (some r) h = ap (λ (o : Outcome). o.next) (sym (step_refused read_write b r (answer_of read_write b r) refl h))

-- Once a line has ended, whom its answer names can be looked for in the arrays that it left.
pub told_after : {ok : Bool} {parents states reads writes : List ℕ} {answer : ℕ} {parents' states' reads' writes' : List ℕ} (code x y : ℕ) → LineEnded ok (framed code x y) parents states reads writes answer parents' states' reads' writes' → named_in parents' states' (get_or reads' (y % 128) 0) (get_or writes' (y % 128) 0) code x y answer ≡ told (reason_of read_write (view parents states reads writes) (framed code x y))
told_after {parents = parents} {states = states} {reads = reads} {writes = writes} {answer = answer} {parents' = parents'} {states' = states'} {reads' = reads'} {writes' = writes'} code x y m =
    by_bool (eqb answer 0)
    (λ t. rw t (accepted_told before q answer e (eqb-true answer 0 t)))
    (λ t. named_told parents' states' reads' writes' code x y answer (e ∙ ap (λ b. (reason_of read_write b q).answer) (sym (kept t)))
    ∙ ap (λ b. told (reason_of read_write b q)) (kept t))
  where
    before : rules.Bench
    before = view parents states reads writes

    q : Option Request
    q = framed code x y

    is : answer ≡ (answered read_write before q).answer
    is = ap (λ (o : Outcome). o.answer) m.outcome

    e : answer ≡ (reason_of read_write before q).answer
    e = is ∙ answered_reason before q

    kept : eqb answer 0 ≡ false → view parents' states' reads' writes' ≡ before
    kept t = ap (λ (o : Outcome). o.next) m.outcome ∙ refused_kept before q (λ z. eqb-false answer 0 t (is ∙ z))
