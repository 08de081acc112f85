-- A sound bench names whom the plain machine of Moss's rules would name, and says of it the modes in which it is an owner there and whether it waits there.
-- Assumes nothing.
use mathlib.Core.Path.{◌≡◌, sym, ◌∙◌}
use mathlib.Core.Bool.{true, ◌&&◌}
use mathlib.Core.Option.{some}
use Prim.Native.Nat.{ℕ, ◌<◌}
use Rattle.rules.specs.Bench.{Shape, Bench}
use Rattle.rules.specs.Owners.{is_owner, is_asker_or_ancestor}
use Rattle.rules.specs.Sound.{sound}
use Rattle.rules.specs.Requests.{Request, ask}
use Rattle.rules.specs.Answers.{answer_of}
use Rattle.rules.specs.Plain.{Plain, waits_with}
use Rattle.rules.specs.Agrees.{Agrees}
use Rattle.rules.specs.Reasons.{smallest, is_running_child, blocks, blocker, named, reason_of}
use Rattle.rules.specs.PlainReasons.{plain_child, plain_blocks}
use Rattle.rules.proofs.Tests.{any_cong}
use Rattle.rules.proofs.Smallest.{smallest_cong}
use Rattle.rules.proofs.PlainAnswers.{ancestors_same, parent_same}
use Rattle.rules.proofs.Reasons.{Refused, acting, child_found, refused_asks, reason_told}

module _ (sh : Shape) (b : Bench) (s : Plain) (ok : sound sh b ≡ true) (agrees : Agrees sh b s) where
  blocks_same : (m a i h : ℕ) → a < sh.actions → i < sh.instruments → h < sh.actions → blocks sh b m a i h ≡ plain_blocks sh s m a i h
  unfolding blocks is_asker_or_ancestor
  blocks_same m a i h la li lh =
      rw (
        any_cong sh.modes (λ held. sh.conflict m held && is_owner sh b held i h) (λ held. sh.conflict m held && s.owns held i h)
            (λ held lm. rw (agrees.owns held i h lm li lh)),
        ancestors_same sh b s ok agrees h a la,
      )

  -- An answer 6 names the smallest of the plain machine's owners that blocks.
  pub blocker_plain : (m a i : ℕ) → answer_of sh b (ask m a i) ≡ 6 → named sh b (ask m a i) 6 ≡ smallest sh.actions (plain_blocks sh s m a i)
  unfolding named blocker
  blocker_plain m a i e = by_facts (refused_asks sh b (ask m a i) e)
    where
      by_facts : Refused sh b (ask m a i) → smallest sh.actions (blocks sh b m a i) ≡ smallest sh.actions (plain_blocks sh s m a i)
      by_facts f =
          let same : ask m a i ≡ ask f.m f.a f.i = f.is in
          let ea : f.a ≡ a = cc in
          let ei : f.i ≡ i = cc in
          smallest_cong sh.actions (blocks sh b m a i) (plain_blocks sh s m a i)
          (λ h lh. blocks_same m a i h (rw ea at f.known) (rw ei at f.instrument_known) lh)

  -- The reason says of the named one in which modes it is an owner there, and whether it waits there.
  pub reason_plain : (m a i : ℕ) → answer_of sh b (ask m a i) ≡ 6 → (h : ℕ) × ((reason_of sh b (some (ask m a i))).names ≡ some h) × ((held : ℕ) → held < sh.modes → (reason_of sh b (some (ask m a i))).owns held ≡ s.owns held i h) × ((reason_of sh b (some (ask m a i))).drains ≡ waits_with s h h)
  reason_plain m a i e =
      let found = reason_told sh b m a i e in
      let f = refused_asks sh b (ask m a i) e in
      let same : ask m a i ≡ ask f.m f.a f.i = f.is in
      let ei : f.i ≡ i = cc in
      let lh = found.1 in (
        found.0,
        found.2,
        λ held lm. found.3 held ∙ sym (agrees.owns held i found.0 lm (rw ei at f.instrument_known) lh),
        rw (agrees.heads found.0 lh) found.4,
      )

  -- An answer 5 names the plain machine's smallest running child.
  pub child_plain : (r : Request) → answer_of sh b r ≡ 5 → named sh b r 5 ≡ smallest sh.actions (plain_child s (acting r))
  unfolding named
  child_plain r e =
      let found = child_found sh b r e in
      found.1
      ∙ sym found.2
      ∙ smallest_cong sh.actions (is_running_child b (acting r)) (plain_child s (acting r))
      (λ k l. rw (agrees.runs k l, parent_same sh b s ok agrees (acting r) k l))
