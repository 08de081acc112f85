-- What the methods return to abort and quiet, in document 02's words, and that who drains keeps others from its instruments. Assumes nothing.
use Rattle.std.specs.Prelude.{if◌then◌else◌}
use mathlib.Core.Path.{◌≡◌, refl, sym, ◌∙◌, ap, fun_ext}
use mathlib.Core.Bool.{Bool, true, false, not, ◌&&◌, and-true, and-false, false≢true}
use mathlib.Core.Option.{none}
use Prim.Native.Nat.{ℕ, ◌<◌}
use native.Mathlib.Omega.{arith}
use lib.Dec.{eqb}
use Rattle.rules.specs.Tests.{any}
use Rattle.rules.specs.Bench as rules
use Rattle.rules.specs.Bench.{State, free, draining, in_tree}
use Rattle.rules.specs.Owners.{is_ancestor, stand_at, stand_somewhere}
use Rattle.rules.specs.Sound.{sound}
use Rattle.rules.specs.Requests.{ask, abort, quiet, without, quieted, effect}
use Rattle.rules.specs.ReadWrite.{reading, writing, read_write, read, write}
use Rattle.rules.proofs.Tests.{by_bool, clash, refuted}
use Rattle.rules.proofs.Facts.{sound_facts, under_head}
use Rattle.rules.proofs.Walks.{ancestor_in_tree}
use Rattle.rules.proofs.SetForm.{heir_owner}
use Rattle.rules.proofs.Draining.{draining_blocks}
use Rattle.bench.specs.declared.Bench.{Bench}
use Rattle.bench.specs.declared.Reply.{Reply}
use Rattle.bench.specs.Record.{viewed}
use Rattle.bench.specs.Plays.{Returns}
use Rattle.bench.proofs.Unique.{Fits, same_sets}
use Rattle.demands.specs.Moss.{in_read_set, in_write_set, Owns, Asker}
use Rattle.demands.specs.Draining.{in_subtree, in_group, some_stands, LeavesTree, LeavesInstrument}
use Rattle.demands.proofs.Methods.{kept_out, was_sound, next_view}
use Rattle.demands.proofs.KeptSound.{reply_keeps_sound}
use Rattle.demands.proofs.Listed.{by_place}
use Rattle.demands.proofs.KeptWithin.{view_within, nowhere, quieted_within}

-- ---- abort

module _ (b : Bench) (a : ℕ) (r : Reply) (fb : Fits b) (fr : Fits r.bench) (returned : Returns b (abort a) r) (accepted : r.answer ≡ 0) where
  leaves_tree : (s : State) → in_tree s ≡ false → (stands : ℕ → ℕ → ℕ → Bool) → ((m i k : ℕ) → stands m i k ≡ (viewed b).stands m i k) →
      viewed r.bench ≡ record {
        state = λ k. if in_subtree b a k then s else (viewed b).state k;
        parent = λ k. if in_subtree b a k then none else (viewed b).parent k;
        stands = stands;
      } → LeavesTree s b a r.bench
  leaves_tree s out stands kept is =
      record {
        reads_kept = same_sets r.bench.reads b.reads fr.reads_long fb.reads_long fr.reads_fit fb.reads_fit (sets reading);
        writes_kept = same_sets r.bench.writes b.writes fr.writes_long fb.writes_long fr.writes_fit fb.writes_fit (sets writing);
        states = λ k. ap (λ v. v.state k) is;
        parents = λ k. ap (λ v. v.parent k) is;
        nobodys_ancestor = λ k x l t.
            let gone : in_tree ((viewed r.bench).state k) ≡ false = ap (λ v. in_tree (v.state k)) is ∙ rw t out in
            refuted (is_ancestor read_write (viewed r.bench) k x)
            (λ h. false≢true (sym gone ∙ ancestor_in_tree read_write (viewed r.bench) ok k x l h));
      }
    where
      sets : (m i k : ℕ) → (viewed r.bench).stands m i k ≡ (viewed b).stands m i k
      sets m i k = ap (λ v. v.stands m i k) is ∙ kept m i k

      ok : sound read_write (viewed r.bench) ≡ true
      ok = reply_keeps_sound b r (abort a) (was_sound b (abort a) r returned accepted) returned

  -- `Bench::abort` of a subtree that stands in any set: it becomes draining under the aborted action.
  pub abort_drains : some_stands b (in_subtree b a) ≡ true → LeavesTree (draining a) b a r.bench
  unfolding effect
  abort_drains some = leaves_tree (draining a) refl (viewed b).stands (λ m i k. refl) (next_view b (abort a) r returned accepted ∙ rw some)

  -- A subtree in no set is freed.
  pub abort_frees : some_stands b (in_subtree b a) ≡ false → LeavesTree free b a r.bench
  unfolding effect
  abort_frees nobody =
      leaves_tree free refl (λ m i k. (viewed b).stands m i k && not (in_subtree b a k))
      (λ m i k. by_bool ((viewed b).stands m i k) (λ s. rw (s, nowhere (viewed b) (view_within b fb) (in_subtree b a) nobody m i k s)) (λ s. rw s))
      (next_view b (abort a) r returned accepted ∙ rw nobody)

-- ---- quiet

module _ (b : Bench) (a i : ℕ) (r : Reply) (fb : Fits b) (returned : Returns b (quiet a i) r) (accepted : r.answer ≡ 0) where
  abbrev group : ℕ → Bool
  group = in_group b a

  -- the record, read as a bench, without the group in the sets of i
  abbrev left : rules.Bench
  left = quieted group i (viewed b)

  abbrev SetsLeft : Type 0
  SetsLeft = (m at k : ℕ) → (viewed r.bench).stands m at k ≡ left.stands m at k

  -- who stands in a set is told by the sets
  stands_on : SetsLeft → some_stands r.bench group ≡ stand_somewhere read_write left group
  unfolding stand_somewhere stand_at
  stands_on sets =
      ap (λ f. any 128 (λ at. any 2 (λ m. any 64 (λ k. f m at k && group k)))) (fun_ext (λ m. fun_ext (λ at. fun_ext (sets m at))))

  waits : stand_somewhere read_write left group ≡ true → viewed r.bench ≡ left
  unfolding effect
  waits some = next_view b (quiet a i) r returned accepted ∙ rw some

  frees : stand_somewhere read_write left group ≡ false → viewed r.bench ≡ without group (viewed b)
  unfolding effect
  frees nobody = next_view b (quiet a i) r returned accepted ∙ rw nobody

  -- where none of the group is left in a set, it has left all of them
  all_left : stand_somewhere read_write left group ≡ false → (m at k : ℕ) → ((viewed b).stands m at k && not (group k)) ≡ left.stands m at k
  all_left nobody m at k =
      by_bool (group k)
      (λ t. ap (λ g. (viewed b).stands m at k && not g) t ∙ and-false ((viewed b).stands m at k)
      ∙ sym (refuted (left.stands m at k)
      (λ s. clash (group k) t (nowhere left (quieted_within (viewed b) (view_within b fb) group i) group nobody m at k s))))
      (λ t. rw (t, and-false (eqb at i)))

  -- who drains has no parent
  no_parent : (k : ℕ) → (if group k then none else (viewed b).parent k) ≡ (viewed b).parent k
  no_parent k =
      by_bool (group k)
      (λ t. rw t
      (sym (by_place k 64
      (λ l. ((sound_facts read_write (viewed b) (was_sound b (quiet a i) r returned accepted) k l).drains a (under_head (viewed b) a k t)).no_parent)
      ((view_within b fb).parents k))))
      (λ t. rw t)

  -- `Bench::quiet`: all numbers draining under a leave i's sets, and when none is left in any set they become free.
  pub quiet_leaves : LeavesInstrument b a i r.bench
  quiet_leaves =
      by_bool (stand_somewhere read_write left group)
      (λ some.
      let is = waits some in
      let sets : SetsLeft = λ m at k. ap (λ v. v.stands m at k) is in
      record {
        read_sets = sets reading;
        write_sets = sets writing;
        states = λ k. rw (stands_on sets, some, and-false (group k)) (ap (λ v. v.state k) is);
        parents = λ k. ap (λ v. v.parent k) is;
      })
      (λ nobody.
      let is = frees nobody in
      let sets : SetsLeft = λ m at k. ap (λ v. v.stands m at k) is ∙ all_left nobody m at k in
      record {
        read_sets = sets reading;
        write_sets = sets writing;
        states = λ k. rw (stands_on sets, nobody, and-true (group k)) (ap (λ v. v.state k) is);
        parents = λ k. ap (λ v. v.parent k) is ∙ no_parent k;
      })

-- ---- draining owners

-- While one stands at an instrument, an asker whom nothing else refuses is answered 6.
module _ (b : Bench) (a i h : ℕ) (r : Reply) (asker : Asker b a i) (drains : in_group b h h ≡ true) where
  kept_waiting : (m held : ℕ) → held < 2 → read_write.conflict m held ≡ true → Owns b ((viewed b).stands held i) h → Returns b (ask m a i) r → r.answer ≡ 6
  kept_waiting m held l c o returned =
      kept_out b a i r asker m returned
      (draining_blocks read_write (viewed b) asker.is_sound m held a i h l c
      (heir_owner read_write (viewed b) asker.is_sound held i o.number h o.known o.stands o.heir_is) drains asker.known asker.runs)

  pub read_waits_for_writer : Owns b (in_write_set b i) h → Returns b (read a i) r → r.answer ≡ 6
  read_waits_for_writer = kept_waiting reading writing (omega arith) refl

  pub write_waits_for_reader : Owns b (in_read_set b i) h → Returns b (write a i) r → r.answer ≡ 6
  write_waits_for_reader = kept_waiting writing reading (omega arith) refl

  pub write_waits_for_writer : Owns b (in_write_set b i) h → Returns b (write a i) r → r.answer ≡ 6
  write_waits_for_writer = kept_waiting writing writing (omega arith) refl
