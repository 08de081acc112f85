-- The sets that a player keeps beside the arrays, after each request: those of a bench become those of the next one. Assumes nothing.
use mathlib.Core.Path.{◌≡◌, refl, sym, ◌∙◌, ap}
use mathlib.Core.Bool.{true, false, not, ◌&&◌, ◌||◌, or-false, or_comm, and-true, and-false}
use mathlib.Core.List.{List}
use mathlib.Core.Option.{none, some}
use Prim.Native.Nat.{ℕ, ◌<◌}
use borrow.Author.Tests.{eqb-true, eqb-false, eq-eqb}
use lib.Dec.{eqb}
use lib.ListN.{length, get_or, set, length-set}
use lib.Seq.{get_or-set_same, get_or-set_other}
use Rattle.sets.specs.Sets.{member, with, difference}
use Rattle.sets.proofs.Laws.{member_empty, member_with, member_difference}
use Rattle.rules.specs.Tests.{from}
use Rattle.rules.specs.Bench.{Shape, Bench, running, committed, is_free, is_running}
use Rattle.rules.specs.Owners.{is_child, is_ancestor, in_family}
use Rattle.rules.specs.Sound.{sound}
use Rattle.rules.specs.Requests.{open_top, open_sub, ask, commit, put, without, effect}
use Rattle.rules.proofs.Tests.{by_bool, by_parent, clash, same, refuted, by_or, from_cong}
use Rattle.rules.proofs.Facts.{tree_in_use, runs_in_use, SoundNumber, sound_facts}
use Rattle.rules.proofs.Family.{family_child}
use Rattle.rules.proofs.Accepted.{OpensTop, OpensSub}
use Rattle.tables.specs.Index.{LineSets, Indexed}
use Rattle.tables.proofs.Stores.{store_shown, with_shown, left_shown}
use Rattle.rules.proofs.SetForm.{eqb_comm}

-- benches that agree in states and parents have the same sets
pub indexed_same : (n : ℕ) (b c : Bench) (children lines : List ℕ) (runs : ℕ) → ((k : ℕ) → c.state k ≡ b.state k) → ((k : ℕ) → c.parent k ≡ b.parent k) →
    Indexed n b children lines runs → Indexed n c children lines runs
indexed_same n b c children lines runs states parents h =
    record {
      of_children = record {
        long = h.of_children.long;
        each = λ p k lp lk u. rw (parents k) (h.of_children.each p k lp lk (rw (states p) at u));
      };
      of_lines = record { long = h.of_lines.long; each = λ k x lk u. rw (parents k) (h.of_lines.each k x lk (rw (states k) at u)) };
      of_running = λ k lk. rw (states k) (h.of_running k lk);
    }

module _ (sh : Shape) (b : Bench) (ok : sound sh b ≡ true) where
  abbrev n : ℕ
  n = sh.actions

  facts : (k : ℕ) → k < n → SoundNumber sh b k
  facts = sound_facts sh b ok

  -- a parent isn't free, so a free number is nobody's parent
  parent_not_free : (new k p : ℕ) → k < n → is_free (b.state new) ≡ true → b.parent k ≡ some p → p ≡ new → ⊥
  parent_not_free new k p lk free e same = clash (is_free (b.state new)) free (tree_in_use (b.state new) (rw same at ((facts k lk).parent_in_tree p e)))

  free_childless : (new k : ℕ) → k < n → is_free (b.state new) ≡ true → is_child b new k ≡ false
  free_childless new k lk free =
      by_parent (b.parent k) (λ e. rw e)
      (λ p e. rw e (refuted (eqb p new) (λ t. parent_not_free new k p lk free e (eqb-true p new t))))

  -- ---- after each request

  module _ (children lines : List ℕ) (runs : ℕ) (h : Indexed n b children lines runs) where
    pub indexed_asked : (m a i : ℕ) → Indexed n (effect sh b (ask m a i)) children lines runs
    unfolding effect
    indexed_asked m a i =
        indexed_same n b (effect sh b (ask m a i)) children lines runs (λ k. refl) (λ k. refl) h

    -- one number more runs
    running_opened : (new k : ℕ) → new < n → k < n → member (with n runs new) k ≡ is_running (put new running b.state k)
    running_opened new k ln lk =
        member_with n runs new k ln
        ∙ by_bool (eqb k new) (λ t. rw t (or_comm (member runs k) true)) (λ t. rw t (or-false (member runs k) ∙ h.of_running k lk))

    -- a free number that is opened has no children yet
    children_opened : (new q k : ℕ) → new < n → q < n → k < n → is_free (b.state new) ≡ true → is_free (put new running b.state q) ≡ false →
        member (get_or (set children new 0) q 0) k ≡ is_child b q k
    children_opened new q k ln lq lk free u =
        store_shown (λ s. member s k) children new 0 q (rw h.of_children.long ln)
        ∙ by_bool (eqb q new)
        (λ t. rw (t, eqb-true q new t) (member_empty k ∙ sym (free_childless new k lk free)))
        (λ t. rw t (h.of_children.each q k lq lk (rw t at u)))

    -- the line of a number that is opened: itself with s, which is the line of its parent
    lines_opened : (c : Bench) (new s : ℕ) → new < n → is_free (b.state new) ≡ true → ((k : ℕ) → c.state k ≡ put new running b.state k) →
        ((k : ℕ) → eqb k new ≡ false → c.parent k ≡ b.parent k) →
        ((x : ℕ) → member s x ≡ from (c.parent new) false (λ p. member (get_or (set lines new (with n s new)) p 0) x)) → LineSets n c (set lines new (with n s new))
    lines_opened c new s ln free states parents itself =
        record {
          long = length-set lines new (with n s new) ∙ h.of_lines.long;
          each = λ k x lk u. by_bool (eqb k new) (λ t. rw (eqb-true k new t) (opened x)) (λ t. other k x lk t (rw (states k, t) at u));
        }
      where
        opened : (x : ℕ) →
            member (get_or (set lines new (with n s new)) new 0) x ≡ (eqb x new || from (c.parent new) false (λ p. member (get_or (set lines new (with n s new)) p 0) x))
        opened x =
            rw (get_or-set_same lines new (with n s new) 0 (rw h.of_lines.long ln), member_with n s new x ln, ← itself x)
            (or_comm (member s x) (eqb x new))

        other : (k x : ℕ) → k < n → eqb k new ≡ false → is_free (b.state k) ≡ false →
            member (get_or (set lines new (with n s new)) k 0) x ≡ (eqb x k || from (c.parent k) false (λ p. member (get_or (set lines new (with n s new)) p 0) x))
        other k x lk t u =
            rw (get_or-set_other lines new k (with n s new) 0 (eqb-false k new t), parents k t)
            (h.of_lines.each k x lk u
            ∙ ap (λ v. eqb x k || v)
            (from_cong (b.parent k) false (λ p v. v) (λ p. member (get_or lines p 0) x) (λ p. member (get_or (set lines new (with n s new)) p 0) x)
            (λ p e. ap (λ v. member v x) (sym (get_or-set_other lines new p (with n s new) 0 (parent_not_free new k p lk free e))))))

    pub indexed_opened_top : (new : ℕ) → OpensTop sh b new → Indexed n (effect sh b (open_top new)) (set children new 0) (set lines new (with n 0 new)) (with n runs new)
    unfolding effect
    indexed_opened_top new o =
        record {
          of_children = record {
            long = length-set children new 0 ∙ h.of_children.long;
            each = λ q k lq lk u. children_opened new q k o.known lq lk o.was_free u;
          };
          of_lines = lines_opened (effect sh b (open_top new)) new 0 o.known o.was_free (λ k. refl) (λ k t. refl)
              (λ x. rw ((facts new o.known).free_has_no_parent o.was_free) (member_empty x));
          of_running = λ k lk. running_opened new k o.known lk;
        }

    pub indexed_opened_sub : (new p : ℕ) → OpensSub sh b new p →
        Indexed n (effect sh b (open_sub new p)) (set (set children new 0) p (with n (get_or (set children new 0) p 0) new))
        (set lines new (with n (get_or lines p 0) new)) (with n runs new)
    unfolding effect
    indexed_opened_sub new p o =
        record {
          of_children = record {
            long = length-set (set children new 0) p (with n (get_or (set children new 0) p 0) new) ∙ long;
            each = λ q k lq lk u.
                with_shown n (set children new 0) new p q k o.known (rw long o.parent_known)
                ∙ rw (children_opened new q k o.known lq lk o.was_free u) (child q k);
          };
          of_lines = lines_opened (effect sh b (open_sub new p)) new (get_or lines p 0) o.known o.was_free (λ k. refl) (λ k t. rw t)
              (λ x. rw (eq-eqb new new refl) (ap (λ v. member v x) (sym (get_or-set_other lines new p (with n (get_or lines p 0) new) 0 apart))));
          of_running = λ k lk. running_opened new k o.known lk;
        }
      where
        long : length (set children new 0) ≡ n
        long = length-set children new 0 ∙ h.of_children.long

        -- p runs and new is free
        apart : p ≡ new → ⊥
        apart e = clash (is_free (b.state new)) o.was_free (runs_in_use (b.state new) (rw e at o.parent_runs))

        child : (q k : ℕ) → (is_child b q k || (eqb q p && eqb k new)) ≡ from (put new (some p) b.parent k) false (λ x. eqb x q)
        child q k =
            by_bool (eqb k new)
            (λ t. rw (t, eqb-true k new t, (facts new o.known).free_has_no_parent o.was_free) (and-true (eqb q p) ∙ eqb_comm q p))
            (λ t. rw (t, and-false (eqb q p)) (or-false (is_child b q k)))

    -- ---- a number runs no more, and a set of numbers has gone

    -- of the running numbers those are left that are neither a nor gone
    running_left : (gone a k : ℕ) → a < n → k < n → member (difference runs (with n gone a)) k ≡ (is_running (b.state k) && not (member gone k || eqb k a))
    running_left gone a k la lk =
        member_difference runs (with n gone a) k ∙ rw (h.of_running k lk, member_with n gone a k la)

    pub indexed_committed : (a p : ℕ) → a < n → is_running (b.state a) ≡ true → b.parent a ≡ some p →
        Indexed n (effect sh b (commit a)) (set children p (difference (get_or children p 0) 0)) lines (difference runs (with n 0 a))
    unfolding effect
    indexed_committed a p la r e =
        rw e (record {
          of_children = record {
            long = length-set children p (difference (get_or children p 0) 0) ∙ h.of_children.long;
            each = λ q k lq lk u. unchanged q k ∙ h.of_children.each q k lq lk (was q u);
          };
          of_lines = record { long = h.of_lines.long; each = λ k x lk u. h.of_lines.each k x lk (was k u) };
          of_running = λ k lk. running_left 0 a k la lk ∙ marked k;
        })
      where
        -- nobody has left the children of p
        unchanged : (q k : ℕ) → member (get_or (set children p (difference (get_or children p 0) 0)) q 0) k ≡ member (get_or children q 0) k
        unchanged q k =
            left_shown children p 0 q k (rw h.of_children.long ((facts a la).parent_known p e))
            ∙ rw (member_empty k, and-false (eqb q p)) (and-true (member (get_or children q 0) k))

        -- the numbers that aren't free are those that weren't
        was : (k : ℕ) → is_free (put a committed b.state k) ≡ false → is_free (b.state k) ≡ false
        was k u = by_bool (eqb k a) (λ t. rw (eqb-true k a t) (runs_in_use (b.state a) r)) (λ t. rw t at u)

        marked : (k : ℕ) → (is_running (b.state k) && not (member 0 k || eqb k a)) ≡ is_running (put a committed b.state k)
        marked k =
            rw (member_empty k)
            (by_bool (eqb k a) (λ t. rw t (and-false (is_running (b.state k)))) (λ t. rw t (and-true (is_running (b.state k)))))

    module _ (a gone : ℕ) (la : a < n) (family : (k : ℕ) → member gone k ≡ in_family sh b a k) where
      -- a survivor isn't of the family, and wasn't free
      survives : (k : ℕ) → is_free ((without (in_family sh b a) b).state k) ≡ false → (in_family sh b a k ≡ false) × (is_free (b.state k) ≡ false)
      survives k u =
          by_bool (in_family sh b a k) (λ t. clash true refl (rw t at u)) (λ t. (t, rw t at u))

      -- a child of a survivor is of the family only if it is a
      leaves : (q k : ℕ) → k < n → in_family sh b a k ≡ true → in_family sh b a q ≡ false → is_child b q k ≡ true → k ≡ a
      leaves q k lk inside outside child =
          by_parent (b.parent k) (λ e. clash false (rw e at child) refl)
          (λ p e. by_or (eqb k a) (in_family sh b a p) (sym (family_child sh b ok a k p lk e) ∙ inside) (eqb-true k a)
          (λ t. clash (in_family sh b a q) (rw (eqb-true p q (rw e at child)) at t) outside))

      -- who runs after the family has gone: a is of it
      gone_all : (k : ℕ) → (is_running (b.state k) && not (in_family sh b a k || eqb k a)) ≡ is_running ((without (in_family sh b a) b).state k)
      unfolding in_family
      gone_all k =
          by_bool (eqb k a) (λ t. rw t (and-false (is_running (b.state k))))
          (λ t. rw t
          (by_bool (is_ancestor sh b a k) (λ s. rw s (and-false (is_running (b.state k)))) (λ s. rw s (and-true (is_running (b.state k))))))

      -- the children after a family has left those of a's parent
      freed : (left : List ℕ) → length left ≡ n → ((q k : ℕ) → member (get_or left q 0) k ≡ (member (get_or children q 0) k && not (is_child b q a && member gone k))) →
          Indexed n (without (in_family sh b a) b) left lines (difference runs (with n gone a))
      freed left long each =
          record {
            of_children = record {
              long = long;
              each = λ q k lq lk u. each q k ∙ rw (h.of_children.each q k lq lk (survives q u).1, family k) (child q k lk (survives q u).0);
            };
            of_lines = record {
              long = h.of_lines.long;
              each = λ k x lk u. rw (survives k u).0 (h.of_lines.each k x lk (survives k u).1);
            };
            of_running = λ k lk. running_left gone a k la lk ∙ rw (family k) (gone_all k);
          }
        where
          child : (q k : ℕ) → k < n → in_family sh b a q ≡ false → (is_child b q k && not (is_child b q a && in_family sh b a k)) ≡ is_child (without (in_family sh b a) b) q k
          child q k lk outside =
              by_bool (in_family sh b a k)
              (λ inside. rw (inside, and-true (is_child b q a))
              (by_bool (is_child b q k)
              (λ t. let own = rw (leaves q k lk inside outside t) at t in rw (own, and-false (is_child b q k)))
              (λ t. rw t)))
              (λ t. rw (t, and-false (is_child b q a)) (and-true (is_child b q k)))

      -- of a top
      pub indexed_freed_top : b.parent a ≡ none → Indexed n (without (in_family sh b a) b) children lines (difference runs (with n gone a))
      indexed_freed_top e = freed children h.of_children.long (λ q k. rw e (sym (and-true (member (get_or children q 0) k))))

      -- of a sub
      pub indexed_freed_sub : (p : ℕ) → b.parent a ≡ some p →
          Indexed n (without (in_family sh b a) b) (set children p (difference (get_or children p 0) gone)) lines (difference runs (with n gone a))
      indexed_freed_sub p e =
          freed (set children p (difference (get_or children p 0) gone)) (length-set children p (difference (get_or children p 0) gone) ∙ h.of_children.long)
          (λ q k. rw (e, eqb_comm p q) (left_shown children p gone q k (rw h.of_children.long ((facts a la).parent_known p e))))
