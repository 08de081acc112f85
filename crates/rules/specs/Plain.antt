-- The plain machine (document 01, "The plain machine of demand 2"): Moss's rules as a reader knows them, with sets of running owners only, and one
-- draining owner for each aborted family that has to wait for its instruments (document 02, order 2). With the bench
-- it shares the words of the requests, the table's measures, the tests that compute, and which modes conflict; that reading and writing conflict as document
-- 01 says is stated by itself (proofs/Grants). Nothing else is shared: an action here carries the list of its ancestors from the moment it is opened, and nobody
-- walks from parent to parent.
use Rattle.std.specs.Prelude.{Bool, true, false, not, ◌&&◌, ◌||◌, List, [], ◌∷◌, ℕ, eqb, leb, if◌then◌else◌}
use Rattle.std.proofs.Math.Option.{Option, none, some}
use Rattle.rules.specs.Tests.{◌⇒◌, all, any, from}
use Rattle.rules.specs.Bench.{Shape}
use Rattle.rules.specs.Requests.{Request, open_top, open_sub, ask, commit, abort, quiet, put}

-- Which numbers are in use and which of those run; the ancestors of each, the parent first; the aborted action with which a number has to wait, its
-- head; and the owners of each instrument in each mode, running or draining: `owns m i k`.
pub record Plain : Type 0 where
  pub used : ℕ → Bool
  pub runs : ℕ → Bool
  pub ancestors : ℕ → List ℕ
  pub heads : ℕ → Option ℕ
  pub owns : ℕ → ℕ → ℕ → Bool

-- nothing is in use and nothing is owned
abbrev pub plain_empty : Plain
plain_empty = record { used = λ k. false; runs = λ k. false; ancestors = λ k. []; heads = λ k. none; owns = λ m i k. false }

abbrev pub is_in : ℕ → List ℕ → Bool
is_in x [] = false
is_in x (y ∷ ys) = eqb y x || is_in x ys

-- the parent stands first among the ancestors
abbrev pub is_parent : ℕ → List ℕ → Bool
is_parent x [] = false
is_parent x (y ∷ ys) = eqb y x

-- An action can be granted a mode if all owners in a conflicting mode are that action or ancestors of it.
unfoldable pub may_own : Shape → Plain → ℕ → ℕ → ℕ → Bool
may_own sh s m a i =
    all sh.modes (λ held. sh.conflict m held ⇒ all sh.actions (λ h. s.owns held i h ⇒ (eqb h a || is_in h (s.ancestors a))))

unfoldable pub running_child : Shape → Plain → ℕ → Bool
running_child sh s a = any sh.actions (λ k. s.runs k && is_parent a (s.ancestors k))

-- k waits with head a
abbrev pub waits_with : Plain → ℕ → ℕ → Bool
waits_with s a k = from (s.heads k) false (λ h. eqb h a)

-- a owns instrument i in some mode
unfoldable pub owns_at : Shape → Plain → ℕ → ℕ → Bool
owns_at sh s a i = any sh.modes (λ m. s.owns m i a)

-- the answers 1 to 6, 10, and 0
unfoldable pub plain_answer : Shape → Plain → Request → ℕ
plain_answer sh s (open_top n) = if leb sh.actions n then 1 else if s.used n then 3 else 0
plain_answer sh s (open_sub n p) =
    if leb sh.actions n || leb sh.actions p then 1
    else if s.used n then 3
    else if not (s.runs p) then 4
    else 0
plain_answer sh s (ask m a i) =
    if leb sh.actions a then 1
    else if leb sh.instruments i then 2
    else if not (s.runs a) then 4
    else if running_child sh s a then 5
    else if not (may_own sh s m a i) then 6
    else 0
plain_answer sh s (commit a) =
    if leb sh.actions a then 1
    else if not (s.runs a) then 4
    else if running_child sh s a then 5
    else 0
plain_answer sh s (abort a) = if leb sh.actions a then 1 else if not (s.runs a) then 4 else 0
plain_answer sh s (quiet a i) =
    if leb sh.actions a then 1
    else if leb sh.instruments i then 2
    else if not (waits_with s a a) || not (owns_at sh s a i) then 10
    else 0

-- a and its descendants
abbrev pub plain_family : Plain → ℕ → ℕ → Bool
plain_family s a k = eqb k a || is_in a (s.ancestors k)

-- a and its descendants are no longer in use
abbrev pub taken_out : ℕ → Plain → Plain
taken_out a s =
    record {
      used = λ k. s.used k && not (plain_family s a k);
      runs = λ k. s.runs k && not (plain_family s a k);
      ancestors = λ k. if plain_family s a k then [] else s.ancestors k;
      heads = s.heads;
      owns = λ m i k. s.owns m i k && not (plain_family s a k);
    }

-- Abort: a and its descendants neither run nor have ancestors any more, and wait with head a. What any of them owned, a owns now, and they are no owners.
abbrev pub plain_drained : Shape → ℕ → Plain → Plain
plain_drained sh a s =
    record {
      used = s.used;
      runs = λ k. s.runs k && not (plain_family s a k);
      ancestors = λ k. if plain_family s a k then [] else s.ancestors k;
      heads = λ k. if plain_family s a k then some a else s.heads k;
      owns = λ m i k.
          if eqb k a then any sh.actions (λ j. s.owns m i j && plain_family s a j)
          else s.owns m i k && not (plain_family s a k);
    }

-- one of the family owns something
unfoldable pub family_owns : Shape → Plain → ℕ → Bool
family_owns sh s a = any sh.actions (λ k. plain_family s a k && any sh.instruments (owns_at sh s k))

-- a, which waits, no longer owns instrument i
abbrev pub disowned : ℕ → ℕ → Plain → Plain
disowned a i s =
    record {
      used = s.used;
      runs = s.runs;
      ancestors = s.ancestors;
      heads = s.heads;
      owns = λ m at k. s.owns m at k && not (eqb at i && eqb k a);
    }

-- whoever waits with head a is no longer in use
abbrev pub released : ℕ → Plain → Plain
released a s =
    record {
      used = λ k. s.used k && not (waits_with s a k);
      runs = s.runs;
      ancestors = s.ancestors;
      heads = λ k. if waits_with s a k then none else s.heads k;
      owns = s.owns;
    }

-- Commit of a sub replaces it by its parent in every set; a top's commit takes out the top, with what is left of its family.
abbrev pub committed : ℕ → List ℕ → Plain → Plain
committed a [] s = taken_out a s
committed a (p ∷ above) s =
    record {
      used = s.used;
      runs = put a false s.runs;
      ancestors = s.ancestors;
      heads = s.heads;
      owns = λ m i k. (s.owns m i k && not (eqb k a)) || (eqb k p && s.owns m i a);
    }

-- n runs, under the ancestors
abbrev pub opened : ℕ → List ℕ → Plain → Plain
opened n ancestors s =
    record {
      used = put n true s.used;
      runs = put n true s.runs;
      ancestors = put n ancestors s.ancestors;
      heads = s.heads;
      owns = s.owns;
    }

-- what an accepted request does
unfoldable pub plain_effect : Shape → Plain → Request → Plain
plain_effect sh s (open_top n) = opened n [] s
plain_effect sh s (open_sub n p) = opened n (p ∷ s.ancestors p) s
plain_effect sh s (ask m a i) =
    record {
      used = s.used;
      runs = s.runs;
      ancestors = s.ancestors;
      heads = s.heads;
      owns = λ held at k. s.owns held at k || (eqb held m && eqb at i && eqb k a);
    }
plain_effect sh s (commit a) = committed a (s.ancestors a) s
plain_effect sh s (abort a) = if family_owns sh s a then plain_drained sh a s else taken_out a s
plain_effect sh s (quiet a i) =
    let left = disowned a i s in
    if any sh.instruments (owns_at sh left a) then left else released a left

-- a refused request changes nothing
unfoldable pub plain_next : Shape → Plain → Request → Plain
plain_next sh s r = if eqb (plain_answer sh s r) 0 then plain_effect sh s r else s

-- the answers to a list of requests, and what they leave
unfoldable pub plain_answers : Shape → Plain → List Request → List ℕ
plain_answers sh s [] = []
plain_answers sh s (r ∷ rs) = plain_answer sh s r ∷ plain_answers sh (plain_next sh s r) rs

unfoldable pub plain_after : Shape → Plain → List Request → Plain
plain_after sh s [] = s
plain_after sh s (r ∷ rs) = plain_after sh (plain_next sh s r) rs
