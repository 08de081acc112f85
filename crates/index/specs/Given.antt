-- The words of an index give its parts back, where each has its length. Assumes nothing.
use Rattle.std.specs.Prelude.{List, ◌∷◌, ◌++◌, ◌≡◌, ℕ, ◌+◌, length, take, drop, get_or}
use Rattle.std.proofs.Common.{sym, ap, ◌∙◌, subst}
use Rattle.std.proofs.lemmas.List.{take_at, drop_at}
use Rattle.std.proofs.Math.Seq.{drop-append-add, get_or-drop}
use Rattle.index.specs.Tables.{words_of}

-- what stands so far behind a part
behind : (part rest : List ℕ) → length part ≡ 64 → (k : ℕ) → drop (64 + k) (part ++ rest) ≡ drop k rest
behind part rest long k = subst (λ n. drop (n + k) (part ++ rest) ≡ drop k rest) long (drop-append-add part rest k)

module _ (children lines : List ℕ) (running : ℕ) (groups places : List ℕ) (of_children : length children ≡ 64) (of_lines : length lines ≡ 64) (of_groups : length groups ≡ 64) where
  abbrev pub words : List ℕ
  words = words_of children lines running groups places

  pub children_given : take 64 words ≡ children
  children_given = take_at children (lines ++ (running ∷ (groups ++ places))) 64 of_children

  pub lines_given : take 64 (drop 64 words) ≡ lines
  lines_given = ap (take 64) (drop_at children (lines ++ (running ∷ (groups ++ places))) 64 of_children) ∙ take_at lines (running ∷ (groups ++ places)) 64 of_lines

  later : (k : ℕ) → drop (64 + (64 + k)) words ≡ drop k (running ∷ (groups ++ places))
  later k = behind children (lines ++ (running ∷ (groups ++ places))) of_children (64 + k) ∙ behind lines (running ∷ (groups ++ places)) of_lines k

  pub running_given : get_or words 128 0 ≡ running
  running_given = sym (get_or-drop 128 words 0 0) ∙ ap (λ (l : List ℕ). get_or l 0 0) (later 0)

  pub groups_given : take 64 (drop 129 words) ≡ groups
  groups_given = ap (take 64) (later 1) ∙ take_at groups places 64 of_groups

  pub places_given : drop 193 words ≡ places
  places_given = later 65 ∙ drop_at groups places 64 of_groups
