-- Two lists of requests, apart from each other, and every way to merge them (demand 3).
use Rattle.std.specs.Prelude.{Bool, true, false, ◌&&◌, ◌||◌, List, [], ◌∷◌, ◌≡◌, ℕ, eqb}
use Rattle.rules.specs.Bench.{Shape}
use Rattle.rules.specs.Requests.{Request, open_top, open_sub, ask, commit, abort, quiet}

-- the request names action number k
abbrev pub names : ℕ → Request → Bool
names k (open_top n) = eqb n k
names k (open_sub n p) = eqb n k || eqb p k
names k (ask m a i) = eqb a k
names k (commit a) = eqb a k
names k (abort a) = eqb a k
names k (quiet a i) = eqb a k

-- The request asks for instrument i in mode m. Quiet isn't a read: it keeps others from the instrument in any mode.
abbrev pub asks_for : ℕ → ℕ → Request → Bool
asks_for m i (open_top n) = false
asks_for m i (open_sub n p) = false
asks_for m i (ask mode a at) = eqb mode m && eqb at i
asks_for m i (commit a) = false
asks_for m i (abort a) = false
asks_for m i (quiet a at) = eqb at i

-- some request of the list does
abbrev pub some_does : (Request → Bool) → List Request → Bool
some_does test [] = false
some_does test (r ∷ rs) = test r || some_does test rs

-- No action number is named in both lists, and an instrument that both ask for they ask for only in modes that don't conflict. (Where reading and
-- writing are the modes: only to read.)
pub record Apart (sh : Shape) (xs ys : List Request) : Type 0 where
  pub numbers : (k : ℕ) → some_does (names k) xs ≡ true → some_does (names k) ys ≡ true → ⊥
  pub instruments : (i m held : ℕ) → some_does (asks_for m i) xs ≡ true → some_does (asks_for held i) ys ≡ true → sh.conflict m held ≡ false

-- the table of conflicts is symmetric
abbrev pub Symmetric : Shape → Type 0
Symmetric sh = (m held : ℕ) → sh.conflict m held ≡ sh.conflict held m

-- zs is a merging of xs and ys: each list's requests in their order, in any way between each other.
pub data Merging : List Request → List Request → List Request → Type 0 where
  done : Merging [] [] []
  first : {x : Request} {xs ys zs : List Request} → Merging xs ys zs → Merging (x ∷ xs) ys (x ∷ zs)
  second : {y : Request} {xs ys zs : List Request} → Merging xs ys zs → Merging xs (y ∷ ys) (y ∷ zs)

-- of the answers to the merging, those to the first list's requests, and those to the second's
unfoldable pub firsts : {xs ys zs : List Request} → Merging xs ys zs → List ℕ → List ℕ
firsts done given = []
firsts (first m) [] = []
firsts (first m) (a ∷ rest) = a ∷ firsts m rest
firsts (second m) [] = []
firsts (second m) (a ∷ rest) = firsts m rest

unfoldable pub seconds : {xs ys zs : List Request} → Merging xs ys zs → List ℕ → List ℕ
seconds done given = []
seconds (first m) [] = []
seconds (first m) (a ∷ rest) = seconds m rest
seconds (second m) [] = []
seconds (second m) (a ∷ rest) = a ∷ seconds m rest
