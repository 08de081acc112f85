-- Where the numbers of a set of several words stand: their words and digits, sets one behind the other, and the words of a result. Assumes nothing.
use Rattle.std.proofs.Common.{◌≡◌, ℕ, zero, suc, ◌+◌, ◌*◌, ◌/◌, ◌%◌, ◌<◌, ◌≤◌, ◌&&◌, eqb, ltb, List, length, get_or, sym, refl, ap, ◌∙◌, ap₂, mod-lt, zero-lt-suc, div-lt_iff_lt-mul, div-add-mod', arith, ext_get_or, ltb-false, ltb-true, eq-eqb, ne_eqb, eqb-true}
use lib.Arith.{digits_div, digits_mod}
use lib.ListN.{get_or-eq_default}
use borrow.Author.Tests.{eqb-false}
use Rattle.sets.specs.Sets.{member}
use Rattle.sets.specs.Words.{word_at, member_at, first_words, empty_words}
use Rattle.sets.proofs.Laws.{by_test}

-- ---- cases

-- a number lies below a bound or not
pub by_bound : {A : Type 0} (k b : ℕ) → (k < b → A) → (b ≤ k → A) → A
by_bound k b below beyond = by_test (ltb k b) (λ e. below (ltb-true k b e)) (λ e. beyond (ltb-false k b e))

-- ---- places

-- a number below n * width: its word is one of the n, its digit one of the word
pub width_some : (width n k : ℕ) → k < n * width → 0 < width
width_some zero n k h = absurd (omega arith)
width_some (suc width) n k h = zero-lt-suc width

pub word_below : (width n k : ℕ) → k < n * width → k / width < n
word_below width n k h = (div-lt_iff_lt-mul (width_some width n k h)).1 h

pub digit_below : (width n k : ℕ) → k < n * width → k % width < width
digit_below width n k h = mod-lt k (width_some width n k h)

-- what holds of each digit of each word holds of each number
pub by_words : (P : ℕ → Type 0) (width n : ℕ) → ((j i : ℕ) → j < n → i < width → P (j * width + i)) → (k : ℕ) → k < n * width → P k
by_words P width n h k l = rw div-add-mod' at (h (k / width) (k % width) (word_below width n k l) (digit_below width n k l))

-- digit i of word j is number j * width + i
pub member_place : (width : ℕ) (l : List ℕ) (at j i : ℕ) → i < width → member_at width l at (j * width + i) ≡ member (word_at l at j) i
unfolding member_at
member_place width l at j i h = rw (digits_div j h, digits_mod j h)

-- of sets of n words one behind the other, two words stand at one place only if they are the same word of the same set
pub same_place : (n c d x y : ℕ) → x < n → y < n → c * n + x ≡ d * n + y → (c ≡ d) × (x ≡ y)
same_place n c d x y hx hy e =
    let quotients : (c * n + x) / n ≡ (d * n + y) / n = ap (λ (p : ℕ). p / n) e in
    let remainders : (c * n + x) % n ≡ (d * n + y) % n = ap (λ (p : ℕ). p % n) e in
    (rw (digits_div c hx, digits_div d hy) at quotients, rw (digits_mod c hx, digits_mod d hy) at remainders)

-- two numbers are equal just where their two parts are
pub pair_test : (a b x y u v : ℕ) → (a ≡ b → (x ≡ y) × (u ≡ v)) → (x ≡ y → u ≡ v → a ≡ b) → (eqb x y && eqb u v) ≡ eqb a b
pair_test a b x y u v parts whole =
    by_test (eqb x y)
    (λ p. by_test (eqb u v)
    (λ q. rw (p, q) (sym (eq-eqb a b (whole (eqb-true x y p) (eqb-true u v q)))))
    (λ q. rw (p, q) (sym (ne_eqb a b (λ e. eqb-false u v q (parts e).1)))))
    (λ p. rw p (sym (ne_eqb a b (λ e. eqb-false x y p (parts e).0))))

pub number_test : (width j k : ℕ) → (eqb (j / width) (k / width) && eqb (j % width) (k % width)) ≡ eqb j k
number_test width j k =
    pair_test j k (j / width) (k / width) (j % width) (k % width)
    (λ e. (ap (λ (n : ℕ). n / width) e, ap (λ (n : ℕ). n % width) e))
    (λ p q. sym (div-add-mod' j width) ∙ ap₂ (λ (x y : ℕ). x * width + y) p q ∙ div-add-mod' k width)

pub row_test : (n c d x y : ℕ) → x < n → y < n → eqb (c * n + x) (d * n + y) ≡ (eqb c d && eqb x y)
row_test n c d x y hx hy =
    sym (pair_test (c * n + x) (d * n + y) c d x y (same_place n c d x y hx hy) (λ p q. ap₂ (λ (x y : ℕ). x * n + y) p q))

pub shifted_test : (at x y : ℕ) → eqb (at + x) (at + y) ≡ eqb x y
shifted_test at x y =
    by_test (eqb x y)
    (λ e. rw e (eq-eqb (at + x) (at + y) (ap (λ (n : ℕ). at + n) (eqb-true x y e))))
    (λ e. rw e (ne_eqb (at + x) (at + y) (λ p. eqb-false x y e (omega arith))))

-- ---- the words of a result

pub length_first : (n : ℕ) (f : ℕ → ℕ) → length (first_words n f) ≡ n
unfolding first_words
length_first zero f = refl
length_first (suc n) f = ap suc (length_first n (λ j. f (suc j)))

pub word_first : (n : ℕ) (f : ℕ → ℕ) (j : ℕ) → j < n → get_or (first_words n f) j 0 ≡ f j
unfolding first_words
word_first zero f j h = absurd (omega arith)
word_first (suc n) f zero h = refl
word_first (suc n) f (suc j) h = word_first n (λ j. f (suc j)) j (omega arith)

pub word_behind : (n : ℕ) (f : ℕ → ℕ) (j : ℕ) → n ≤ j → get_or (first_words n f) j 0 ≡ 0
word_behind n f j h = get_or-eq_default (first_words n f) 0 (rw (length_first n f) h)

-- a list of n words that are f 0 to f (n - 1), however they were written
pub first_by : (n : ℕ) (f : ℕ → ℕ) (l : List ℕ) → length l ≡ n → ((j : ℕ) → j < n → get_or l j 0 ≡ f j) → l ≡ first_words n f
first_by n f l long each =
    ext_get_or 0 l (first_words n f) (long ∙ sym (length_first n f)) (λ j h. let below : j < n = rw long at h in each j below ∙ sym (word_first n f j below))

pub word_empty : (n p : ℕ) → get_or (empty_words n) p 0 ≡ 0
word_empty zero p = refl
word_empty (suc n) zero = refl
word_empty (suc n) (suc p) = word_empty n p
