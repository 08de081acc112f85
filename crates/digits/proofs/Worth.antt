-- What a byte is worth: a digit's value or none, and the same with 16 for none. Assumes nothing.
use Rattle.std.specs.Prelude.{unwrap_or, is_some}
use Rattle.std.proofs.Common.{◌≡◌, ℕ, ◌%◌, ltb, rules}
use Rattle.digits.specs.Digits.{digit_of, digit_in}

pub digit_or_16 : (c : ℕ) → unwrap_or (digit_in c) 16 ≡ digit_of c
digit_or_16 c = search rules

pub digit_or_0 : (c : ℕ) → unwrap_or (digit_in c) 0 ≡ digit_of c % 16
digit_or_0 c = search rules

pub digit_known : (c : ℕ) → is_some (digit_in c) ≡ ltb (digit_of c) 16
digit_known c = search rules
