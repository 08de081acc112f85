-- `join` meets its contract: the word's bytes stand behind the text. Assumes nothing.
use mathlib.Core.Path.{◌≡◌, ap}
use mathlib.Core.List.{List}
use Prim.Native.Nat.{ℕ, ◌+◌, ◌≤◌}
use native.Mathlib.Omega.{arith}
use borrow.Author.Rules.{rules}
use lib.ListN.{length}
use Rattle.copies.proofs.CopyLaws.{put_part}
use Rattle.naming.proofs.text.join.Goals as goal

pub returns : goal.returns
returns c =
    let a = c.args in
    let long : length a.text.now.bytes ≡ 23 = search rules in
    let room : a.text.now.size + length a.word.now ≤ length a.text.now.bytes = omega (arith, c.requires, long) in
    ap (λ (bytes : List ℕ). record { bytes = bytes; size = a.text.now.size + length a.word.now })
    (put_part a.text.now.bytes a.word.now c.copy_from_slice.new.self a.text.now.size room c.copy_from_slice.ensures.after)
