-- `reload` is safe: what a save counts lies within the buffer that it was lent. Assumes nothing.
use mathlib.Core.Path.{sym}
use Rattle.std.proofs.Common.{arith, ◌≡◌, ℕ, ◌≤◌, length, length-take-le}
use borrow.Author.Tests.{ltb-false}
use lib.Dec.{ltb}
use Rattle.rules.specs.Sound.{sound}
use Rattle.rules.specs.ReadWrite.{read_write}
use Rattle.rules.proofs.Tests.{by_bool}
use Rattle.bench.specs.declared.Bench.{Bench}
use Rattle.bench.specs.Record.{viewed}
use Rattle.saving.specs.declared.Saved.{Saved}
use Rattle.saved.specs.Saved.{saved_as}
use Rattle.forms.specs.Text.{text_of}
use Rattle.reload.proofs.reload.Goals as goal

-- what a save counts lies within the buffer
saved_within : (b : Bench) (room : ℕ) → (saved_as b room).count ≤ room
unfolding saved_as
saved_within b room =
    by_bool (sound read_write (viewed b))
    (λ h. by_bool (ltb room (length (text_of b))) (λ l. rw (h, l) (omega arith)) (λ l. rw (h, l) (ltb-false room (length (text_of b)) l)))
    (λ h. rw h (omega arith))

counted_within : (b : Bench) (room : ℕ) (r : Saved) → r ≡ saved_as b room → r.count ≤ room
counted_within b room r e = rw e (saved_within b room)

pub slice_bounds-buffer-end : goal.slice_bounds-buffer-end
slice_bounds-buffer-end g c = omega (arith, counted_within _ _ _ c.save-reply.ensures.0)

pub slice_bounds-write_whole-end : goal.slice_bounds-write_whole-end
slice_bounds-write_whole-end g c =
    sym (length-take-le _ _ (omega (arith, counted_within _ _ _ c.save-reply.ensures.0)))
