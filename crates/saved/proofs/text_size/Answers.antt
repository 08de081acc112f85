-- `text_size` meets its contract: nothing of a record that isn't sound, else the length of its text. Assumes nothing.
use Rattle.saved.proofs.text_size.Goals as goal

pub returns-then-not-known : goal.returns-then-not-known
returns-then-not-known c =
    let said = c.is_sound-known in rw (← said.ensures, c.if-not-known.true)

pub returns : goal.returns
returns c =
    let said = c.is_sound-known in
    let b = c.args.b in
    rw (← said.ensures, c.if-not-known.false, c.text_length.ensures b.parents)
