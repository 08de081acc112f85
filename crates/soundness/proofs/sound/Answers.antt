-- `sound` meets its contract: each part that fails makes the test fail, and where the others hold the chains of parents decide. Assumes nothing.
use mathlib.Core.Path.{sym, ◌∙◌}
use Rattle.tables.proofs.SoundParts.{fits_known, fits_means}
use Rattle.soundness.proofs.sound.Goals as goal

pub parents_stand-requires : goal.parents_stand-requires
parents_stand-requires c =
    fits_known 64 c.args.parents.now c.args.states.now (sym c.bytes_fit.ensures ∙ c.if-not-bytes_fit.false)

pub stand_well-requires : goal.stand_well-requires
stand_well-requires c =
    fits_means 64 c.args.parents.now c.args.states.now (sym c.bytes_fit.ensures ∙ c.if-not-bytes_fit.false)

pub chains_end-requires : goal.chains_end-requires
chains_end-requires c =
    fits_known 64 c.args.parents.now c.args.states.now (sym c.bytes_fit.ensures ∙ c.if-not-bytes_fit.false)
