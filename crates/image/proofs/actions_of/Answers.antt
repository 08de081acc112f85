-- `actions_of` meets its contract. Assumes nothing.
use Rattle.image.proofs.Images.{image_actions}
use Rattle.image.proofs.actions_of.Goals as goal

pub returns : goal.returns
returns c =
    image_actions c.args.actions.now c.words_from.result c.words_from-2.result c.if-actions-ne128.false c.words_from.ensures c.words_from-2.ensures
