-- `Player::finish_telling` meets its contract: the missing 0a is fed where a line has begun. Assumes nothing.
use Rattle.play.proofs.Finishing.{none_begun, line_ends}
use Rattle.play.proofs.Player.finish_telling.Goals as goal

pub returns-then-self-eq0 : goal.returns-then-self-eq0
returns-then-self-eq0 g c =
    let a = c.args in
    none_begun g.T.Telling.say g.T.Telling.WIDTH g.met.T.Telling.some a.self a.out.now c.if-self-eq0.true

pub returns : goal.returns
returns g c =
    let a = c.args in
    line_ends g.T.Telling.say g.T.Telling.WIDTH g.met.T.Telling.some a.self a.out.now c.tell-fed.result _ c.if-self-eq0.false c.tell-fed.ensures
