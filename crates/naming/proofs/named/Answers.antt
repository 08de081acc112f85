-- `named` meets its contract: the request that the frame makes names whom its code names. Assumes nothing.
use Rattle.naming.proofs.Codes.{named_alike_by_code}
use Rattle.naming.proofs.named.Goals as goal

pub returns : goal.returns
returns c =
    let a = c.args in
    rw (c.named_of_request.ensures, c.unwrap_or-asked.ensures, c.in-Ok.ensures)
    (named_alike_by_code a.parents.now a.states.now a.readers a.writers a.x a.y a.answer a.code c.framed.result c.framed.ensures)
