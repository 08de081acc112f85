-- `put_places` meets its contract. Assumes nothing.
use mathlib.Core.Path.{◌≡◌, sym}
use borrow.Author.Rules.{rules}
use lib.ListN.{length}
use Rattle.index.proofs.IndexParts.{place_put}
use Rattle.index.proofs.Index.put_places.Goals as goal

pub returns : goal.returns
returns c =
    let i = c.self.inside in
    let children_long : length i.children ≡ 64 = search rules in
    let lines_long : length i.lines ≡ 64 = search rules in
    let groups_long : length i.groups ≡ 64 = search rules in
    rw (← c.self.view_is) (sym (place_put i.children i.lines i.running i.groups i.places children_long lines_long groups_long c.args.k c.args.places))
