-- `Bench::free_family` meets its contract: the set that `family_of` gathers is that of a's family, and its numbers have left all four arrays. Assumes nothing.
use borrow.Author.Rules.{rules}
use Rattle.tables.specs.Steps.{Long}
use Rattle.views.specs.View.{layout, arrays}
use Rattle.views.proofs.Words.{arrays_long}
use Rattle.bench.proofs.Leaving.{family_leaves}
use Rattle.bench.proofs.Bench.free_family.Goals as goal

pub returns : goal.returns
returns c =
    -- the arrays of a record
    let long : Long layout (arrays c.args.self.now.parents c.args.self.now.states c.args.self.now.reads c.args.self.now.writes) = arrays_long (search rules) (search rules) (search rules) (search rules) in
    family_leaves (record { long = long; is_sound = c.requires.0 }) c.args.a c.family_of-gone.result c.requires.1 c.family_of-gone.ensures
    c.put_bytes.ensures c.put_bytes-2.ensures c.clear_words.ensures c.clear_words-2.ensures
