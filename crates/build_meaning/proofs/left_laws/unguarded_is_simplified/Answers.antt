use Rattle.build_meaning.proofs.LeftOf.{unguarded_is_simplified}
use Rattle.build_meaning.proofs.left_laws.unguarded_is_simplified.Goals as goal

pub returns : goal.returns
returns c = unguarded_is_simplified c.unguarded_index_law.ensures
