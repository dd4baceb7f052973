use Rattle.build_meaning.proofs.UnguardedBuilt.{unguarded_is_built}
use Rattle.build_meaning.proofs.left_laws.unguarded_is_built.Goals as goal

pub returns : goal.returns
returns c = unguarded_is_built c.direction_law.ensures c.nothing_is_new.ensures c.zero_law.ensures c.unguarded_index_law.ensures
