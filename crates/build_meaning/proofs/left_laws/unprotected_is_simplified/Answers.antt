use Rattle.build_meaning.proofs.LeftOf.{unprotected_is_simplified}
use Rattle.build_meaning.proofs.left_laws.unprotected_is_simplified.Goals as goal

pub returns : goal.returns
returns c = unprotected_is_simplified
