use Rattle.mapchain_engine.proofs.SimplifiedAgain.{written_is_simplified}
use Rattle.mapchain_engine.proofs.simplify_laws.text_is_simplified.Goals as goal

pub returns : goal.returns
returns c = written_is_simplified
