use Rattle.build_meaning.proofs.ValidSimplified.{spared_is_valid}
use Rattle.build_meaning.proofs.left_laws.spared_is_valid.Goals as goal

pub returns : goal.returns
returns c = spared_is_valid
