use Rattle.build_meaning.proofs.Left.{spared_keeps}
use Rattle.build_meaning.proofs.left_laws.spared_keeps.Goals as goal

pub returns : goal.returns
returns c = spared_keeps
