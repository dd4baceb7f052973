use Rattle.build_meaning.proofs.Left.{simplified_keeps}
use Rattle.build_meaning.proofs.simplified_laws.simplified_keeps.Goals as goal

pub returns : goal.returns
returns c = simplified_keeps
