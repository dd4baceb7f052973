use Rattle.build_meaning.proofs.Left.{nests}
use Rattle.build_meaning.proofs.left_laws.spared_nests_no_deeper.Goals as goal

pub returns : goal.returns
returns c = nests
