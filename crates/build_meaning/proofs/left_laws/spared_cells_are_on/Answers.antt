use Rattle.build_meaning.proofs.Left.{cells_are_on}
use Rattle.build_meaning.proofs.left_laws.spared_cells_are_on.Goals as goal

pub returns : goal.returns
returns c = cells_are_on
