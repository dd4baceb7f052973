use Rattle.build_meaning.proofs.SparedAlike.{left_on_grid}
use Rattle.build_meaning.proofs.left_laws.left_on_grid.Goals as goal

pub returns : goal.returns
returns c = left_on_grid
