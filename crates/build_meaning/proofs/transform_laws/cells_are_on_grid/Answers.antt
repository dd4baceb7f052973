use Rattle.build_meaning.proofs.OnGrid.{on_grid}
use Rattle.build_meaning.proofs.transform_laws.cells_are_on_grid.Goals as goal

pub returns : goal.returns
returns c = on_grid
