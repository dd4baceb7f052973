use Rattle.build_meaning.proofs.OnGrid.{built_on}
use Rattle.build_meaning.proofs.grid_laws.built_cells_are_on.Goals as goal

pub returns : goal.returns
returns c g t limit ls on = built_on c.nothing_is_new.ensures g t limit ls on
