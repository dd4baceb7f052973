use Rattle.grid_snap.proofs.Settled.{cells_back}
use Rattle.grid_snap.proofs.laws.cells_lie_at_snapped.Goals as goal

pub returns : goal.returns
returns c = cells_back
