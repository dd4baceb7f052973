use Rattle.grid_snap.proofs.Settled.{settled}
use Rattle.grid_snap.proofs.laws.snapped_stay.Goals as goal

pub returns : goal.returns
returns c = settled
