use Rattle.grid_snap.proofs.Least.{grid_made}
use Rattle.grid_snap.proofs.laws.grid_is_made.Goals as goal

pub returns : goal.returns
returns c = grid_made
