use Rattle.effective_area.proofs.CappedShares.{capped_is_enough}
use Rattle.effective_area.proofs.laws.capped_is_enough.Goals as goal

pub returns : goal.returns
returns c = capped_is_enough
