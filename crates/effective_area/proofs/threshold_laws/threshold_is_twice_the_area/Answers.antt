use Rattle.effective_area.proofs.ThresholdAreas.{twice_the_area}
use Rattle.effective_area.proofs.threshold_laws.threshold_is_twice_the_area.Goals as goal

pub returns : goal.returns
returns c = twice_the_area
