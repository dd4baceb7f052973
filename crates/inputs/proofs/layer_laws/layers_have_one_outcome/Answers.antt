use Rattle.inputs.proofs.LayersDecided.{once}
use Rattle.inputs.proofs.layer_laws.layers_have_one_outcome.Goals as goal

pub returns-clause-one : goal.returns-clause-one
returns-clause-one c = once
