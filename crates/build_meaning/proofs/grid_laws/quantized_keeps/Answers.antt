use Rattle.build_meaning.proofs.OnGrid.{keeps}
use Rattle.build_meaning.proofs.grid_laws.quantized_keeps.Goals as goal

pub returns : goal.returns
returns c g y = keeps g y
