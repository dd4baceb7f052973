use Rattle.build_meaning.proofs.OnGrid.{quantized_valid}
use Rattle.build_meaning.proofs.grid_laws.quantized_is_valid.Goals as goal

pub returns : goal.returns
returns c g y grid plain on h = quantized_valid g y grid plain on h
