use Rattle.build_meaning.proofs.OnGrid.{built_valid}
use Rattle.build_meaning.proofs.grid_laws.built_is_valid_quantized.Goals as goal

pub returns : goal.returns
returns c g t limit ls on sound distinct = built_valid c.built_is_valid.ensures c.built_is_valid_on_grid.ensures g t limit ls on sound distinct
