use Rattle.build_meaning.proofs.OnGrid.{built_decodes}
use Rattle.build_meaning.proofs.grid_laws.built_decodes_quantized.Goals as goal

pub returns : goal.returns
returns c g t limit ls on sound distinct = built_decodes c.built_decodes_back.ensures c.built_decodes_back_on_grid.ensures g t limit ls on sound distinct
