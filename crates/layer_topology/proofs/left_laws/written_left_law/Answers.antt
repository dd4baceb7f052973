use Rattle.layer_topology.proofs.Guarded.{written_left_law}
use Rattle.layer_topology.proofs.left_laws.written_left_law.Goals as goal

pub returns : goal.returns
returns c =
    let laws = c.written_laws.ensures in
    written_left_law c.left_law.ensures c.unguarded_is_built.ensures c.snapped_are_on.ensures c.built_cells_are_on.ensures c.left_on_grid.ensures c.without_small_on_grid.ensures
    c.without_small_keeps.ensures laws.valid laws.names laws.nests
