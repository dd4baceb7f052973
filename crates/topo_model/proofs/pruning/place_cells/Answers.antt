use Rattle.geometry.proofs.Moved.{turns}
use Rattle.topo_model.proofs.pruning.place_cells.Goals as goal

pub cells-preserved : goal.cells-preserved
cells-preserved g c = turns (g.K.Keeps.places c.args.keeps.now) c.args.cells.now c.cells.cell-index c.cells.cells c.cell-item.result _ c.cells-test.true c.cells.invariant c.place.ensures
