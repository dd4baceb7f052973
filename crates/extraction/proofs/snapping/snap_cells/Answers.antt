use Rattle.geometry.proofs.Moved.{turns}
use Rattle.grid_snap.specs.Snapping.{snapped_if_covered}
use Rattle.extraction.proofs.snapping.snap_cells.Goals as goal

pub cells-preserved : goal.cells-preserved
cells-preserved c =
    turns (snapped_if_covered c.args.grid.now) c.args.cells.now c.cells.cell-index c.cells.cells c.cell-item.result _ c.cells-test.true c.cells.invariant c.snapped_cell.ensures
