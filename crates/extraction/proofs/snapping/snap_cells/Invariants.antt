use Rattle.geometry.proofs.Moved.{Replaced}
use Rattle.grid_snap.specs.Snapping.{snapped_if_covered}
use Rattle.extraction.proofs.snapping.snap_cells.Given as goal

abbrev pub invariant-cells : goal.invariant-cells
invariant-cells l = Replaced (snapped_if_covered l.grid) l.fn.cells l.cell-index l.cells
