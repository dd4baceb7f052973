use Rattle.geometry.proofs.Moved.{Replaced}
use Rattle.grid_snap.specs.Axes.{cell}
use Rattle.layer_topology.proofs.cells.cells_on.Given as goal

abbrev pub invariant-cells : goal.invariant-cells
invariant-cells l = Replaced (cell l.grid) l.fn.cells l.cell-index l.cells
