use Rattle.geometry.proofs.Moved.{Replaced}
use Rattle.topo_model.proofs.pruning.place_cells.Given as goal

abbrev pub invariant-cells : goal.invariant-cells
invariant-cells g l = Replaced (g.K.Keeps.places l.keeps) l.fn.cells l.cell-index l.cells
