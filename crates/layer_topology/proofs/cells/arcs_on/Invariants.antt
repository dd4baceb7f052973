use Rattle.std.proofs.Common.{map}
use Rattle.geometry.proofs.Moved.{Replaced}
use Rattle.grid_snap.specs.Axes.{cell}
use Rattle.layer_topology.proofs.cells.arcs_on.Given as goal

abbrev pub invariant-arcs : goal.invariant-arcs
invariant-arcs l = Replaced (map (cell l.grid)) l.fn.arcs l.arc-index l.arcs
