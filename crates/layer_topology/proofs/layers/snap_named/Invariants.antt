use Rattle.geometry.proofs.Moved.{Replaced}
use Rattle.layer_topology.proofs.Snapping.{named_snapped}
use Rattle.layer_topology.proofs.layers.snap_named.Given as goal

abbrev pub invariant-layers : goal.invariant-layers
invariant-layers l = Replaced (named_snapped l.grid) l.fn.layers l.layer-index l.layers
