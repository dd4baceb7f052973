use Rattle.std.proofs.Common.{ap, get_or}
use Rattle.geometry.proofs.Moved.{turns}
use Rattle.layer_topology.proofs.Snapping.{named, named_snapped, is_covered}
use Rattle.layer_topology.proofs.layers.snap_named.Goals as goal

pub snap-requires : goal.snap-requires
snap-requires c =
    is_covered c.args.grid.now c.args.layers.now c.layers.layer-index c.layers.layers c.layer-item.result c.layers-test.true c.layers.invariant c.layer-item.is c.requires

pub layers-preserved : goal.layers-preserved
layers-preserved c =
    turns (named_snapped c.args.grid.now) c.args.layers.now c.layers.layer-index c.layers.layers c.layer-item.result _ c.layers-test.true c.layers.invariant
    (ap (named (get_or c.layers.layers c.layers.layer-index c.layer-item.result).0) c.snap.ensures)
