use Rattle.std.proofs.Common.{sym, ◌∙◌}
use Rattle.build_meaning.specs.Quantized.{named_points}
use Rattle.layer_topology.proofs.layers.snap_layers.Goals as goal

pub snap_named-requires : goal.snap_named-requires
snap_named-requires c =
    let counted = rw c.in_ok-count.was at c.requires.count in
    c.layers_are_covered.ensures c.in_ok-count.count (named_points c.args.layers.now) c.in_ok-grid.grid counted.0 (sym c.grid_of.ensures ∙ c.in_ok-grid.was)
