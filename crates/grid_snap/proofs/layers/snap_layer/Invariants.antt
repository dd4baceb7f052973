use Rattle.geojson_types.specs.Moving.{moved_feature}
use Rattle.geometry.proofs.Moved.{Replaced}
use Rattle.grid_snap.specs.Snapping.{snapped_if_covered}
use Rattle.grid_snap.proofs.layers.snap_layer.Given as goal

abbrev pub invariant-features : goal.invariant-features
invariant-features l = Replaced (moved_feature (snapped_if_covered l.grid)) l.initial.feature-items l.feature-index l.feature-items
