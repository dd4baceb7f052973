use Rattle.std.proofs.Common.{None}
use Rattle.geojson_types.specs.declared.layer.Layer.{Layer}
use Rattle.geojson_types.specs.Places.{features_points}
use Rattle.grid_snap.proofs.Widening.{Left}
use Rattle.grid_snap.proofs.bounds.bounds_of.Given as goal

abbrev pub invariant-layers : goal.invariant-layers
invariant-layers l = Left (λ (l : Layer). features_points l.features) l.layers l.layer-index None l.all
