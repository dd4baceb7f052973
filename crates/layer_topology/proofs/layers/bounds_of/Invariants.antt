use Rattle.std.proofs.Common.{ℕ, List, None}
use Rattle.geojson_types.specs.declared.layer.Layer.{Layer}
use Rattle.geojson_types.specs.Places.{features_points}
use Rattle.grid_snap.proofs.Widening.{Left}
use Rattle.layer_topology.proofs.layers.bounds_of.Given as goal

abbrev pub invariant-layers : goal.invariant-layers
invariant-layers l = Left (λ (l : List ℕ × Layer). features_points l.1.features) l.layers l.layer-index None l.all
