use Rattle.geojson_types.specs.Features.{Featured}
use Rattle.geojson_types.specs.Places.{option_points}
use Rattle.grid_snap.proofs.Widening.{Left}
use Rattle.grid_snap.proofs.bounds.with_features.Given as goal

abbrev pub invariant-features : goal.invariant-features
invariant-features l = Left (λ (f : Featured). option_points f.shape) l.features l.feature-index l.fn.bounds l.all
