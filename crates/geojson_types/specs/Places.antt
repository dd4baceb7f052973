-- The positions of features, in reading order.
use Rattle.std.specs.Prelude.{List, map}
use Rattle.owned_values.specs.Lists.{joined}
use Rattle.geometry.specs.Points.{Point}
pub use Rattle.geometry.specs.Places.{points_step, option_points}
unfoldable pub use Rattle.geometry.specs.Places.{shape_points}
use Rattle.geojson_types.specs.Features.{Featured}

-- the positions of all features
abbrev pub features_points : List Featured → List Point
features_points fs = joined (map (λ f. option_points f.shape) fs)
