-- Features whose positions are replaced, each by the one that a function gives.
use Rattle.geometry.specs.Lists.{map_some}
pub use Rattle.geometry.specs.Moving.{moved_step}
unfoldable pub use Rattle.geometry.specs.Moving.{moved}
use Rattle.geometry.specs.Points.{Point}
use Rattle.geojson_types.specs.Features.{Featured}

-- the feature with each position of its shape replaced
abbrev pub moved_feature : (Point → Point) → Featured → Featured
moved_feature f x = record { id = x.id; properties = x.properties; shape = map_some (moved f) x.shape }
