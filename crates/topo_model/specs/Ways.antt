-- The ways to the protected rings of features.
use Rattle.std.specs.Prelude.{ℕ, Bool, List, [], Option, map, if◌then◌else◌}
use Rattle.geometry.specs.Lists.{joined, map_some, then_some}
use Rattle.geometry.specs.Points.{Point}
use Rattle.build_meaning.specs.Protected.{Protection, greatest_ring}
use Rattle.topojson_types.specs.declared.feature.TopoFeature.{TopoFeature}
use Rattle.topojson_types.specs.declared.object.TopoObject.{TopoObject}
use Rattle.topojson_types.specs.Topologies.{object_features}

-- the way to the protected ring of a feature, if one is
abbrev pub way_of : Protection → TopoFeature → Option (List ℕ)
way_of protects f = map_some (λ x. x.path) (then_some protects f.shape)

-- the ways of all features, in reading order
abbrev pub ways_of : Protection → List (List ℕ × TopoObject) → List (Option (List ℕ))
ways_of protects os = map (way_of protects) (joined (map (λ o. object_features o.1) os))

-- where shapes stay (true) those to the rings that enclose most, and otherwise none
abbrev pub ways_under : Bool → List (List Point) → List (List ℕ × TopoObject) → List (Option (List ℕ))
ways_under keep_shapes arcs os = if keep_shapes then ways_of (greatest_ring arcs) os else []
