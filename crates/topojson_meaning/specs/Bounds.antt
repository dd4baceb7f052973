-- How deep the features of a topology nest as JSON, and that their number texts are numbers (RFC 8259, section 6).
use Rattle.std.specs.Prelude.{ℕ, ◌+◌, max, List, map}
use Rattle.geometry.specs.Lists.{joined}
use Rattle.geojson_types.specs.Nesting.{option_nesting, properties_nesting}
use Rattle.geojson_types.specs.Numbers.{IdHasNumbers, PropertiesHaveNumbers}
use Rattle.topojson_types.specs.declared.feature.TopoFeature.{TopoFeature}
use Rattle.topojson_types.specs.declared.object.TopoObject.{TopoObject}
use Rattle.topojson_types.specs.Topologies.{object_features}

-- the features of all objects
abbrev pub objects_features : List (List ℕ × TopoObject) → List TopoFeature
objects_features os = joined (map (λ o. object_features o.1) os)

-- the deeper of the geometry and of an object around the properties
abbrev pub feature_nesting : TopoFeature → ℕ
feature_nesting f = max (option_nesting f.shape) (1 + properties_nesting f.properties)

-- the number texts of its identifier and properties are numbers
abbrev pub FeatureHasNumbers : TopoFeature → Type 0
FeatureHasNumbers f = IdHasNumbers f.id × PropertiesHaveNumbers f.properties
