-- What the parts of a topology's objects are decoded to (TopoJSON 1.0, section 2), by the topology's arcs and its transform.
use Rattle.std.specs.Prelude.{ℤ, Bool, List, Option}
use Rattle.geojson_types.specs.declared.layer.FeatureSet.{FeatureSet}
use Rattle.geojson_types.specs.Features.{Shape, Featured}
use Rattle.geometry.specs.Joins.{arc_at}
use Rattle.geometry.specs.Points.{Point}
use Rattle.topojson_types.specs.declared.feature.TopoFeature.{TopoFeature}
use Rattle.topojson_types.specs.declared.object.TopoObject.{TopoObject}
use Rattle.topojson_types.specs.Decoding.{decoded_line, decoded_shape, decoded_feature, decoded_object, placed_arcs}
use Rattle.topojson_types.specs.Topologies.{Contents, TopoShape}
use Rattle.topojson_types.specs.Transforms.{place}

-- the positions of the arc of an index
abbrev pub arc_in : Contents → ℤ → List Point
arc_in t r = arc_at (placed_arcs t.transform t.arcs) r

-- the positions of an open line (false) or a ring (true)
abbrev pub line_in : Contents → Bool → List ℤ → List Point
line_in t closed refs = decoded_line (placed_arcs t.transform t.arcs) closed refs

abbrev pub shape_in : Contents → TopoShape → Option Shape
shape_in t s = decoded_shape (place t.transform) (placed_arcs t.transform t.arcs) s

abbrev pub feature_in : Contents → TopoFeature → Featured
feature_in t f = decoded_feature (place t.transform) (placed_arcs t.transform t.arcs) f

abbrev pub object_in : Contents → TopoObject → FeatureSet
object_in t o = decoded_object (place t.transform) (placed_arcs t.transform t.arcs) o
