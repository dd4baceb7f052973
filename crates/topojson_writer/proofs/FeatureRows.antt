-- Worked examples, computed.
use Rattle.std.proofs.Common.{◌≡◌, [], ◌∷◌, Some, None, refl}
use Rattle.std.specs.Prelude.{codes, pos, negsuc}
use Rattle.std.specs.Fmt.{digits}
use Rattle.decimal_text.specs.Scaling.{units_text}
use Rattle.json_value.specs.declared.json.Json.TheVariants as j
use Rattle.json_value.specs.Text.{json_text, escaped_byte}
use Rattle.json_value.proofs.Texts.{texts}
use Rattle.geometry.specs.declared.shape.Geometry.TheVariants as g
use Rattle.geojson_types.specs.declared.id.Id.TheVariants as id
use Rattle.geojson_types.specs.declared.layer.FeatureSet.{FeatureSet}
use Rattle.geojson_types.specs.declared.layer.FeatureSet.TheVariants.{One, Many}
use Rattle.geometry.specs.Points.{Point}
use Rattle.topojson_writer.specs.FeatureValues.{feature_value, features_value}
use Rattle.topojson_writer.proofs.ShapeParts.{shape_value_at}

-- ---- a FeatureCollection of one LineString

abbrev corner : Point
corner = record { x = pos 0; y = pos 0 }

abbrev tip : Point
tip = record { x = pos 1500000000; y = pos 250000000 }

abbrev one_line : FeatureSet
one_line = Many (record { id = None; properties = None; shape = Some (g.Line (corner ∷ (tip ∷ []))) } ∷ [])

line_row : json_text (features_value one_line)
    ≡ codes "{\"type\":\"FeatureCollection\",\"features\":[{\"type\":\"Feature\",\"properties\":null,\"geometry\":{\"type\":\"LineString\",\"coordinates\":[[0,0],[1.5,0.25]]}}]}"
line_row = unfold feature_value units_text escaped_byte digits in simp (shape_value_at.line, texts) refl

-- ---- a Feature with an identifier, properties with a doubled name and a collection of a Point and of nothing

abbrev one_feature : FeatureSet
one_feature = One (record {
  id = Some (id.Number (codes "7.0"));
  properties = Some ((codes "k", j.Number (codes "1.50")) ∷ ((codes "k", j.Null) ∷ []));
  shape = Some (g.Group (g.Point (record { x = negsuc 499999999; y = pos 1 }) ∷ (g.Group [] ∷ [])));
})

feature_row : json_text (features_value one_feature)
    ≡ codes "{\"type\":\"Feature\",\"id\":7.0,\"properties\":{\"k\":1.50,\"k\":null},\"geometry\":{\"type\":\"GeometryCollection\",\"geometries\":[{\"type\":\"Point\",\"coordinates\":[-0.5,0.000000001]},{\"type\":\"GeometryCollection\",\"geometries\":[]}]}}"
feature_row = unfold feature_value units_text escaped_byte digits in simp (shape_value_at.group, shape_value_at.point, texts) refl
