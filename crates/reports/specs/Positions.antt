-- The positions that the features of an object have when they are decoded (TopoJSON 1.0, section 2): as many as are written of them.
use Rattle.std.specs.Prelude.{ℕ, ℤ, Bool, List, length, map}
use Rattle.byte_ends.specs.Ends.{saturated}
use Rattle.geojson_types.specs.Features.{Featured}
use Rattle.geojson_types.specs.Places.{features_points, option_points}
use Rattle.topojson_types.specs.declared.feature.TopoFeature.{TopoFeature}
use Rattle.topojson_types.specs.declared.object.TopoObject.{TopoObject}
use Rattle.topojson_types.specs.Decoding.{decoded_feature, decoded_line, decoded_shape, placed_arcs}
use Rattle.topojson_types.specs.Topologies.{Contents, TopoShape, object_features}
use Rattle.topojson_types.specs.Transforms.{place}

-- those of features
abbrev pub positions_of : List Featured → ℕ
positions_of features = saturated (length (features_points features))

-- those of the features that an object stands for
abbrev pub decoded_positions : Contents → TopoObject → ℕ
decoded_positions t o = positions_of (map (decoded_feature (place t.transform) (placed_arcs t.transform t.arcs)) (object_features o))

-- ---- those of a part

-- an open line (false) or a ring (true)
abbrev pub line_length : Contents → Bool → List ℤ → ℕ
line_length t closed refs = length (decoded_line (placed_arcs t.transform t.arcs) closed refs)

abbrev pub shape_length : Contents → TopoShape → ℕ
shape_length t s = length (option_points (decoded_shape (place t.transform) (placed_arcs t.transform t.arcs) s))

abbrev pub feature_length : Contents → TopoFeature → ℕ
feature_length t f = length (option_points (decoded_feature (place t.transform) (placed_arcs t.transform t.arcs) f).shape)
