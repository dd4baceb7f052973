-- Worked rows of the definition: the texts of small topologies and of geometry objects, computed.
use Rattle.std.proofs.Common.{◌≡◌, ℕ, ◌*◌, pos, negsuc, List, [], ◌∷◌, refl, Some, None}
use Rattle.std.specs.Prelude.{codes}
use Rattle.std.specs.Fmt.{digits}
use Rattle.decimal_text.specs.Scaling.{scaled_of, units_text}
use Rattle.json_value.specs.declared.json.Json.TheVariants as j
use Rattle.json_value.specs.Text.{json_text, escaped_byte}
use Rattle.json_value.proofs.Texts.{texts}
use Rattle.geometry.specs.declared.shape.Geometry.TheVariants as g
use Rattle.geojson_types.specs.declared.id.Id.TheVariants as id
use Rattle.geometry.specs.Points.{Point}
use Rattle.geometry.specs.Units.{units_in_one}
use Rattle.topojson_types.specs.declared.feature.TopoFeature.{TopoFeature}
use Rattle.topojson_types.specs.declared.object.TopoObject.TheVariants.{Many}
use Rattle.topojson_types.specs.declared.transform.Transform.{Transform}
use Rattle.topojson_types.specs.Topologies.{TopoShape, Contents}
use Rattle.topojson_types.specs.Bounds.{bounds}
use Rattle.topojson_types.specs.Differences.{deltas_from}
use Rattle.topojson_types.specs.TransformNumbers.{transform_value, to_units, stands_for}
use Rattle.topojson_types.specs.Transforms.{place_on}
use Rattle.topojson_types.specs.Values.{position_value, cell_value, feature_value, object_value, topology_value}
use Rattle.topojson_types.proofs.ByKind.{geometrical_at, places_at}
use Rattle.topojson_writer.proofs.Shapes.{is-group}

-- a position at a whole number of the input's units from zero
abbrev pub at : ℕ → ℕ → Point
at x y = record { x = pos (x * units_in_one); y = pos (y * units_in_one) }

-- without identifier and properties
abbrev pub bare : TopoShape → TopoFeature
bare s = record { id = None; properties = None; shape = Some s }

-- one LineString in a layer
abbrev pub line_of : List ℕ → Contents
line_of name = record {
  objects = (name, Many (bare (g.Line (pos 0 ∷ [])) ∷ [])) ∷ [];
  arcs = (at 0 0 ∷ (record { x = pos 1500000000; y = pos 250000000 } ∷ [])) ∷ [];
  transform = None;
}

row_line : json_text (topology_value (line_of (codes "a")))
    ≡ codes "{\"type\":\"Topology\",\"bbox\":[0,0,1.5,0.25],\"objects\":{\"a\":{\"type\":\"GeometryCollection\",\"geometries\":[{\"type\":\"LineString\",\"arcs\":[0]}]}},\"arcs\":[[[0,0],[1.5,0.25]]]}"
unfolding topology_value bounds escaped_byte units_text digits
row_line = simp (texts, places_at.line, (geometrical_at (cell_value None)).line) refl

-- two squares that share a side
abbrev pub squares_of : List ℕ → Contents
squares_of name = record {
  objects = (name, Many (bare (g.Area ((pos 0 ∷ (pos 1 ∷ [])) ∷ [])) ∷ (bare (g.Area ((pos 2 ∷ (negsuc 0 ∷ [])) ∷ [])) ∷ []))) ∷ [];
  arcs = (at 1 0 ∷ (at 1 1 ∷ []))
      ∷ ((at 1 1 ∷ (at 0 1 ∷ (at 0 0 ∷ (at 1 0 ∷ []))))
      ∷ ((at 1 0 ∷ (at 2 0 ∷ (at 2 1 ∷ (at 1 1 ∷ [])))) ∷ []));
  transform = None;
}

row_squares : json_text (topology_value (squares_of (codes "land")))
    ≡ codes "{\"type\":\"Topology\",\"bbox\":[0,0,2,1],\"objects\":{\"land\":{\"type\":\"GeometryCollection\",\"geometries\":[{\"type\":\"Polygon\",\"arcs\":[[0,1]]},{\"type\":\"Polygon\",\"arcs\":[[2,-1]]}]}},\"arcs\":[[[1,0],[1,1]],[[1,1],[0,1],[0,0],[1,0]],[[1,0],[2,0],[2,1],[1,1]]]}"
unfolding topology_value bounds escaped_byte units_text digits
row_squares = simp (texts, places_at.area, (geometrical_at (cell_value None)).area) refl

-- a Point with identifier and properties that have one name twice
abbrev point : TopoFeature
point = record {
  id = Some (id.Text (codes "007"));
  properties = Some ((codes "b", j.Number (codes "1.50")) ∷ ((codes "a", j.Number (codes "1e2")) ∷ ((codes "b", j.Null) ∷ [])));
  shape = Some (g.Point (at 1 2));
}

row_point : json_text (feature_value (cell_value None) point) ≡ codes "{\"type\":\"Point\",\"id\":\"007\",\"properties\":{\"b\":1.50,\"a\":1e2,\"b\":null},\"coordinates\":[1,2]}"
unfolding escaped_byte units_text digits
row_point = simp (texts, (geometrical_at (cell_value None)).point) refl

-- a null geometry with an identifier, and an empty GeometryCollection
row_null : json_text (feature_value (cell_value None) (record { id = Some (id.Number (codes "7")); properties = None; shape = None })) ≡ codes "{\"type\":null,\"id\":7}"
unfolding escaped_byte
row_null = simp texts refl

row_empty : json_text (object_value (cell_value None) (Many [])) ≡ codes "{\"type\":\"GeometryCollection\",\"geometries\":[]}"
unfolding escaped_byte
row_empty = simp texts refl

-- a GeometryCollection inside a feature
row_group : json_text (feature_value (cell_value None) (bare (g.Group (g.MultiPoint (at 0 1 ∷ []) ∷ (g.Lines ((pos 0 ∷ []) ∷ []) ∷ (g.Areas (((negsuc 2 ∷ []) ∷ []) ∷ []) ∷ []))))))
    ≡ codes "{\"type\":\"GeometryCollection\",\"geometries\":[{\"type\":\"MultiPoint\",\"coordinates\":[[0,1]]},{\"type\":\"MultiLineString\",\"arcs\":[[0]]},{\"type\":\"MultiPolygon\",\"arcs\":[[[-3]]]}]}"
unfolding escaped_byte units_text digits
row_group = simp (texts, (geometrical_at (cell_value None)).points, (geometrical_at (cell_value None)).lines, (geometrical_at (cell_value None)).areas, is-group (cell_value None)) refl

-- ---- topologies on a grid

-- a cell
abbrev pub cell : ℕ → ℕ → Point
cell x y = record { x = pos x; y = pos y }

abbrev pub on_grid : List ℕ → List ℕ → List ℕ → List ℕ → Transform
on_grid scale_x scale_y translate_x translate_y = record { scale = (scale_x, scale_y); translate = (translate_x, translate_y) }

-- a LineString and a Point on a grid of four by four: the arc stands as its first cell and then differences, the Point as its cell
abbrev line_and_point : Contents
line_and_point = record {
  objects = (codes "g", Many (bare (g.Line (pos 0 ∷ [])) ∷ (bare (g.Point (cell 3 3)) ∷ []))) ∷ [];
  arcs = (cell 0 0 ∷ (cell 1 3 ∷ (cell 3 0 ∷ []))) ∷ [];
  transform = Some (on_grid (codes "0.333333334") (codes "0.333333334") (codes "0") (codes "0"));
}

row_grid : json_text (topology_value line_and_point)
    ≡ codes "{\"type\":\"Topology\",\"transform\":{\"scale\":[0.333333334,0.333333334],\"translate\":[0,0]},\"bbox\":[0,0,1.000000002,1.000000002],\"objects\":{\"g\":{\"type\":\"GeometryCollection\",\"geometries\":[{\"type\":\"LineString\",\"arcs\":[0]},{\"type\":\"Point\",\"coordinates\":[3,3]}]}},\"arcs\":[[[0,0],[1,3],[2,-3]]]}"
unfolding topology_value bounds place_on stands_for to_units transform_value scaled_of escaped_byte units_text digits deltas_from
row_grid = simp (texts, places_at.line, places_at.point, (geometrical_at (position_value 0)).line, (geometrical_at (position_value 0)).point) refl

-- a line that the grid leaves, one that it makes a null geometry, and a transform whose numbers are all different
abbrev line_and_null : Contents
line_and_null = record {
  objects = (codes "l", Many (bare (g.Line (pos 0 ∷ [])) ∷ (record { id = None; properties = None; shape = None } ∷ []))) ∷ [];
  arcs = (cell 0 0 ∷ (cell 1 0 ∷ [])) ∷ [];
  transform = Some (on_grid (codes "10") (codes "0.000000001") (codes "0") (codes "5"));
}

row_grid_of_two : json_text (topology_value line_and_null)
    ≡ codes "{\"type\":\"Topology\",\"transform\":{\"scale\":[10,0.000000001],\"translate\":[0,5]},\"bbox\":[0,5,10,5],\"objects\":{\"l\":{\"type\":\"GeometryCollection\",\"geometries\":[{\"type\":\"LineString\",\"arcs\":[0]},{\"type\":null}]}},\"arcs\":[[[0,0],[1,0]]]}"
unfolding topology_value bounds place_on stands_for to_units transform_value scaled_of escaped_byte units_text digits deltas_from
row_grid_of_two = simp (texts, places_at.line, (geometrical_at (position_value 0)).line) refl

-- each arc begins with a cell, not with a difference from the arc before, and Points are cells
abbrev two_arcs_and_points : Contents
two_arcs_and_points = record {
  objects = (codes "m", Many (bare (g.MultiPoint (cell 5 5 ∷ (cell 6 5 ∷ []))) ∷ [])) ∷ [];
  arcs = (cell 1 1 ∷ (cell 2 2 ∷ [])) ∷ ((cell 2 2 ∷ (cell 2 1 ∷ [])) ∷ []);
  transform = Some (on_grid (codes "1") (codes "1") (codes "0") (codes "0"));
}

row_each_arc : json_text (topology_value two_arcs_and_points)
    ≡ codes "{\"type\":\"Topology\",\"transform\":{\"scale\":[1,1],\"translate\":[0,0]},\"bbox\":[1,1,6,5],\"objects\":{\"m\":{\"type\":\"GeometryCollection\",\"geometries\":[{\"type\":\"MultiPoint\",\"coordinates\":[[5,5],[6,5]]}]}},\"arcs\":[[[1,1],[1,1]],[[2,2],[0,-1]]]}"
unfolding topology_value bounds place_on stands_for to_units transform_value scaled_of escaped_byte units_text digits deltas_from
row_each_arc = simp (texts, places_at.points, (geometrical_at (position_value 0)).points) refl
