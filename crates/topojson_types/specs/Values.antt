-- The JSON value that a topology is written as: TopoJSON 1.0, section 2.
use Rattle.std.specs.Prelude.{ℕ, ℤ, List, [], ◌∷◌, ◌++◌, Option, None, Some, map, codes}
use Rattle.json_value.specs.declared.json.Json.{Json}
use Rattle.json_value.specs.declared.json.Json.TheVariants as j
use Rattle.decimal_text.specs.Scaling.{units_text}
use Rattle.geometry.specs.declared.shape.Geometry.{fold-Geometry}
use Rattle.geometry.specs.declared.shape.Geometry.TheOpen.{Geometry-F}
use Rattle.geojson_types.specs.declared.id.Id.{Id}
use Rattle.geojson_types.specs.declared.id.Id.TheVariants as id
use Rattle.geometry.specs.Points.{Point}
use Rattle.geometry.specs.Units.{unit_places}
use Rattle.topojson_types.specs.declared.feature.TopoFeature.{TopoFeature}
use Rattle.topojson_types.specs.declared.object.TopoObject.{TopoObject}
use Rattle.topojson_types.specs.declared.object.TopoObject.TheVariants.{One, Many}
use Rattle.topojson_types.specs.declared.transform.Transform.{Transform}
use Rattle.topojson_types.specs.Bounds.{Corners, bounds}
use Rattle.topojson_types.specs.Differences.{deltas}
use Rattle.topojson_types.specs.Topologies.{TopoShape, Contents}

-- the members of an object
abbrev pub Members : Type 0
Members = List (List ℕ × Json)

-- ---- numbers

-- so many units of 10^-places
abbrev pub number_value : ℕ → ℤ → Json
number_value places n = j.Number (units_text n places)

-- a whole number
abbrev pub whole_value : ℤ → Json
whole_value n = number_value 0 n

-- ---- positions, arcs and arc indexes

-- two numbers of so many decimals, x first
abbrev pub position_value : ℕ → Point → Json
position_value places p = j.Array (number_value places p.x ∷ (number_value places p.y ∷ []))

-- the decimals of the numbers of cells: those of units, and on a grid none
abbrev pub cell_places : Option Transform → ℕ
cell_places None = unit_places
cell_places (Some t) = 0

-- a cell
abbrev pub cell_value : Option Transform → Point → Json
cell_value transform c = position_value (cell_places transform) c

-- what is written of an arc: its cells, and on a grid its first cell and then differences (section 2.1.3)
abbrev pub written_cells : Option Transform → List Point → List Point
written_cells None cs = cs
written_cells (Some t) cs = deltas cs

abbrev pub arc_value : Option Transform → List Point → Json
arc_value transform cs = j.Array (map (cell_value transform) (written_cells transform cs))

-- the arc indexes of a line or ring
abbrev pub line_value : List ℤ → Json
line_value refs = j.Array (map whole_value refs)

abbrev pub lines_value : List (List ℤ) → Json
lines_value ls = j.Array (map line_value ls)

-- ---- geometry objects

-- the name of a type, and what the object has after the members of a feature
pub record Geometrical : Type 0 where
  pub type : Json
  pub parts : Members

abbrev pub typed : List ℕ → List ℕ → Json → Geometrical
typed type key value = record { type = j.Text type; parts = (key, value) ∷ [] }

-- a geometry inside a collection
abbrev pub inner_value : Geometrical → Json
inner_value o = j.Object ((codes "type", o.type) ∷ o.parts)

-- one level, where `cell` is how cells are written, with the members of a group in their place
abbrev pub geometrical_step : (Point → Json) → Geometry-F Point (List ℤ) (List ℤ) Geometrical → Geometrical
geometrical_step cell (Geometry-F.Point p) = typed (codes "Point") (codes "coordinates") (cell p)
geometrical_step cell (Geometry-F.MultiPoint ps) = typed (codes "MultiPoint") (codes "coordinates") (j.Array (map cell ps))
geometrical_step cell (Geometry-F.Line refs) = typed (codes "LineString") (codes "arcs") (line_value refs)
geometrical_step cell (Geometry-F.Lines ls) = typed (codes "MultiLineString") (codes "arcs") (lines_value ls)
geometrical_step cell (Geometry-F.Area rs) = typed (codes "Polygon") (codes "arcs") (lines_value rs)
geometrical_step cell (Geometry-F.Areas areas) = typed (codes "MultiPolygon") (codes "arcs") (j.Array (map lines_value areas))
geometrical_step cell (Geometry-F.Group os) = typed (codes "GeometryCollection") (codes "geometries") (j.Array (map inner_value os))

unfoldable pub geometrical : (Point → Json) → TopoShape → Geometrical
geometrical cell = fold-Geometry Point (List ℤ) (List ℤ) Geometrical (geometrical_step cell)

-- a null geometry has a null type and nothing else
abbrev pub geometrical_option : (Point → Json) → Option TopoShape → Geometrical
geometrical_option cell None = record { type = j.Null; parts = [] }
geometrical_option cell (Some s) = geometrical cell s

-- ---- features and objects

abbrev pub id_value : Id → Json
id_value (id.Text t) = j.Text t
id_value (id.Number n) = j.Number n

-- the identifier, if there is one
abbrev pub id_members : Option Id → Members
id_members None = []
id_members (Some i) = (codes "id", id_value i) ∷ []

-- the properties, if they are an object
abbrev pub properties_members : Option Members → Members
properties_members None = []
properties_members (Some ms) = (codes "properties", j.Object ms) ∷ []

-- a geometry object with identifier and properties
abbrev pub feature_with : Option Id → Option Members → Geometrical → Json
feature_with i ms o = j.Object ((codes "type", o.type) ∷ (id_members i ++ (properties_members ms ++ o.parts)))

abbrev pub feature_value : (Point → Json) → TopoFeature → Json
feature_value cell f = feature_with f.id f.properties (geometrical_option cell f.shape)

abbrev pub object_value : (Point → Json) → TopoObject → Json
object_value cell (One f) = feature_value cell f
object_value cell (Many fs) = j.Object ((codes "type", j.Text (codes "GeometryCollection")) ∷ ((codes "geometries", j.Array (map (feature_value cell) fs)) ∷ []))

-- ---- topologies

-- the texts of two numbers, x first
abbrev pub pair_value : List ℕ × List ℕ → Json
pair_value p = j.Array (j.Number p.0 ∷ (j.Number p.1 ∷ []))

-- the coordinates of both corners, the least first, and x first
abbrev pub bounds_value : Corners → Json
bounds_value b = j.Array (map (number_value unit_places) (b.0.x ∷ (b.0.y ∷ (b.1.x ∷ (b.1.y ∷ [])))))

abbrev pub transform_object : Transform → Json
transform_object t = j.Object ((codes "scale", pair_value t.scale) ∷ ((codes "translate", pair_value t.translate) ∷ []))

-- the transform, if there is one
abbrev pub members_of_transform : Option Transform → Members
members_of_transform None = []
members_of_transform (Some t) = (codes "transform", transform_object t) ∷ []

-- the box from the least coordinates to the greatest, if there is one (section 3), in units also where there is a transform
abbrev pub members_of_bounds : Option Corners → Members
members_of_bounds None = []
members_of_bounds (Some b) = (codes "bbox", bounds_value b) ∷ []

-- the objects by name
abbrev pub objects_value : (Point → Json) → List (List ℕ × TopoObject) → Json
objects_value cell os = j.Object (map (λ o. (o.0, object_value cell o.1)) os)

abbrev pub arcs_value : Option Transform → List (List Point) → Json
arcs_value transform arcs = j.Array (map (arc_value transform) arcs)

unfoldable pub topology_value : Contents → Json
topology_value t =
    j.Object ((codes "type", j.Text (codes "Topology"))
    ∷ (members_of_transform t.transform
    ++ (members_of_bounds (bounds t)
    ++ ((codes "objects", objects_value (cell_value t.transform) t.objects)
    ∷ ((codes "arcs", arcs_value t.transform t.arcs) ∷ [])))))
