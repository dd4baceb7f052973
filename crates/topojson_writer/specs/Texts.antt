-- The texts of a geometry object and of a topology (TopoJSON 1.0, sections 2.1 and 2.2) part by part, as they are written.
use Rattle.std.specs.Prelude.{ℕ, false, List, [], ◌∷◌, ◌++◌, map, codes}
use Rattle.owned_values.specs.Commas.{with_commas}
use Rattle.json_value.specs.declared.json.Json.{Json}
use Rattle.json_value.specs.declared.json.Json.TheVariants as j
use Rattle.json_value.specs.Text.{json_text, name_text, member_text}
use Rattle.geometry.specs.Points.{Point}
use Rattle.topojson_types.specs.Topologies.{TopoShape, Contents}
use Rattle.topojson_types.specs.Values.{Members, Geometrical, cell_value, geometrical, inner_value, objects_value, arcs_value}

-- a geometry inside a collection, where `cell` is how cells are written
abbrev pub shape_value : (Point → Json) → TopoShape → Json
shape_value cell s = inner_value (geometrical cell s)

-- the opening brace and the type
unfoldable pub type_text : Geometrical → List ℕ
type_text o = codes "{\"type\":" ++ json_text o.type

-- members, each after a comma
unfoldable pub members_text : Members → List ℕ
members_text ms = with_commas false (map (λ m. member_text (m.0, json_text m.1)) ms)

-- the name of the first member after a comma, and its colon
abbrev pub first_name : Members → List ℕ
first_name [] = []
first_name (m ∷ ms) = codes "," ++ name_text m.0

-- the value of the first member
abbrev pub first_value : Members → Json
first_value [] = j.Null
first_value (m ∷ ms) = m.1

-- the name of what is after the type: `coordinates`, `arcs` or `geometries`
unfoldable pub parts_name : Geometrical → List ℕ
parts_name o = first_name o.parts

-- the coordinates, arc indexes or geometries
unfoldable pub parts_value : Geometrical → Json
parts_value o = first_value o.parts

-- the geometries of a GeometryCollection
abbrev pub shapes_value : (Point → Json) → List TopoShape → Json
shapes_value cell shapes = j.Array (map (shape_value cell) shapes)

-- the members `objects` and `arcs` of a topology
abbrev pub contents_members : Contents → Members
contents_members t = (codes "objects", objects_value (cell_value t.transform) t.objects) ∷ ((codes "arcs", arcs_value t.transform t.arcs) ∷ [])
