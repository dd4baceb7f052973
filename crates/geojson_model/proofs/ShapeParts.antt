-- Shapes by what is read of their coordinates.
use Rattle.std.proofs.Common.{◌≡◌, ℕ, Bool, List, [], ◌∷◌, Option, Some, None, Result, Ok, Err, refl, sym, ◌∙◌}
use Rattle.json_value.specs.declared.json.Json.{Json}
use Rattle.geometry.specs.Points.{Point}
use Rattle.geometry.specs.Lists.{map_some, then_some, unless_empty}
use Rattle.geometry.specs.declared.shape.Geometry.TheVariants as g
use Rattle.geojson_types.specs.declared.counts.Counts.{Counts}
use Rattle.geojson_types.specs.Features.{Shape}
use Rattle.geojson_meaning.specs.declared.fault.GeoFaultKind.{GeoFaultKind}
use Rattle.geojson_meaning.specs.declared.fault.GeoFaultKind.TheVariants.{WrongKind}
use Rattle.geojson_meaning.specs.declared.types.CoordinatesType.{CoordinatesType}
use Rattle.geojson_meaning.specs.declared.types.CoordinatesType.TheVariants as type
use Rattle.geojson_meaning.specs.Coordinates.{position, elements_position}
use Rattle.geojson_meaning.specs.Geometries.{coordinates_shape, shape_in}
use Rattle.geojson_meaning.specs.Lines.{some_elements, line, line_in}
use Rattle.geojson_meaning.specs.Polygons.{polygon, polygon_in}
use Rattle.geojson_meaning.specs.Reader.{Reader, and_then, give, gather, if_some}
use Rattle.json_cursor.specs.declared.stop.Stop.{Stop}
use Rattle.json_cursor.specs.Answers.{Reads, Stops}
use Rattle.json_cursor.specs.Arrays.{always, some_array_by}
use Rattle.json_cursor.specs.Folds.{one, some_one}
use Rattle.json_cursor.proofs.ArrayParts.{made_at_end}
use Rattle.json_cursor.proofs.Steps.{then_reads, then_stops}
use Rattle.geojson_model.proofs.LineParts.{elements_by}

-- ---- shapes of many

left_of : {B : Type 0} (make : List B → Shape) (x : Option (List B)) (c : Counts) → if_some {E = GeoFaultKind} (λ xs. give (unless_empty make xs)) x c ≡ Ok (map_some make (then_some (unless_empty (λ xs. xs)) x), c)
left_of make None c = refl
left_of make (Some []) c = refl
left_of make (Some (x ∷ xs)) c = refl

module _ {B : Type 0} (exact : Bool) (kind : CoordinatesType) (make : List B → Shape) (read : Json → Reader (List B))
    (law : (v : Json) (c : Counts) → coordinates_shape exact kind v c ≡ and_then (if_some (λ xs. give (unless_empty make xs))) (some_array_by WrongKind (always (gather read)) v c)) (prefix : Option (Json × List ℕ)) (old : Counts) where
  pub many_stop : (s : Stop GeoFaultKind) → Stops (some_array_by WrongKind (always (gather read))) prefix old s → Stops (coordinates_shape exact kind) prefix old s
  many_stop s h = then_stops (some_array_by WrongKind (always (gather read))) (if_some (λ xs. give (unless_empty make xs))) (coordinates_shape exact kind) prefix old (λ v. law v old) s h

  pub many_read : (x : Option (List B)) (rest : List ℕ) (new : Counts) → Reads (some_array_by WrongKind (always (gather read))) prefix x rest old new → Reads (coordinates_shape exact kind) prefix (map_some make (then_some (unless_empty (λ xs. xs)) x)) rest old new
  many_read x rest new r = then_reads (some_array_by WrongKind (always (gather read))) (if_some (λ xs. give (unless_empty make xs))) (coordinates_shape exact kind) prefix old new (λ v. law v old) x rest r _ new (left_of make x new)

pub points_are : (exact : Bool) (v : Json) (c : Counts) → coordinates_shape exact type.MultiPoint v c ≡ and_then (if_some (λ xs. give (unless_empty g.MultiPoint xs))) (some_array_by WrongKind (always (gather (one (position exact)))) v c)
unfolding coordinates_shape shape_in
points_are exact v c = elements_by (shape_in exact type.MultiPoint) v c ∙ made_at_end WrongKind (gather (one (position exact))) (λ xs. give (unless_empty g.MultiPoint xs)) v c

pub lines_are : (exact : Bool) (v : Json) (c : Counts) → coordinates_shape exact type.MultiLineString v c ≡ and_then (if_some (λ xs. give (unless_empty g.Lines xs))) (some_array_by WrongKind (always (gather (some_one (line exact)))) v c)
unfolding coordinates_shape shape_in
lines_are exact v c = elements_by (shape_in exact type.MultiLineString) v c ∙ made_at_end WrongKind (gather (some_one (line exact))) (λ xs. give (unless_empty g.Lines xs)) v c

pub areas_are : (exact : Bool) (v : Json) (c : Counts) → coordinates_shape exact type.MultiPolygon v c ≡ and_then (if_some (λ xs. give (unless_empty g.Areas xs))) (some_array_by WrongKind (always (gather (some_one (polygon exact)))) v c)
unfolding coordinates_shape shape_in
areas_are exact v c = elements_by (shape_in exact type.MultiPolygon) v c ∙ made_at_end WrongKind (gather (some_one (polygon exact))) (λ xs. give (unless_empty g.Areas xs)) v c

-- ---- shapes of one

module _ {A : Type 0} (part : List Json → Reader (Option A)) (make : A → Shape) where
  if_made : (o : Option (List Json)) (c : Counts) → if_some (λ vs d. and_then (λ x. give (map_some make x)) (part vs d)) o c ≡ and_then (λ x. give (map_some make x)) (if_some part o c)
  if_made None c = refl
  if_made (Some vs) c = refl

  then_made : (r : Result (Option (List Json) × Counts) GeoFaultKind) → and_then (if_some (λ vs d. and_then (λ x. give (map_some make x)) (part vs d))) r ≡ and_then (λ x. give (map_some make x)) (and_then (if_some part) r)
  then_made (Ok x) = if_made x.0 x.1
  then_made (Err e) = refl

module _ {A : Type 0} (exact : Bool) (kind : CoordinatesType) (make : A → Shape) (read : Json → Reader (Option A))
    (law : (v : Json) (c : Counts) → coordinates_shape exact kind v c ≡ and_then (λ x. give (map_some make x)) (read v c)) (prefix : Option (Json × List ℕ)) (old : Counts) where
  pub one_stops : (s : Stop GeoFaultKind) → Stops read prefix old s → Stops (coordinates_shape exact kind) prefix old s
  one_stops s h = then_stops read (λ x. give (map_some make x)) (coordinates_shape exact kind) prefix old (λ v. law v old) s h

  pub one_reads : (x : Option A) (rest : List ℕ) (new : Counts) → Reads read prefix x rest old new → Reads (coordinates_shape exact kind) prefix (map_some make x) rest old new
  one_reads x rest new r = then_reads read (λ x. give (map_some make x)) (coordinates_shape exact kind) prefix old new (λ v. law v old) x rest r (map_some make x) new refl

pub line_is : (exact : Bool) (v : Json) (c : Counts) → coordinates_shape exact type.LineString v c ≡ and_then (λ x. give (map_some g.Line x)) (line exact v c)
unfolding coordinates_shape shape_in line
line_is exact v c = then_made (line_in exact) g.Line (some_elements v c)

pub area_is : (exact : Bool) (v : Json) (c : Counts) → coordinates_shape exact type.Polygon v c ≡ and_then (λ x. give (map_some g.Area x)) (polygon exact v c)
unfolding coordinates_shape shape_in polygon
area_is exact v c = then_made (polygon_in exact) g.Area (some_elements v c)

-- ---- points

pub point_is : (exact : Bool) (v : Json) (c : Counts) → some_array_by WrongKind (shape_in exact type.Point) v c ≡ coordinates_shape exact type.Point v c
unfolding coordinates_shape
point_is exact v c = sym (elements_by (shape_in exact type.Point) v c)

module _ (exact : Bool) (elements : Option (List Json × List ℕ)) (old : Counts) where
  point_law : (vs : List Json) → shape_in exact type.Point vs old ≡ and_then (λ p. give (Some (g.Point p))) (elements_position exact vs old)
  unfolding shape_in
  point_law vs = refl

  pub point_stops : (s : Stop GeoFaultKind) → Stops (elements_position exact) elements old s → Stops (shape_in exact type.Point) elements old s
  point_stops s h = then_stops (elements_position exact) (λ p. give (Some (g.Point p))) (shape_in exact type.Point) elements old point_law s h

  pub point_reads : (p : Point) (rest : List ℕ) (new : Counts) → Reads (elements_position exact) elements p rest old new → Reads (shape_in exact type.Point) elements (Some (g.Point p)) rest old new
  point_reads p rest new r = then_reads (elements_position exact) (λ q. give (Some (g.Point q))) (shape_in exact type.Point) elements old new point_law p rest r (Some (g.Point p)) new refl
