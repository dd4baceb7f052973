-- Polygons and shapes by what is read of arrays.
use Rattle.std.proofs.Common.{◌≡◌, ℕ, List, [], ◌∷◌, Option, Some, None, Result, Ok, Err, refl, sym, ap, ◌∙◌}
use Rattle.std.specs.Prelude.{ℤ, true, option_to_list}
use Rattle.json_value.specs.declared.json.Json.{Json}
use Rattle.json_value.specs.declared.json.Json.TheVariants as j
use Rattle.json_value.proofs.KindsOf.{array_of-array}
use Rattle.json_value.specs.Kinds.{array_of}
use Rattle.json_value.specs.Reading.{Parse, list_at}
use Rattle.geojson_types.specs.declared.counts.Counts.{Counts}
use Rattle.geojson_types.specs.Counting.{count_empty}
use Rattle.geometry.specs.declared.shape.Geometry.TheVariants as g
use Rattle.geometry.specs.Lists.{map_some, unless_empty}
use Rattle.geometry.specs.Points.{Point}
use Rattle.topojson_types.specs.declared.transform.Transform.{Transform}
use Rattle.topojson_types.specs.Topologies.{TopoShape}
use Rattle.topojson_meaning.specs.declared.fault.TopoFault.{TopoFault}
use Rattle.topojson_meaning.specs.declared.fault.TopoFault.TheVariants.{WrongKind}
use Rattle.topojson_meaning.specs.declared.geometry_type.ArcsType.TheVariants as of_arcs
use Rattle.topojson_meaning.specs.declared.geometry_type.PlacesType.TheVariants as of_places
use Rattle.topojson_meaning.specs.Arcs.{place, elements_place}
use Rattle.topojson_meaning.specs.Lines as lines
use Rattle.topojson_meaning.specs.Members.{elements}
use Rattle.topojson_meaning.specs.Shapes.{places_in, places_shape, arcs_in, arcs_shape}
use Rattle.topojson_meaning.specs.Reader.{Reader, ◌>>=◌, and_then, give, pure, or_fail, if_some, each, kept, gather}
use Rattle.json_cursor.specs.declared.stop.Stop.{Stop}
use Rattle.json_cursor.specs.declared.stop.Stop.TheVariants as stop
use Rattle.json_cursor.specs.Answers.{Reads, Stops}
use Rattle.json_cursor.specs.Arrays.{some_array_by, always, led, led_by}
use Rattle.json_cursor.specs.Folds.{some_one}
use Rattle.json_cursor.proofs.ArrayParts.{same_some_array, made_at_end}
use Rattle.json_cursor.proofs.Steps.{made, unmade}
use Rattle.json_cursor.proofs.Lists.{some_listed}
use Rattle.topojson_decoder.specs.Shapes.{unless_none}
use Rattle.topojson_decoder.specs.LinesAndRings.{line_or_ring}
use Rattle.topojson_decoder.proofs.LineOrRingParts.{some_are}

-- ---- polygons

module _ (arcs : List (List Point)) where
  with_rings : (vs : List Json) (r : Result (Option (List ℤ) × Counts) TopoFault)
      → and_then (λ outer. kept (lines.ring arcs) vs >>= λ inner. give (lines.with_outer outer inner)) r
      ≡ and_then (λ xs d. and_then (λ ys. give (led xs ys)) (gather (some_one (line_or_ring true arcs)) vs d)) (and_then (λ x. give (option_to_list x)) r)
  with_rings vs (Err e) = refl
  with_rings vs (Ok (None, d)) = refl
  with_rings vs (Ok (Some o, d)) = refl

  in_polygon : (vs : List Json) (c : Counts) → lines.polygon_in arcs vs c ≡ led_by (some_one (line_or_ring true arcs)) vs c
  unfolding lines.polygon_in
  in_polygon [] c = refl
  in_polygon (v ∷ vs) c = with_rings vs (lines.ring arcs v c)

  pub polygon_is : (v : Json) (c : Counts) → lines.polygon arcs v c ≡ some_array_by WrongKind (led_by (some_one (line_or_ring true arcs))) v c
  unfolding lines.polygon
  polygon_is v c = some_are (lines.polygon_in arcs) v c ∙ same_some_array WrongKind (lines.polygon_in arcs) (led_by (some_one (line_or_ring true arcs))) in_polygon v c

-- ---- shapes of one part

-- the shape of a part, if there is one
abbrev pub one_shape : {A : Type 0} → (A → TopoShape) → Option A → Reader (Option TopoShape)
one_shape shape x = give (map_some shape x)

module _ {A : Type 0} (shape : A → TopoShape) (read : List Json → Reader (Option A)) where
  of_one : (r : Result (Option (List Json) × Counts) TopoFault) → and_then (if_some (λ vs. read vs >>= one_shape shape)) r ≡ and_then (one_shape shape) (and_then (if_some read) r)
  of_one (Err e) = refl
  of_one (Ok (None, d)) = refl
  of_one (Ok (Some vs, d)) = refl

pub line_shape_is : (arcs : List (List Point)) (v : Json) (c : Counts) → arcs_shape arcs of_arcs.LineString v c ≡ and_then (one_shape g.Line) (lines.line arcs v c)
unfolding arcs_shape arcs_in lines.line
line_shape_is arcs v c = of_one g.Line (lines.line_in arcs) (lines.some_elements v c)

pub area_shape_is : (arcs : List (List Point)) (v : Json) (c : Counts) → arcs_shape arcs of_arcs.Polygon v c ≡ and_then (one_shape g.Area) (lines.polygon arcs v c)
unfolding arcs_shape arcs_in lines.polygon
area_shape_is arcs v c = of_one g.Area (lines.polygon_in arcs) (lines.some_elements v c)

-- ---- shapes of several parts

-- the shape of the parts, if there are any
abbrev pub shape_of_all : {A : Type 0} → (List A → TopoShape) → Option (List A) → Reader (Option TopoShape)
shape_of_all shape = if_some (λ xs. give (unless_empty shape xs))

pub all_in_shape : {A : Type 0} (shape : List A → TopoShape) (o : Option (List A)) (c : Counts) → shape_of_all shape o c ≡ Ok (unless_none shape o, c)
all_in_shape shape None c = refl
all_in_shape shape (Some xs) c = refl

module _ {A : Type 0} (shape : List A → TopoShape) (read : List Json → Reader (List A)) where
  of_all : (v : Json) (c : Counts) → (lines.some_elements v >>= if_some (λ vs. read vs >>= λ xs. give (unless_empty shape xs))) c ≡ and_then (shape_of_all shape) (some_array_by WrongKind (always read) v c)
  of_all v c = some_are (λ vs. read vs >>= λ xs. give (unless_empty shape xs)) v c ∙ made_at_end WrongKind read (λ xs. give (unless_empty shape xs)) v c

pub points_shape_is : (transform : Option Transform) (v : Json) (c : Counts) → places_shape transform of_places.MultiPoint v c ≡ and_then (shape_of_all g.MultiPoint) (some_array_by WrongKind (always (each (place transform))) v c)
unfolding places_shape places_in
points_shape_is transform v c = of_all g.MultiPoint (each (place transform)) v c

pub lines_shape_is : (arcs : List (List Point)) (v : Json) (c : Counts) → arcs_shape arcs of_arcs.MultiLineString v c ≡ and_then (shape_of_all g.Lines) (some_array_by WrongKind (always (kept (lines.line arcs))) v c)
unfolding arcs_shape arcs_in
lines_shape_is arcs v c = of_all g.Lines (kept (lines.line arcs)) v c

pub areas_shape_is : (arcs : List (List Point)) (v : Json) (c : Counts) → arcs_shape arcs of_arcs.MultiPolygon v c ≡ and_then (shape_of_all g.Areas) (some_array_by WrongKind (always (kept (lines.polygon arcs))) v c)
unfolding arcs_shape arcs_in
areas_shape_is arcs v c = of_all g.Areas (kept (lines.polygon arcs)) v c

-- ---- points

module _ (transform : Option Transform) (c : Counts) (prefix : Option (Json × List ℕ)) where
  pub no_point : ((v : Json) (rest : List ℕ) → prefix ≡ Some (v, rest) → array_of v ≡ None) → Stops (places_shape transform of_places.Point) prefix c (stop.Fault WrongKind)
  unfolding places_shape lines.some_elements
  no_point h v rest is = ap (λ o. and_then (if_some (places_in transform of_places.Point)) (lines.elements_in o c)) (h v rest is)

  pub empty_point : (rest : List ℕ) → prefix ≡ Some (j.Array [], rest) → Reads (places_shape transform of_places.Point) prefix None rest c (count_empty c)
  unfolding places_shape lines.some_elements
  empty_point rest is = record { value = j.Array []; prefix_is = is; means = ap (λ o. and_then (if_some (places_in transform of_places.Point)) (lines.elements_in o c)) (array_of-array []) }

  -- the shape of a place
  abbrev pub as_point : Point → Reader (Option TopoShape)
  as_point p = give (Some (g.Point p))

  filled_point : (y : Json) (ys : List Json) → places_shape transform of_places.Point (j.Array (y ∷ ys)) c ≡ and_then as_point (place transform (j.Array (y ∷ ys)) c)
  unfolding places_shape places_in lines.some_elements place elements
  filled_point y ys =
      ap (λ o. and_then (if_some (λ vs. elements_place transform vs >>= as_point)) (lines.elements_in o c)) (array_of-array (y ∷ ys))
      ∙ sym (ap (λ o. and_then as_point ((pure (or_fail WrongKind o) >>= λ vs. elements_place transform vs) c)) (array_of-array (y ∷ ys)))

  module _ (item : Parse Json) (n : ℕ) (inside : List ℕ) (filled : prefix ≡ made j.Array (list_at 93 item n inside)) where
    point_law : (v : Json) (rest : List ℕ) → prefix ≡ Some (v, rest) → places_shape transform of_places.Point v c ≡ and_then as_point (place transform v c)
    point_law v rest is =
        let u = unmade j.Array (list_at 93 item n inside) v rest (sym filled ∙ is) in
        let f = some_listed item n inside u.0 rest u.1.0 in
        rw (u.1.1 ∙ ap j.Array f.1.1) (filled_point f.0 f.1.0)

    pub point_reads : (p : Point) (rest : List ℕ) (new : Counts) → Reads (place transform) prefix p rest c new → Reads (places_shape transform of_places.Point) prefix (Some (g.Point p)) rest c new
    point_reads p rest new r = record { value = r.value; prefix_is = r.prefix_is; means = point_law r.value rest r.prefix_is ∙ rw r.means refl }

    pub point_stops : (s : Stop TopoFault) → Stops (place transform) prefix c s → Stops (places_shape transform of_places.Point) prefix c s
    point_stops (stop.Fault e) h = λ v rest is. point_law v rest is ∙ ap (and_then as_point) (h v rest is)
    point_stops stop.NoValue h = h
    point_stops stop.Memory h = tt
