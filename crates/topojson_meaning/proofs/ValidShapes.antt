-- The shapes that are read of one value keep the rules of their kinds.
use Rattle.std.proofs.Common.{◌≡◌, ℕ, true, false, List, Option, Some, None, arith}
use Rattle.topojson_meaning.proofs.Names.{AllByRecursion, map_some, unless_empty, Point, Json, is_some_list, TopoShape, IsPlace, Transform, elements_place, place, part_name, is_collection, line_in, line, polygon_in, polygon, Reader, each, kept, places_in, arcs_in, places_shape, arcs_shape, part_with, typed_with, GeometryType, Places, Arcs, Collection}
use Rattle.geometry.specs.declared.shape.Geometry.TheVariants as g
use Rattle.topojson_meaning.specs.declared.geometry_type.ArcsType.{ArcsType}
use Rattle.topojson_meaning.specs.declared.geometry_type.ArcsType.TheVariants as of_arcs
use Rattle.topojson_meaning.specs.declared.geometry_type.PlacesType.{PlacesType}
use Rattle.topojson_meaning.specs.declared.geometry_type.PlacesType.TheVariants as of_places
use Rattle.topojson_meaning.proofs.ValidArcs.{elements_place_yields, place_yields}
use Rattle.topojson_meaning.proofs.ValidKept.{IsLine, IsArea, IsShape, IsSingle, kept-point, kept-points, kept-line, kept-lines, kept-area, kept-areas, kept-group}
use Rattle.topojson_meaning.proofs.ValidLines.{some_elements_yield, line_in_yields, lines_yield, polygon_in_yields, polygons_yield}
use Rattle.topojson_meaning.proofs.ValidMembers.{need_as_yields}
use Rattle.topojson_meaning.proofs.ValidYields.{Yields, IfThere, all_trivial, weaker_yields, there_weaker, then_yields, give_yields, each_yields}

-- ---- parts that are there

there_made : {A B : Type 0} (P : A → Type 0) (Q : B → Type 0) (make : A → B) → ((x : A) → P x → Q (make x)) → (o : Option A) → IfThere P o → IfThere Q (map_some make o)
there_made P Q make h o k = grind arith

some_made : {A B : Type 0} (P : A → Type 0) (Q : B → Type 0) (make : List A → B) → ((xs : List A) → is_some_list xs ≡ true → AllByRecursion P xs → Q (make xs)) → (xs : List A) → AllByRecursion P xs → IfThere Q (unless_empty make xs)
some_made P Q make h xs k = grind arith

module _ (transform : Option Transform) (arcs : List (List Point)) where
  abbrev Shape : TopoShape → Type 0
  Shape = IsShape transform arcs

  abbrev Single : TopoShape → Type 0
  Single = IsSingle transform arcs

  abbrev Place : Point → Type 0
  Place = IsPlace transform

  -- ---- shapes of positions and of arcs

  places_in_yields : (type : PlacesType) (vs : List Json) → Yields (IfThere Single) (places_in transform type vs)
  unfolding places_in
  places_in_yields of_places.Point vs =
      then_yields Place (IfThere Single) (elements_place transform vs) _ (elements_place_yields transform vs)
      (λ p h. give_yields (IfThere Single) (Some (g.Point p)) (kept-point transform arcs p h))
  places_in_yields of_places.MultiPoint vs =
      then_yields (AllByRecursion Place) (IfThere Single) (each (place transform) vs) _ (each_yields Place (place transform) (place_yields transform) vs)
      (λ ps h. give_yields (IfThere Single) (unless_empty g.MultiPoint ps) (some_made Place Single g.MultiPoint (kept-points transform arcs) ps h))

  arcs_in_yields : (type : ArcsType) (vs : List Json) → is_some_list vs ≡ true → Yields (IfThere Single) (arcs_in arcs type vs)
  unfolding arcs_in
  arcs_in_yields of_arcs.LineString vs some =
      then_yields (IfThere (IsLine arcs false)) (IfThere Single) (line_in arcs vs) _ (line_in_yields arcs vs some)
      (λ o h. give_yields (IfThere Single) (map_some g.Line o) (there_made (IsLine arcs false) Single g.Line (kept-line transform arcs) o h))
  arcs_in_yields of_arcs.MultiLineString vs some =
      then_yields (AllByRecursion (IsLine arcs false)) (IfThere Single) (kept (line arcs) vs) _ (lines_yield arcs vs)
      (λ ls h. give_yields (IfThere Single) (unless_empty g.Lines ls) (some_made (IsLine arcs false) Single g.Lines (kept-lines transform arcs) ls h))
  arcs_in_yields of_arcs.Polygon vs some =
      then_yields (IfThere (IsArea arcs)) (IfThere Single) (polygon_in arcs vs) _ (polygon_in_yields arcs vs)
      (λ o h. give_yields (IfThere Single) (map_some g.Area o) (there_made (IsArea arcs) Single g.Area (kept-area transform arcs) o h))
  arcs_in_yields of_arcs.MultiPolygon vs some =
      then_yields (AllByRecursion (IsArea arcs)) (IfThere Single) (kept (polygon arcs) vs) _ (polygons_yield arcs vs)
      (λ areas h. give_yields (IfThere Single) (unless_empty g.Areas areas) (some_made (IsArea arcs) Single g.Areas (kept-areas transform arcs) areas h))

  places_shape_yields : (type : PlacesType) (v : Json) → Yields (IfThere Single) (places_shape transform type v)
  unfolding places_shape
  places_shape_yields type v = some_elements_yield Single (places_in transform type) v (λ vs some. places_in_yields type vs)

  arcs_shape_yields : (type : ArcsType) (v : Json) → Yields (IfThere Single) (arcs_shape arcs type v)
  unfolding arcs_shape
  arcs_shape_yields type v = some_elements_yield Single (arcs_in arcs type) v (arcs_in_yields type)

  single_is_shape : (o : Option TopoShape) → IfThere Single o → IfThere Shape o
  single_is_shape = there_weaker Single Shape (λ s h. h.0)

  -- ---- shapes of any type

  abbrev Shapes : List TopoShape → Type 0
  Shapes = AllByRecursion Shape

  -- where the `geometries` of a collection give shapes
  module _ {V : Type 0} (value : V → Json) (geometries : V → Reader (List TopoShape)) where
    abbrev GivesShapes : V → Type 0
    GivesShapes v = Yields Shapes (geometries v)

    pub part_with_yields : (type : GeometryType) (v : V) → GivesShapes v → Yields (IfThere Shape) (part_with value geometries transform arcs type v)
    part_with_yields (Places type) v h = weaker_yields (IfThere Single) (IfThere Shape) (places_shape transform type (value v)) single_is_shape (places_shape_yields type (value v))
    part_with_yields (Arcs type) v h = weaker_yields (IfThere Single) (IfThere Shape) (arcs_shape arcs type (value v)) single_is_shape (arcs_shape_yields type (value v))
    part_with_yields Collection v h = then_yields Shapes (IfThere Shape) (geometries v) _ h (λ ss k. give_yields (IfThere Shape) (Some (g.Group ss)) (kept-group transform arcs ss k))

    pub typed_with_yields : (type : Option GeometryType) (ms : List (List ℕ × V)) → AllByRecursion (λ m. GivesShapes m.1) ms → Yields (IfThere Shape) (typed_with value geometries transform arcs type ms)
    typed_with_yields None ms h = give_yields (IfThere Shape) None tt
    typed_with_yields (Some type) ms h = need_as_yields GivesShapes (IfThere Shape) (part_name type) (part_with value geometries transform arcs type) ms (part_with_yields type) h

    -- one that is no collection
    single_part : (type : GeometryType) (v : V) → is_collection (Some type) ≡ false → Yields (IfThere Single) (part_with value geometries transform arcs type v)
    single_part (Places type) v e = places_shape_yields type (value v)
    single_part (Arcs type) v e = arcs_shape_yields type (value v)
    single_part Collection v e = absurd cc

    pub single_with_yields : (type : Option GeometryType) (ms : List (List ℕ × V)) → is_collection type ≡ false → Yields (IfThere Single) (typed_with value geometries transform arcs type ms)
    single_with_yields type ms h = grind (arith, give_yields, IfThere, need_as_yields, single_part, all_trivial)
