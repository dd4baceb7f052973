-- What is read of a value without collections, with `exact` and without.
use Rattle.std.proofs.Common.{◌≡◌, Bool, true, false, List, [], ◌∷◌, Option, Some, None, arith}
use Rattle.geojson_meaning.proofs.Names.{map_some, unless_empty, Point, array_of, Json, count_extra, Counts, coordinate, elements_position, array_position, position, shape_in, coordinates_shape, some_elements, line_in, line, as_ring, ring_in, ring, polygon_in, polygon, Reader, ◌>>=◌, fail, each, kept, if_some, WrongKind, ShortPosition, CoordinatesType}
use Rattle.geometry.specs.declared.shape.Geometry.TheVariants as g
use Rattle.geojson_meaning.specs.declared.types.CoordinatesType.TheVariants as type
use Rattle.geojson_meaning.proofs.Stricter.{Stricter, then_stricter, give_stricter, fail_stricter, count_stricter, if_stricter, if_some_stricter, each_stricter, kept_stricter}

-- ---- coordinates and positions

coordinate_stricter : (v : Json) → Stricter (coordinate true v) (coordinate false v)
coordinate_stricter v = unfold coordinate in grind (arith, fail_stricter, fail_stricter, give_stricter)

extra_kept : (b : Bool) (c : Counts) → (count_extra b c).rounded ≡ c.rounded
extra_kept b c = grind arith

elements_position_stricter : (vs : List Json) → Stricter (elements_position true vs) (elements_position false vs)
unfolding elements_position
elements_position_stricter (v ∷ w ∷ more) = search (then_stricter, coordinate_stricter, count_stricter, extra_kept, arith)
elements_position_stricter vs = fail_stricter ShortPosition (fail ShortPosition)

array_position_stricter : (o : Option (List Json)) → Stricter (array_position true o) (array_position false o)
array_position_stricter None = fail_stricter WrongKind (fail WrongKind)
array_position_stricter (Some vs) = elements_position_stricter vs

positions_stricter : (vs : List Json) → Stricter (each (position true) vs) (each (position false) vs)
positions_stricter = unfold position in each_stricter (position true) (position false) (λ v. array_position_stricter (array_of v))

-- ---- lines and rings

some_elements_stricter : {A : Type 0} (m n : List Json → Reader (Option A)) → ((vs : List Json) → Stricter (m vs) (n vs)) → (v : Json) → Stricter (some_elements v >>= if_some m) (some_elements v >>= if_some n)
unfolding some_elements
some_elements_stricter m n h v = grind (arith, then_stricter, fail_stricter, count_stricter, give_stricter, if_some_stricter)

line_in_stricter : (vs : List Json) → Stricter (line_in true vs) (line_in false vs)
line_in_stricter vs = unfold line_in in grind (arith, then_stricter, positions_stricter, if_stricter, give_stricter, fail_stricter)

line_stricter : (v : Json) → Stricter (line true v) (line false v)
line_stricter = unfold line in some_elements_stricter (line_in true) (line_in false) line_in_stricter

as_ring_stricter : (ps : List Point) → Stricter (as_ring ps) (as_ring ps)
as_ring_stricter ps = grind (arith, if_stricter, give_stricter, fail_stricter)

ring_stricter : (v : Json) → Stricter (ring true v) (ring false v)
unfolding ring ring_in
ring_stricter = some_elements_stricter (ring_in true) (ring_in false) (λ vs. then_stricter (each (position true) vs) (each (position false) vs) as_ring as_ring (positions_stricter vs) as_ring_stricter)

-- ---- polygons

polygon_in_stricter : (vs : List Json) → Stricter (polygon_in true vs) (polygon_in false vs)
unfolding polygon_in
polygon_in_stricter [] = give_stricter None
polygon_in_stricter (v ∷ vs) = search (then_stricter, ring_stricter, kept_stricter, give_stricter, arith)

polygon_stricter : (v : Json) → Stricter (polygon true v) (polygon false v)
polygon_stricter = unfold polygon in some_elements_stricter (polygon_in true) (polygon_in false) polygon_in_stricter

-- ---- shapes

shape_in_stricter : (t : CoordinatesType) (vs : List Json) → Stricter (shape_in true t vs) (shape_in false t vs)
unfolding shape_in
shape_in_stricter type.Point vs = then_stricter (elements_position true vs) (elements_position false vs) _ _ (elements_position_stricter vs) (λ p. give_stricter (Some (g.Point p)))
shape_in_stricter type.MultiPoint vs = then_stricter (each (position true) vs) (each (position false) vs) _ _ (positions_stricter vs) (λ ps. give_stricter (unless_empty g.MultiPoint ps))
shape_in_stricter type.LineString vs = then_stricter (line_in true vs) (line_in false vs) _ _ (line_in_stricter vs) (λ ps. give_stricter (map_some g.Line ps))
shape_in_stricter type.MultiLineString vs = then_stricter (kept (line true) vs) (kept (line false) vs) _ _ (kept_stricter (line true) (line false) line_stricter vs) (λ ls. give_stricter (unless_empty g.Lines ls))
shape_in_stricter type.Polygon vs = then_stricter (polygon_in true vs) (polygon_in false vs) _ _ (polygon_in_stricter vs) (λ rs. give_stricter (map_some g.Area rs))
shape_in_stricter type.MultiPolygon vs = then_stricter (kept (polygon true) vs) (kept (polygon false) vs) _ _ (kept_stricter (polygon true) (polygon false) polygon_stricter vs) (λ rss. give_stricter (unless_empty g.Areas rss))

pub coordinates_shape_stricter : (t : CoordinatesType) (v : Json) → Stricter (coordinates_shape true t v) (coordinates_shape false t v)
coordinates_shape_stricter t = unfold coordinates_shape in some_elements_stricter (shape_in true t) (shape_in false t) (shape_in_stricter t)
