-- What objects are read as depends on where arcs begin and end alone.
use Rattle.std.proofs.Common.{◌≡◌, ℕ, ℤ, pos, negsuc, List, [], ◌∷◌, length, Option, Some, None, refl, sym, ap, ◌∙◌, if◌then◌else◌}
use Rattle.std.specs.Prelude.{codes, map, zero, suc}
use Rattle.std.proofs.lemmas.List.{length-map}
use Rattle.json_value.specs.declared.json.Json.{Json}
use Rattle.json_value.specs.declared.json.Json.TheFolds.{para-Json}
use Rattle.json_value.specs.declared.json.Json.TheOpen.{Json-F}
use Rattle.geometry.specs.Joins.{at, arc_at, first_of, last_of, or_empty}
use Rattle.geometry.specs.Lists.{map_some, then_some, unless_empty}
use Rattle.geometry.specs.Points.{Point}
use Rattle.geometry.specs.Rings.{both_same}
use Rattle.geometry.specs.declared.shape.Geometry.TheVariants as g
use Rattle.topojson_types.specs.declared.object.TopoObject.TheVariants.{One, Many}
use Rattle.topojson_types.specs.declared.transform.Transform.{Transform}
use Rattle.topojson_types.specs.Topologies.{TopoShape}
use Rattle.topojson_meaning.specs.declared.fault.TopoFault.TheVariants.{WrongKind, Unjoined, OpenRing}
use Rattle.topojson_meaning.specs.declared.geometry_type.ArcsType.{ArcsType}
use Rattle.topojson_meaning.specs.declared.geometry_type.ArcsType.TheVariants as by_arcs
use Rattle.topojson_meaning.specs.declared.geometry_type.GeometryType.{GeometryType}
use Rattle.topojson_meaning.specs.declared.geometry_type.GeometryType.TheVariants.{Places, Arcs, Collection}
use Rattle.topojson_meaning.specs.Features.{feature, feature_element, identifier, members_if}
use Rattle.topojson_meaning.specs.GeometryTypes.{is_collection, object_type, part_name}
use Rattle.topojson_meaning.specs.Lines as lines
use Rattle.topojson_meaning.specs.Lines.{as_ring, index, joined_to, line_end, line_start, meets, some_elements, with_outer}
use Rattle.topojson_meaning.specs.Members.{Members, elements, find, members, need_as}
use Rattle.topojson_meaning.specs.Objects.{collection, new_name, object, objects, objects_after, single}
use Rattle.topojson_meaning.specs.Objects as named
use Rattle.topojson_meaning.specs.Reader.{Reader, ◌>>=◌, give, fail, pure, if_some, each, kept}
use Rattle.topojson_meaning.specs.Shapes as shapes
use Rattle.topojson_meaning.specs.Shapes.{Readings, part_with, readings_step, typed_with}
use Rattle.topojson_decoder.specs.ArcEnds.{ends, last_from}
use Rattle.topojson_decoder.specs.Kept.{of_arcs}
use Rattle.topojson_decoder.specs.declared.keeping.Keeping.{Keeping}
use Rattle.topojson_decoder.specs.declared.keeping.Keeping.TheVariants.{Whole, Shapes, Counted}
use Rattle.topojson_decoder.proofs.Ends.{first_reverse, last_reverse}

-- arcs, and as many others that begin and end where they do
module _ (arcs brcs : List (List Point)) (many : length arcs ≡ length brcs)
    (begins : (r : ℤ) → first_of (arc_at arcs r) ≡ first_of (arc_at brcs r)) (ends_there : (r : ℤ) → last_of (arc_at arcs r) ≡ last_of (arc_at brcs r)) where
  -- ---- lines and rings

  meeting : (r s : ℤ) → meets arcs r s ≡ meets brcs r s
  meeting r s = λ i. both_same (ends_there r i) (begins s i)

  joining : (before r : ℤ) → joined_to arcs before r ≡ joined_to brcs before r
  joining before r = λ i. if meeting before r i then give r else fail Unjoined

  following : (vs : List Json) (before : ℤ) → lines.indexes_after arcs before vs ≡ lines.indexes_after brcs before vs
  unfolding lines.indexes_after
  following [] before = refl
  following (v ∷ vs) before = λ i. index (many i) v >>= λ j. joining before j i >>= λ k. following vs k i >>= λ refs. give (k ∷ refs)

  indexing : (vs : List Json) → lines.indexes arcs vs ≡ lines.indexes brcs vs
  unfolding lines.indexes
  indexing [] = refl
  indexing (v ∷ vs) = λ i. index (many i) v >>= λ k. following vs k i >>= λ refs. give (k ∷ refs)

  starting : (refs : List ℤ) → line_start arcs refs ≡ line_start brcs refs
  starting refs = λ i. then_some (λ r. begins r i) (first_of refs)

  ending : (refs : List ℤ) → line_end arcs refs ≡ line_end brcs refs
  ending refs = λ i. then_some (λ r. ends_there r i) (last_of refs)

  closing : (refs : List ℤ) → as_ring arcs refs ≡ as_ring brcs refs
  closing refs = λ i. if both_same (ending refs i) (starting refs i) then give (Some refs) else fail OpenRing

  line_in : (vs : List Json) → lines.line_in arcs vs ≡ lines.line_in brcs vs
  unfolding lines.line_in
  line_in vs = λ i. indexing vs i >>= λ refs. give (Some refs)

  ring_in : (vs : List Json) → lines.ring_in arcs vs ≡ lines.ring_in brcs vs
  unfolding lines.ring_in
  ring_in vs = λ i. indexing vs i >>= λ refs. closing refs i

  line : (v : Json) → lines.line arcs v ≡ lines.line brcs v
  unfolding lines.line
  line v = λ i. some_elements v >>= λ vs. if_some (λ us. line_in us i) vs

  ring : (v : Json) → lines.ring arcs v ≡ lines.ring brcs v
  unfolding lines.ring
  ring v = λ i. some_elements v >>= λ vs. if_some (λ us. ring_in us i) vs

  -- ---- polygons

  polygon_in : (vs : List Json) → lines.polygon_in arcs vs ≡ lines.polygon_in brcs vs
  unfolding lines.polygon_in
  polygon_in [] = refl
  polygon_in (v ∷ vs) = λ i. ring v i >>= λ outer. kept (λ w. ring w i) vs >>= λ inner. give (with_outer outer inner)

  polygon : (v : Json) → lines.polygon arcs v ≡ lines.polygon brcs v
  unfolding lines.polygon
  polygon v = λ i. some_elements v >>= λ vs. if_some (λ us. polygon_in us i) vs

  -- ---- shapes

  arcs_in : (type : ArcsType) (vs : List Json) → shapes.arcs_in arcs type vs ≡ shapes.arcs_in brcs type vs
  unfolding shapes.arcs_in
  arcs_in by_arcs.LineString vs = λ i. line_in vs i >>= λ refs. give (map_some g.Line refs)
  arcs_in by_arcs.MultiLineString vs = λ i. kept (λ v. line v i) vs >>= λ ls. give (unless_empty g.Lines ls)
  arcs_in by_arcs.Polygon vs = λ i. polygon_in vs i >>= λ rs. give (map_some g.Area rs)
  arcs_in by_arcs.MultiPolygon vs = λ i. kept (λ v. polygon v i) vs >>= λ areas. give (unless_empty g.Areas areas)

  arcs_shape : (type : ArcsType) (v : Json) → shapes.arcs_shape arcs type v ≡ shapes.arcs_shape brcs type v
  unfolding shapes.arcs_shape
  arcs_shape type v = λ i. some_elements v >>= λ vs. if_some (λ us. arcs_in type us i) vs

  module _ (t : Option Transform) where
    module _ {V : Type 0} (value : V → Json) (geometries : V → Reader (List TopoShape)) where
      part_by : (type : GeometryType) (v : V) → part_with value geometries t arcs type v ≡ part_with value geometries t brcs type v
      part_by (Places type) v = refl
      part_by (Arcs type) v = arcs_shape type (value v)
      part_by Collection v = refl

      typed_by : (type : Option GeometryType) (ms : List (List ℕ × V)) → typed_with value geometries t arcs type ms ≡ typed_with value geometries t brcs type ms
      typed_by None ms = refl
      typed_by (Some type) ms = λ i. need_as (part_name type) (λ v. part_by type v i) ms

    step : (x : Json-F (Json × Readings)) → readings_step t arcs x ≡ readings_step t brcs x
    step (Json-F.Object ms) = λ i. record {
      geometry = pure (object_type (map (λ m. (m.0, m.1.0)) ms)) >>= λ type. typed_by (λ v. v.0) (λ v. v.1.geometries) type ms i;
      geometries = fail WrongKind;
    }
    step (Json-F.Array vs) = refl
    step x = refl

    reading : (v : Json) → shapes.readings t arcs v ≡ shapes.readings t brcs v
    unfolding shapes.readings
    reading v = λ i. para-Json Readings (λ x. step x i) v

    of_shapes : (v : Json) → shapes.shapes t arcs v ≡ shapes.shapes t brcs v
    unfolding shapes.shapes
    of_shapes v = ap (λ r. r.geometries) (reading v)

    part : (type : GeometryType) (v : Json) → shapes.part t arcs type v ≡ shapes.part t brcs type v
    unfolding shapes.part
    part (Places type) v = refl
    part (Arcs type) v = arcs_shape type v
    part Collection v = λ i. of_shapes v i >>= λ ss. give (Some (g.Group ss))

    typed : (type : Option GeometryType) (ms : Members) → shapes.typed_shape t arcs type ms ≡ shapes.typed_shape t brcs type ms
    unfolding shapes.typed_shape
    typed None ms = refl
    typed (Some type) ms = λ i. need_as (part_name type) (λ v. part type v i) ms

    -- ---- features and objects

    of_feature : (type : Option GeometryType) (ms : Members) → feature t arcs type ms ≡ feature t brcs type ms
    unfolding feature
    of_feature type ms = λ i. pure (find (codes "id") ms) >>= λ n. pure (identifier n) >>= λ id. pure (find (codes "properties") ms) >>= λ p. pure (members_if p)
        >>= λ properties. typed type ms i >>= λ shape. give (record { id = id; properties = properties; shape = shape })

    of_element : (v : Json) → feature_element t arcs v ≡ feature_element t brcs v
    unfolding feature_element
    of_element v = λ i. pure (members v) >>= λ ms. pure (object_type ms) >>= λ type. of_feature type ms i

    of_features : (v : Json) → named.features t arcs v ≡ named.features t brcs v
    unfolding named.features
    of_features v = λ i. pure (elements v) >>= λ vs. each (λ w. of_element w i) vs

    of_collection : (ms : Members) → collection t arcs ms ≡ collection t brcs ms
    unfolding collection
    of_collection ms = λ i. need_as (codes "geometries") (λ v. of_features v i) ms >>= λ fs. give (Many fs)

    of_single : (type : Option GeometryType) (ms : Members) → single t arcs type ms ≡ single t brcs type ms
    unfolding single
    of_single type ms = λ i. of_feature type ms i >>= λ f. give (One f)

    of_object : (v : Json) → object t arcs v ≡ object t brcs v
    unfolding object
    of_object v = λ i. pure (members v) >>= λ ms. pure (object_type ms) >>= λ type. if is_collection type then of_collection ms i else of_single type ms i

    of_members : (ms : Members) (met : List (List ℕ)) → objects_after t arcs met ms ≡ objects_after t brcs met ms
    unfolding objects_after
    of_members [] met = refl
    of_members (m ∷ ms) met = λ i. new_name met m.0 >>= λ name. of_object m.1 i >>= λ o. of_members ms (name ∷ met) i >>= λ os. give ((name, o) ∷ os)

    of_objects : (v : Json) → objects t arcs v ≡ objects t brcs v
    unfolding objects
    of_objects v = λ i. pure (members v) >>= λ ms. of_members ms [] i

-- ---- the ends of arcs

first_end : (cs : List Point) → first_of (ends cs) ≡ first_of cs
first_end [] = refl
first_end (c ∷ cs) = refl

last_is : (c : Point) (cs : List Point) → Some (last_from c cs) ≡ last_of (c ∷ cs)
last_is c [] = refl
last_is c (d ∷ ds) = last_is d ds

last_end : (cs : List Point) → last_of (ends cs) ≡ last_of cs
last_end [] = refl
last_end (c ∷ cs) = last_is c cs

at_ends : (arcs : List (List Point)) (n : ℕ) → or_empty (at (map ends arcs) n) ≡ ends (or_empty (at arcs n))
at_ends [] n = refl
at_ends (cs ∷ arcs) zero = refl
at_ends (cs ∷ arcs) (suc n) = at_ends arcs n

begins_so : (arcs : List (List Point)) (r : ℤ) → first_of (arc_at (map ends arcs) r) ≡ first_of (arc_at arcs r)
begins_so arcs (pos n) = ap first_of (at_ends arcs n) ∙ first_end (or_empty (at arcs n))
begins_so arcs (negsuc n) = first_reverse (or_empty (at (map ends arcs) n)) ∙ ap last_of (at_ends arcs n) ∙ last_end (or_empty (at arcs n)) ∙ sym (first_reverse (or_empty (at arcs n)))

ends_so : (arcs : List (List Point)) (r : ℤ) → last_of (arc_at (map ends arcs) r) ≡ last_of (arc_at arcs r)
ends_so arcs (pos n) = ap last_of (at_ends arcs n) ∙ last_end (or_empty (at arcs n))
ends_so arcs (negsuc n) = last_reverse (or_empty (at (map ends arcs) n)) ∙ ap first_of (at_ends arcs n) ∙ first_end (or_empty (at arcs n)) ∙ sym (last_reverse (or_empty (at arcs n)))

-- objects are read over what is kept of arcs as over the arcs
pub over_kept : (k : Keeping) (t : Option Transform) (arcs : List (List Point)) → objects t (of_arcs k arcs) ≡ objects t arcs
over_kept (Whole text) t arcs = refl
over_kept Shapes t arcs = refl
over_kept Counted t arcs = λ i v. of_objects (map ends arcs) arcs (length-map arcs ends) (begins_so arcs) (ends_so arcs) t v i
