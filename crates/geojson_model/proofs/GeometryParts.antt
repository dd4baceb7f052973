-- A geometry by its members.
use Rattle.std.proofs.Common.{◌≡◌, ℕ, Bool, true, false, List, [], ◌∷◌, Option, Some, None, Result, Ok, Err, refl, ap, sym, ◌∙◌}
use Rattle.std.specs.Prelude.{bytes_eq, codes}
use Rattle.std.proofs.lemmas.Slice.Eq.{bytes_eq-Decides}
use Rattle.json_value.specs.declared.json.Json.{Json}
use Rattle.json_value.specs.Kinds.{array_of, object_of, text_of}
use Rattle.json_value.specs.declared.json.Json.TheVariants as j
use Rattle.json_value.proofs.KindsOf.{array_of-array, object_of-object}
use Rattle.geometry.specs.Lists.{map_some}
use Rattle.geometry.specs.declared.shape.Geometry.TheVariants as g
use Rattle.geojson_types.specs.declared.counts.Counts.{Counts}
use Rattle.geojson_meaning.specs.declared.fault.GeoFaultKind.{GeoFaultKind}
use Rattle.geojson_meaning.specs.declared.fault.GeoFaultKind.TheVariants.{Missing, Duplicate, UnknownType, WrongKind}
use Rattle.geojson_meaning.specs.declared.types.CoordinatesType.{CoordinatesType}
use Rattle.geojson_meaning.specs.declared.types.GeoJsonType.{GeoJsonType}
use Rattle.geojson_meaning.specs.declared.types.GeoJsonType.TheVariants as types
use Rattle.geojson_meaning.specs.declared.types.GeometryType.{GeometryType}
use Rattle.geojson_meaning.specs.declared.types.GeometryType.TheVariants.{Coordinates, Collection}
use Rattle.geojson_meaning.specs.Geometries.{coordinates_shape, typed_geometry, geometry, shape, shapes}
use Rattle.geojson_meaning.proofs.Unrolled.{shape_object, shape_other, shapes_array, shapes_other}
use Rattle.geojson_meaning.specs.Members.{named, need, type_name}
use Rattle.json_value.specs.Readers.{Counting}
use Rattle.geojson_meaning.specs.Reader.{Reader, and_then, gather, kept, or_fail, pure}
use Rattle.geojson_types.specs.Features.{Shape}
use Rattle.geojson_meaning.specs.Types.{coordinates_type, geojson_type, geometry_type}
use Rattle.json_cursor.specs.Answers.{Reads, Stops}
use Rattle.json_cursor.specs.Members.{Members}
use Rattle.json_cursor.specs.Arrays.{prefix_value}
use Rattle.json_cursor.specs.Held.{Finds, FindsValue, IsHeld}
use Rattle.json_cursor.proofs.Steps.{found_stops, made}
use Rattle.json_reading.specs.declared.fault.Fault.{Fault}
use Rattle.json_reading.specs.declared.fault.Fault.TheVariants as fault
use Rattle.std.specs.Borrow.{Bor}
use Rattle.json_cursor.specs.declared.stop.Stop.{Stop}
use Rattle.json_cursor.specs.declared.stop.Stop.TheVariants as stop
use Rattle.geojson_model.specs.Members.{IsOccurrence, IsType, Judges, geometry_kind, kind_of, type_in}
use Rattle.json_cursor.specs.declared.occurrence.Occurrence.{Occurrence}
use Rattle.json_cursor.specs.declared.occurrence.Occurrence.TheVariants.{Never, Once, Again}

-- readers that answer the same are judged by the same
pub judges_same : {C E B : Type 0} (r s : Counting C E B) (old new : C) → r old ≡ s old → (result : Result B (Stop E)) → Judges s old new result → Judges r old new result
judges_same r s old new e (Ok x) h = e ∙ h
judges_same r s old new e (Err (stop.Fault k)) h = e ∙ h
judges_same r s old new e (Err stop.NoValue) h = absurd h
judges_same r s old new e (Err stop.Memory) h = tt

-- ---- coordinates

module _ (exact : Bool) (type : CoordinatesType) (ms : Members) (c : Counts) where
  pub no_coordinates : named (codes "coordinates") ms ≡ [] → typed_geometry exact (Coordinates type) ms c ≡ Err Missing
  unfolding typed_geometry need
  no_coordinates h = rw h refl

  pub more_coordinates : (v w : Json) (us : List Json) → named (codes "coordinates") ms ≡ v ∷ w ∷ us → typed_geometry exact (Coordinates type) ms c ≡ Err Duplicate
  unfolding typed_geometry need
  more_coordinates v w us h = rw h refl

  pub one_coordinates : (v : Json) → named (codes "coordinates") ms ≡ v ∷ [] → typed_geometry exact (Coordinates type) ms c ≡ coordinates_shape exact type v c
  unfolding typed_geometry need
  one_coordinates v h = rw h refl

-- ---- the type

module _ (exact : Bool) (ms : Members) (c : Counts) where
  -- what is read by the type, or its fault
  abbrev by_type : Result GeoJsonType GeoFaultKind → Result (Option Shape × Counts) GeoFaultKind
  by_type (Ok (types.Geometry kind)) = typed_geometry exact kind ms c
  by_type (Ok types.Feature) = Err UnknownType
  by_type (Ok types.FeatureCollection) = Err UnknownType
  by_type (Err e) = Err e

  by_kind : (o : Option GeometryType) → and_then (λ kind. typed_geometry exact kind ms) (pure (or_fail UnknownType o) c) ≡ by_type (or_fail UnknownType (map_some types.Geometry o))
  unfolding typed_geometry
  by_kind None = refl
  by_kind (Some kind) = refl

  -- what is read by the name of the type
  abbrev ByName : List ℕ → Type 0
  ByName name = and_then (λ kind. typed_geometry exact kind ms) (pure (or_fail UnknownType (geometry_type name)) c) ≡ by_type (or_fail UnknownType (geojson_type name))

  by_tests : (name : List ℕ) (one other : Bool) → bytes_eq name (codes "FeatureCollection") ≡ one → bytes_eq name (codes "Feature") ≡ other → ByName name
  unfolding geojson_type geometry_type coordinates_type
  by_tests name true other h k = rw ((bytes_eq-Decides name (codes "FeatureCollection")).0 h) refl
  by_tests name false true h k = rw ((bytes_eq-Decides name (codes "Feature")).0 k) refl
  by_tests name false false h k = rw (h, k) (by_kind (geometry_type name))

  by_name : (name : List ℕ) → ByName name
  by_name name = by_tests name (bytes_eq name (codes "FeatureCollection")) (bytes_eq name (codes "Feature")) refl refl

  module _ (v : Json) (one : named (codes "type") ms ≡ v ∷ []) where
    by_text : (o : Option (List ℕ)) → text_of v ≡ o → geometry exact ms c ≡ by_type (type_in o)
    unfolding geometry type_name
    by_text None is = rw (one, is) refl
    by_text (Some name) is = rw (one, is) (by_name name)

  -- the geometry of this type, or the fault of the type
  abbrev pub by_geometry : Result GeometryType GeoFaultKind → Result (Option Shape × Counts) GeoFaultKind
  by_geometry (Ok kind) = typed_geometry exact kind ms c
  by_geometry (Err e) = Err e

  same_type : (x : Result GeoJsonType GeoFaultKind) → by_type x ≡ by_geometry (geometry_kind x)
  same_type (Ok (types.Geometry kind)) = refl
  same_type (Ok types.FeatureCollection) = refl
  same_type (Ok types.Feature) = refl
  same_type (Err e) = refl

  pub is_of_kind : (s : Occurrence (Result GeoJsonType GeoFaultKind)) → IsOccurrence IsType (named (codes "type") ms) s → geometry exact ms c ≡ by_geometry (kind_of s)
  unfolding geometry type_name
  is_of_kind Never h = rw h refl
  is_of_kind (Once x) (v, one, is) = by_text v one (text_of v) refl ∙ ap by_type (sym is) ∙ same_type x
  is_of_kind Again (v, w, us, more) = rw more refl

-- ---- the geometries of a collection

module _ (exact : Bool) (ms : Members) (c : Counts) where
  pub no_geometries : named (codes "geometries") ms ≡ [] → typed_geometry exact Collection ms c ≡ Err Missing
  unfolding typed_geometry need
  no_geometries h = rw h refl

  pub more_geometries : (v w : Json) (us : List Json) → named (codes "geometries") ms ≡ v ∷ w ∷ us → typed_geometry exact Collection ms c ≡ Err Duplicate
  unfolding typed_geometry need
  more_geometries v w us h = rw h refl

  module _ (v : Json) (one : named (codes "geometries") ms ≡ v ∷ []) where
    pub grouped : (ss : List Shape) (d : Counts) → shapes exact v c ≡ Ok (ss, d) → typed_geometry exact Collection ms c ≡ Ok (Some (g.Group ss), d)
    unfolding typed_geometry need
    grouped ss d h = rw (one, h) refl

    pub ungrouped : (e : GeoFaultKind) → shapes exact v c ≡ Err e → typed_geometry exact Collection ms c ≡ Err e
    unfolding typed_geometry need
    ungrouped e h = rw (one, h) refl

-- ---- what stands at the front

pub object_shape : (exact : Bool) (ms : Members) (old : Counts) → shape exact (j.Object ms) old ≡ geometry exact ms old
object_shape exact ms old = ap (λ (r : Reader (Option Shape)). r old) (shape_object exact (j.Object ms) ms (object_of-object ms))

-- what is judged of the object that stands there is answered of it
module _ (exact : Bool) (prefix : Option (Json × List ℕ)) (ms : Members) (rest : List ℕ) (old : Counts) (is : prefix ≡ Some (j.Object ms, rest)) where
  pub object_stops : (new : Counts) (why : Stop GeoFaultKind) → Judges (geometry exact ms) old new (Err why) → Stops (shape exact) prefix old why
  object_stops new (stop.Fault e) h = found_stops (shape exact) prefix old (j.Object ms) rest e is (object_shape exact ms old ∙ h)
  object_stops new stop.NoValue h = absurd h
  object_stops new stop.Memory h = tt

  pub object_reads : (x : Option Shape) (new : Counts) → geometry exact ms old ≡ Ok (x, new) → Reads (shape exact) prefix x rest old new
  object_reads x new h = record { value = j.Object ms; prefix_is = is; means = object_shape exact ms old ∙ h }

pub no_object : (exact : Bool) (v : Json) (old : Counts) → object_of v ≡ None → shape exact v old ≡ Err WrongKind
no_object exact v old h = ap (λ (r : Reader (Option Shape)). r old) (shape_other exact v h)

pub no_array : (exact : Bool) (v : Json) (old : Counts) → array_of v ≡ None → shapes exact v old ≡ Err WrongKind
no_array exact v old h = ap (λ (r : Reader (List Shape)). r old) (shapes_other exact v h)

array_shapes : (exact : Bool) (vs : List Json) (old : Counts) → shapes exact (j.Array vs) old ≡ kept (shape exact) vs old
array_shapes exact vs old = ap (λ (r : Reader (List Shape)). r old) (shapes_array exact (j.Array vs) vs (array_of-array vs))

pub no_elements : (exact : Bool) (prefix : Option (Json × List ℕ)) (rest : List ℕ) (old : Counts) → prefix ≡ Some (j.Array [], rest) → Reads (shapes exact) prefix [] rest old old
unfolding gather
no_elements exact prefix rest old is = record { value = j.Array []; prefix_is = is; means = array_shapes exact [] old }

-- what is held of the elements is held of their array
module _ (exact : Bool) (found : Option (List Json × List ℕ)) (old new : Counts) (d : ℕ) (bytes : List ℕ) (is : prefix_value d bytes ≡ made j.Array found) where
  pub array_held : (answer : Result (Result (List Shape) GeoFaultKind × Bor (List ℕ)) Fault) → Finds (IsHeld (kept (shape exact)) old new) found answer → FindsValue (IsHeld (shapes exact) old new) d bytes answer
  array_held (Ok (Ok ss, rest)) h = (j.Array h.0, is ∙ ap (made j.Array) h.1, array_shapes exact h.0 old ∙ h.2)
  array_held (Ok (Err e, rest)) h = (j.Array h.0, is ∙ ap (made j.Array) h.1, array_shapes exact h.0 old ∙ h.2)
  array_held (Err (fault.Malformed why left)) h = is ∙ ap (made j.Array) h
  array_held (Err fault.Memory) h = tt
