-- Worked rows of the definition: small values and the layers or faults that they are.
use Rattle.std.proofs.Common.{◌≡◌, ℕ, Bool, true, false, List, [], ◌∷◌, map, Option, Some, None, Result, Ok, Err, ap}
use Rattle.std.specs.Prelude.{codes, pos}
use Rattle.geojson_meaning.proofs.Names.{input_limit, unit_places, array_of-array, object_of-object, array_kinds, object_kinds, text_kinds, number_kinds, Json, Featured, Shape, Counts, coordinate, elements_position, position, feature, feature_element, typed_geometry, geometry, shape, shapes, coordinates_shape, shape_in, layer, features, typed_features, bare_feature, single_feature, collection_features, features_from, bare, some_elements, line_in, named, need, type_name, polygon_in, ring, Reader, gather, kept, GeoFaultKind, NotObject, UnknownType, Missing, Duplicate, WrongKind, ShortPosition, ShortLine, Range, Inexact}
use Rattle.json_value.specs.declared.json.Json.TheVariants as j
use Rattle.decimal_text.specs.Scaling.{scaled_of}
use Rattle.geojson_meaning.specs.declared.fault.GeoFault.{GeoFault}
use Rattle.geometry.specs.declared.shape.Geometry.TheVariants as g
use Rattle.geojson_types.specs.declared.id.Id.TheVariants as i
use Rattle.geojson_meaning.specs.Types.{geojson_type, geometry_type, coordinates_type}
use Rattle.geojson_meaning.proofs.Unrolled.{shape_object, shapes_array}

-- a layer, a fault before any feature, and one in a feature
abbrev Layered : Type 0
Layered = Result (List Featured × Counts) GeoFault

abbrev before : GeoFaultKind → Layered
before kind = Err (record { feature = None; kind = kind })

abbrev within_feature : ℕ → GeoFaultKind → Layered
within_feature n kind = Err (record { feature = Some n; kind = kind })

abbrev counted : List Featured → ℕ → ℕ → ℕ → Layered
counted fs rounded extra empty = Ok (fs, record { rounded = rounded; extra = extra; empty = empty })

-- members, and objects of a type
abbrev Members : Type 0
Members = List (List ℕ × Json)

abbrev typed : List ℕ → Members → Json
typed name ms = j.Object ((codes "type", j.Text name) ∷ ms)

abbrev coordinates : Json → Members
coordinates v = (codes "coordinates", v) ∷ []

-- what an array and an object are read as
read_array : (exact : Bool) (vs : List Json) (c : Counts) → shapes exact (j.Array vs) c ≡ kept (shape exact) vs c
read_array exact vs c = ap (λ (r : Reader (List Shape)). r c) (shapes_array exact (j.Array vs) vs (array_of-array vs))

read_object : (exact : Bool) (ms : Members) (c : Counts) → shape exact (j.Object ms) c ≡ geometry exact ms c
read_object exact ms c = ap (λ (r : Reader (Option Shape)). r c) (shape_object exact (j.Object ms) ms (object_of-object ms))

ruleset read = (read_array, read_object)

abbrev collection : List Json → Json
collection vs = typed (codes "GeometryCollection") ((codes "geometries", j.Array vs) ∷ [])

abbrev collected : List Json → Json
collected vs = typed (codes "FeatureCollection") ((codes "features", j.Array vs) ∷ [])

-- ---- rows without numbers: for any values v and w, a value and the layer or the fault that it is

abbrev rows : Json → Json → List (Json × Layered)
rows v w =
    -- the layer's own members
    (j.Array [], before NotObject)
    ∷ (j.Object [], before Missing)
    ∷ (j.Object ((codes "type", v) ∷ (codes "type", w) ∷ []), before Duplicate)
    ∷ (j.Object ((codes "type", j.Null) ∷ []), before WrongKind)
    ∷ (typed (codes "Circle") [], before UnknownType)
    -- features; of the second one the properties come before the geometry
    ∷ (collected (typed (codes "Feature") [] ∷ []), counted (bare None ∷ []) 0 0 0)
    ∷ (collected (typed (codes "Feature") [] ∷ typed (codes "Feature") ((codes "geometry", v) ∷ (codes "properties", j.Bool true) ∷ []) ∷ []), within_feature 1 WrongKind)
    -- an identifier stays the text that it is, and members stay as they are, duplicates too
    ∷ (
      typed (codes "Feature") ((codes "id", j.Text (codes "007")) ∷ (codes "properties", j.Object ((codes "b", v) ∷ (codes "b", w) ∷ [])) ∷ []),
      counted (record { id = Some (i.Text (codes "007")); properties = Some ((codes "b", v) ∷ (codes "b", w) ∷ []); shape = None } ∷ []) 0 0 0,
    )
    -- geometries; a polygon whose outer ring is an empty array is left out, after its other rings were read
    ∷ (typed (codes "Point") [], within_feature 0 Missing)
    ∷ (typed (codes "LineString") (coordinates (j.Array [])), counted (bare None ∷ []) 0 0 1)
    ∷ (typed (codes "Polygon") (coordinates (j.Array (j.Array [] ∷ []))), counted (bare None ∷ []) 0 0 1)
    ∷ (typed (codes "Polygon") (coordinates (j.Array (j.Array [] ∷ j.Null ∷ []))), within_feature 0 WrongKind)
    -- an empty collection is no null geometry, and isn't counted; a null geometry is left out of its collection
    ∷ (collection (collection [] ∷ []), counted (bare (Some (g.Group (g.Group [] ∷ []))) ∷ []) 0 0 0)
    ∷ (collection (typed (codes "Point") (coordinates (j.Array [])) ∷ []), counted (bare (Some (g.Group [])) ∷ []) 0 0 1)
    -- positions
    ∷ (typed (codes "LineString") (coordinates (j.Array (j.Array (v ∷ []) ∷ []))), within_feature 0 ShortPosition)
    ∷ []

all_rows : (exact : Bool) (v w : Json) → map (λ r. layer exact r.0) (rows v w) ≡ map (λ r. r.1) (rows v w)
unfolding layer features type_name need named geojson_type geometry_type coordinates_type typed_features collection_features features_from feature_element single_feature bare_feature feature typed_geometry geometry coordinates_shape some_elements shape_in line_in polygon_in ring gather position elements_position
all_rows exact v w = simp (object_kinds, text_kinds, array_kinds, j.outs-Bool, j.outs-Text, j.outs-Object, read)

-- ---- rows with numbers

-- numbers by their texts, of which the value is given
module _ (zero_is : scaled_of unit_places input_limit (codes "0") ≡ Ok (record { value = pos 0; exact = true })) where
  abbrev zero : Json
  zero = j.Number (codes "0")

  abbrev line_string : List Json → Json
  line_string vs = typed (codes "LineString") (coordinates (j.Array vs))

  pub row_short_line : (exact : Bool) → layer exact (line_string (j.Array (zero ∷ zero ∷ []) ∷ [])) ≡ within_feature 0 ShortLine
  unfolding layer features type_name need named geojson_type geometry_type coordinates_type typed_features bare_feature typed_geometry coordinates_shape some_elements shape_in line_in gather position elements_position coordinate
  row_short_line true = simp (object_kinds, text_kinds, array_kinds, number_kinds, zero_is)
  row_short_line false = simp (object_kinds, text_kinds, array_kinds, number_kinds, zero_is)

  -- a third element is counted once and not looked at
  pub row_extra : (v : Json) → layer true (line_string (j.Array (zero ∷ zero ∷ v ∷ v ∷ []) ∷ j.Array (zero ∷ zero ∷ []) ∷ []))
      ≡ counted (bare (Some (g.Line (record { x = pos 0; y = pos 0 } ∷ record { x = pos 0; y = pos 0 } ∷ []))) ∷ []) 0 1 0
  unfolding layer features type_name need named geojson_type geometry_type coordinates_type typed_features bare_feature typed_geometry coordinates_shape some_elements shape_in line_in gather position elements_position coordinate
  row_extra v = simp (object_kinds, text_kinds, array_kinds, number_kinds, zero_is)

  -- the range of x comes before the kind of y
  pub row_range_first : scaled_of unit_places input_limit (codes "1e30") ≡ Err (record {})
      → (exact : Bool) → layer exact (line_string (j.Array (j.Number (codes "1e30") ∷ j.Text (codes "y") ∷ []) ∷ [])) ≡ within_feature 0 Range
  unfolding layer features type_name need named geojson_type geometry_type coordinates_type typed_features bare_feature typed_geometry coordinates_shape some_elements shape_in line_in gather position elements_position coordinate
  row_range_first far exact = simp (object_kinds, text_kinds, array_kinds, number_kinds, far)

  -- half a unit is rounded up and counted, or refused
  module _ (half_is : scaled_of unit_places input_limit (codes "0.0000000005") ≡ Ok (record { value = pos 1; exact = false })) where
    abbrev half_point : Json
    half_point = typed (codes "Point") (coordinates (j.Array (j.Number (codes "0.0000000005") ∷ zero ∷ [])))

    pub row_inexact : layer true half_point ≡ within_feature 0 Inexact
    unfolding layer features type_name need named geojson_type geometry_type coordinates_type typed_features bare_feature typed_geometry coordinates_shape some_elements shape_in elements_position coordinate
    row_inexact = simp (object_kinds, text_kinds, array_kinds, number_kinds, half_is)

    pub row_rounded : layer false half_point ≡ counted (bare (Some (g.Point (record { x = pos 1; y = pos 0 }))) ∷ []) 1 0 0
    unfolding layer features type_name need named geojson_type geometry_type coordinates_type typed_features bare_feature typed_geometry coordinates_shape some_elements shape_in elements_position coordinate
    row_rounded = simp (object_kinds, text_kinds, array_kinds, number_kinds, half_is, zero_is)
