-- What is written for features: its numbers are numbers, and it is UTF-8, by one walk over its definition.
use Rattle.std.proofs.Common.{◌≡◌, ℕ, true, List, [], ◌∷◌, ◌++◌, map, Option, Some, None, refl, subst, arith}
use Rattle.std.specs.Prelude.{codes}
use Rattle.std.specs.List.{AllByRecursion}
use Rattle.decimal_text.specs.Scaling.{units_text}
use Rattle.decimal_text.proofs.NumberBytes.{number_utf8, units_utf8}
use Rattle.decimal_text.proofs.UnitsText.{units_text-number}
use Rattle.json_value.specs.declared.json.Json.{Json}
use Rattle.json_value.specs.declared.json.Json.TheVariants as j
use Rattle.json_value.specs.Numbers.{HasNumbers}
use Rattle.json_value.proofs.Inherits.{Inherits, items_inherit, numbers_inherit, utf8_inherits}
use Rattle.json_value.proofs.Utf8Parts.{AreUtf8, MemberUtf8, null_utf8, parts_utf8, is_ascii}
use Rattle.owned_values.proofs.Elements.{all_append, all_left, all_right, all_of, all_two, all_weaker}
use Rattle.geometry.specs.declared.shape.Geometry.TheVariants as g
use Rattle.geometry.specs.Lists.{joined}
use Rattle.geometry.specs.Points.{Point, IsPosition}
use Rattle.geometry.specs.Units.{unit_places}
use Rattle.geometry.proofs.ByKind.{points_at}
use Rattle.geometry.proofs.Induction.{by_kinds}
use Rattle.geojson_types.specs.declared.id.Id.{Id}
use Rattle.geojson_types.specs.declared.id.Id.TheVariants as id
use Rattle.geojson_types.specs.declared.layer.FeatureSet.{FeatureSet}
use Rattle.geojson_types.specs.declared.layer.FeatureSet.TheVariants.{One, Many}
use Rattle.geojson_types.specs.Features.{Shape, Featured}
use Rattle.geojson_types.specs.Numbers.{IdHasNumbers, PropertiesHaveNumbers, FeatureHasNumbers}
use Rattle.geojson_types.specs.Places.{shape_points, option_points}
use Rattle.geojson_types.specs.Texts.{IdHasTexts, PropertiesHaveTexts, FeatureHasTexts}
use Rattle.topojson_writer.specs.FeatureValues.{Member, coordinate_value, position_value, positions_value, lines_value, polygons_value, type_member, with_coordinates, shape_value, geometry_value, properties_value, feature_value, features_value}
use Rattle.topojson_types.specs.Values.{id_members}
use Rattle.topojson_writer.specs.Numbered.{IsNumbered, features_of}
use Rattle.topojson_writer.proofs.ShapeParts.{shape_value_at}

all_inside : {A : Type 0} (P : A → Type 0) (xss : List (List A)) → AllByRecursion P (joined xss) → AllByRecursion (λ xs. AllByRecursion P xs) xss
all_inside P [] h = tt
all_inside P (xs ∷ xss) h = (all_left P xs (joined xss) h, all_inside P xss (all_right P xs (joined xss) h))

module _ {Number Text : List ℕ → Type 0} {X : Json → Type 0} (is : Inherits Number Text (λ n v. X v)) where
  -- ---- coordinates

  -- the texts of its coordinates are what the text of a number has to be
  abbrev Spelled : Point → Type 0
  Spelled p = Number (units_text p.x unit_places) × Number (units_text p.y unit_places)

  abbrev All : List Point → Type 0
  All ps = AllByRecursion Spelled ps

  position_has : (p : Point) → Spelled p → X (position_value p)
  position_has p h = is.array 0 (coordinate_value p.x ∷ (coordinate_value p.y ∷ [])) (is.number 0 (units_text p.x unit_places) h.0, (is.number 0 (units_text p.y unit_places) h.1, tt))

  positions_have : (ps : List Point) → All ps → X (positions_value ps)
  positions_have = items_inherit is 0 Spelled position_value position_has

  lines_have : (ls : List (List Point)) → AllByRecursion All ls → X (lines_value ls)
  lines_have = items_inherit is 0 All positions_value positions_have

  polygons_have : (areas : List (List (List Point))) → AllByRecursion (AllByRecursion All) areas → X (polygons_value areas)
  polygons_have = items_inherit is 0 (AllByRecursion All) lines_value lines_have

  -- ---- geometries

  -- what holds of a member of an object
  abbrev Has : Member → Type 0
  Has m = Text m.0 × X m.1

  type_has : (name : List ℕ) → is_ascii name ≡ true → Has (type_member name)
  type_has name w = (is.word (codes "type") refl, is.text 0 name (is.word name w))

  placed : (name : List ℕ) (v : Json) → is_ascii name ≡ true → X v → X (with_coordinates name v)
  placed name v w h = is.object 0 (type_member name ∷ ((codes "coordinates", v) ∷ [])) (type_has name w, ((is.word (codes "coordinates") refl, h), tt))

  abbrev Such : Shape → Type 0
  Such s = All (shape_points s) → X (shape_value s)

  members : (ss : List Shape) → AllByRecursion Such ss → All (joined (map shape_points ss)) → AllByRecursion (λ s. X (shape_value s)) ss
  members [] each h = tt
  members (s ∷ ss) each h = (each.0 (all_left Spelled (shape_points s) _ h), members ss each.1 (all_right Spelled (shape_points s) _ h))

  group : (ss : List Shape) → AllByRecursion Such ss → Such (g.Group ss)
  group ss each h = rw (shape_value_at.group ss)
      (is.object 0 (type_member (codes "GeometryCollection") ∷ ((codes "geometries", j.Array (map shape_value ss)) ∷ [])) (
        type_has (codes "GeometryCollection") refl,
        (
          (
            is.word (codes "geometries") refl,
            items_inherit is 0 (λ s. X (shape_value s)) shape_value (λ s w. w) ss (members ss each (subst All (points_at.group ss) h)),
          ),
          tt,
        ),
      ))

  shape_has : (s : Shape) → Such s
  shape_has = by_kinds Such (record {
    point = λ p h. rw (shape_value_at.point p) (placed (codes "Point") (position_value p) refl (position_has p (subst All (points_at.point p) h).0));
    points = λ ps h. rw (shape_value_at.points ps) (placed (codes "MultiPoint") (positions_value ps) refl (positions_have ps (subst All (points_at.points ps) h)));
    line = λ ps h. rw (shape_value_at.line ps) (placed (codes "LineString") (positions_value ps) refl (positions_have ps (subst All (points_at.line ps) h)));
    lines = λ ls h. rw (shape_value_at.lines ls) (placed (codes "MultiLineString") (lines_value ls) refl (lines_have ls (all_inside Spelled ls (subst All (points_at.lines ls) h))));
    area = λ rs h. rw (shape_value_at.area rs) (placed (codes "Polygon") (lines_value rs) refl (lines_have rs (all_inside Spelled rs (subst All (points_at.area rs) h))));
    areas = λ areas h. rw (shape_value_at.areas areas)
        (placed (codes "MultiPolygon") (polygons_value areas) refl (polygons_have areas (all_inside All areas (all_inside Spelled (joined areas) (subst All (points_at.areas areas) h)))));
    group = group;
  })

  geometry_has : (s : Option Shape) → All (option_points s) → X (geometry_value s)
  geometry_has None h = is.null 0
  geometry_has (Some s) h = shape_has s h

  -- ---- features

  -- what is asked of the parts of a feature
  pub record FeatureHas (f : Featured) : Type 0 where
    pub id : AllByRecursion Has (id_members f.id)
    pub properties : X (properties_value f.properties)
    pub positions : All (option_points f.shape)

  feature_has : (f : Featured) → FeatureHas f → X (feature_value f)
  unfolding feature_value
  feature_has f h =
      let rest : List Member = (codes "properties", properties_value f.properties) ∷ ((codes "geometry", geometry_value f.shape) ∷ []) in
      is.object 0 (type_member (codes "Feature") ∷ (id_members f.id ++ rest)) (
        type_has (codes "Feature") refl,
        all_append Has (id_members f.id) rest h.id
            ((is.word (codes "properties") refl, h.properties), ((is.word (codes "geometry") refl, geometry_has f.shape h.positions), tt)),
      )

  features_have : (features : FeatureSet) → AllByRecursion FeatureHas (features_of features) → X (features_value features)
  features_have (One f) h = feature_has f h.0
  features_have (Many fs) h = is.object 0 (type_member (codes "FeatureCollection") ∷ ((codes "features", j.Array (map feature_value fs)) ∷ []))
      (type_has (codes "FeatureCollection") refl, ((is.word (codes "features") refl, items_inherit is 0 FeatureHas feature_value feature_has fs h), tt))

-- ---- its numbers

feature_numbers : (f : Featured) → IsNumbered f → FeatureHas numbers_inherit f
feature_numbers f h = record {
  id = all_weaker (λ m. HasNumbers m.1) (Has numbers_inherit) (λ m k. (tt, k)) (id_members f.id) h.id;
  properties = h.properties;
  positions = all_weaker IsPosition (Spelled numbers_inherit) (λ p k. (units_text-number p.x unit_places (omega (arith, k.0)), units_text-number p.y unit_places (omega (arith, k.1)))) (option_points f.shape) h.positions;
}

pub features_numbers : (features : FeatureSet) → AllByRecursion IsNumbered (features_of features) → HasNumbers (features_value features)
features_numbers features h = features_have numbers_inherit features (all_weaker IsNumbered (FeatureHas numbers_inherit) feature_numbers (features_of features) h)

-- ---- that it is UTF-8

id_utf8 : (i : Option Id) → IdHasNumbers i → IdHasTexts i → AllByRecursion MemberUtf8 (id_members i)
id_utf8 None n h = tt
id_utf8 (Some (id.Text t)) n h = ((utf8_inherits.word (codes "id") refl, utf8_inherits.text 0 t h), tt)
id_utf8 (Some (id.Number t)) n h = ((utf8_inherits.word (codes "id") refl, utf8_inherits.number 0 t (number_utf8 n)), tt)

properties_utf8 : (ps : Option (List Member)) → PropertiesHaveNumbers ps → PropertiesHaveTexts ps → AreUtf8 (properties_value ps)
properties_utf8 None n h = null_utf8
properties_utf8 (Some ms) n h = parts_utf8 (j.Object ms) n h

feature_utf8 : (f : Featured) → FeatureHasNumbers f → FeatureHasTexts f → FeatureHas utf8_inherits f
feature_utf8 f n h = record {
  id = id_utf8 f.id n.0 h.0;
  properties = properties_utf8 f.properties n.1 h.1;
  positions = all_of (Spelled utf8_inherits) (option_points f.shape) (λ p k. (units_utf8 p.x unit_places, units_utf8 p.y unit_places));
}

pub features_utf8 : (features : FeatureSet) → AllByRecursion FeatureHasNumbers (features_of features) → AllByRecursion FeatureHasTexts (features_of features) → AreUtf8 (features_value features)
features_utf8 features numbers texts = features_have utf8_inherits features (all_two FeatureHasNumbers FeatureHasTexts (FeatureHas utf8_inherits) feature_utf8 (features_of features) numbers texts)
