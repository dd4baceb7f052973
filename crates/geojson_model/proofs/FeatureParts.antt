-- A feature by its members.
use Rattle.std.proofs.Common.{◌≡◌, ◌≢◌, ℕ, Bool, true, false, if◌then◌else◌, List, [], ◌∷◌, ◌++◌, Option, Some, None, Result, Ok, Err, Bor, refl, ap, sym, ◌∙◌}
use Rattle.std.specs.Prelude.{bytes_eq, codes}
use Rattle.std.proofs.lemmas.Slice.Eq.{bytes_eq-Decides}
use Rattle.json_value.specs.declared.json.Json.{Json}
use Rattle.json_value.specs.declared.json.Json.TheVariants as j
use Rattle.json_value.specs.declared.json.Json.TheOpen.{Json-F}
use Rattle.json_value.specs.declared.json.Json.TheViews.{out-Json}
use Rattle.json_value.specs.Kinds.{object_of, object_in, text_of}
use Rattle.json_value.proofs.KindsOf.{object_of-object}
use Rattle.geometry.specs.Lists.{map_some}
use Rattle.geojson_types.specs.declared.counts.Counts.{Counts}
use Rattle.geojson_types.specs.declared.id.Id.{Id}
use Rattle.geojson_types.specs.Features.{Featured, Shape, is_proper_option}
use Rattle.geojson_meaning.proofs.Proper.{object_proper}
use Rattle.geojson_meaning.proofs.Unrolled.{shape_object, shape_other}
use Rattle.geojson_meaning.specs.Features.{feature, feature_element, identifier, members_if}
use Rattle.geojson_meaning.specs.Geometries.{geometry, shape}
use Rattle.geojson_meaning.specs.Members.{find, named, type_name}
use Rattle.geojson_meaning.specs.Reader.{Reader, and_then, fail, give, if_some, or_fail, pure}
use Rattle.geojson_meaning.specs.Types.{geojson_type, geometry_type}
use Rattle.geojson_meaning.specs.declared.fault.GeoFaultKind.{GeoFaultKind}
use Rattle.geojson_meaning.specs.declared.fault.GeoFaultKind.TheVariants.{NotObject, UnknownType}
use Rattle.geojson_meaning.specs.declared.types.GeoJsonType.{GeoJsonType}
use Rattle.geojson_meaning.specs.declared.types.GeoJsonType.TheVariants as types
use Rattle.geojson_meaning.specs.declared.types.GeometryType.{GeometryType}
use Rattle.json_cursor.specs.Arrays.{prefix_value}
use Rattle.json_reading.specs.declared.fault.Fault.{Fault}
use Rattle.json_reading.specs.Passes.{Passes}
use Rattle.geojson_model.proofs.MemberOccurrences.{passes}
use Rattle.json_cursor.specs.Kinds.{kind_in, kind_of}
use Rattle.json_cursor.specs.Members.{Members}
use Rattle.json_cursor.specs.declared.kinds.Kind.TheVariants as kind
use Rattle.geojson_model.specs.Features.{IsDrawn, IsFeatureParts, IsFields, IsId, IsProperties, counted, drawn, drawn_shape, given, named_fault, type_fault}
use Rattle.geojson_model.specs.Members.{IsOccurrence, IsType, Sees, type_in}
use Rattle.geojson_model.specs.declared.features.Drawn.{Drawn}
use Rattle.geojson_model.specs.declared.features.Fields.{Fields}
use Rattle.geojson_model.specs.declared.geometries.Start.{Start}
use Rattle.json_cursor.specs.declared.occurrence.Occurrence.{Occurrence}
use Rattle.json_cursor.specs.declared.occurrence.Occurrence.TheVariants.{Never, Once, Again}

-- ---- the value of `geometry`

drawn_in : (exact : Bool) (v : Json) (c : Counts) (x : Json-F Json) → out-Json v ≡ x → kind.Null ≢ kind_in x → drawn_shape exact v c ≡ shape exact v c
drawn_in exact v c Json-F.Null e other = absurd (other refl)
drawn_in exact v c (Json-F.Object ms) e other = rw e (sym (ap (λ (r : Reader (Option Shape)). r c) (shape_object exact v ms (unfold object_of in ap object_in e))))
drawn_in exact v c (Json-F.Bool b) e other = rw e (sym (ap (λ (r : Reader (Option Shape)). r c) (shape_other exact v (unfold object_of in ap object_in e))))
drawn_in exact v c (Json-F.Number t) e other = rw e (sym (ap (λ (r : Reader (Option Shape)). r c) (shape_other exact v (unfold object_of in ap object_in e))))
drawn_in exact v c (Json-F.Text t) e other = rw e (sym (ap (λ (r : Reader (Option Shape)). r c) (shape_other exact v (unfold object_of in ap object_in e))))
drawn_in exact v c (Json-F.Array vs) e other = rw e (sym (ap (λ (r : Reader (Option Shape)). r c) (shape_other exact v (unfold object_of in ap object_in e))))

-- a value that isn't null is read as a geometry
pub is_drawn : (exact : Bool) (v : Json) (c : Counts) → kind.Null ≢ kind_of v → drawn_shape exact v c ≡ shape exact v c
is_drawn exact v c other = drawn_in exact v c (out-Json v) refl other

-- ---- members that say nothing

-- a member of another name
pub fields_pass : (start : Start) (ms : Members) (name : List ℕ) (v : Json) (f : Fields) → bytes_eq name (codes "geometry") ≡ false → bytes_eq name (codes "properties") ≡ false → bytes_eq name (codes "id") ≡ false
    → IsFields start ms f → IsFields start (ms ++ (name, v) ∷ []) f
fields_pass start ms name v f no_geometry no_properties no_id h = record {
  id = passes IsId (codes "id") ms name v f.id h.id no_id;
  properties = passes IsProperties (codes "properties") ms name v f.properties h.properties no_properties;
  geometry = passes (IsDrawn start) (codes "geometry") ms name v f.geometry h.geometry no_geometry;
}

pub passed_over : (start : Start) (d : ℕ) (name value : List ℕ) (f : Fields) → bytes_eq name (codes "geometry") ≡ false → bytes_eq name (codes "properties") ≡ false → bytes_eq name (codes "id") ≡ false
    → (result : Result (Bor (List ℕ)) Fault) → Passes result (prefix_value d value) → Sees (IsFields start) d name value f f result
passed_over start d name value f no_geometry no_properties no_id (Ok rest) h = (h.0, h.1, λ ms is. fields_pass start ms name h.0 f no_geometry no_properties no_id is)
passed_over start d name value f no_geometry no_properties no_id (Err fault) h = h

-- a member that isn't the type
pub with_fields : (start : Start) (d : ℕ) (name value : List ℕ) (occurrence : Occurrence (Result GeoJsonType GeoFaultKind)) (before after : Fields) → bytes_eq name (codes "type") ≡ false → (result : Result (Bor (List ℕ)) Fault)
    → Sees (IsFields start) d name value before after result → Sees (IsFeatureParts start d) d name value (record { kind = occurrence; fields = before }) (record { kind = occurrence; fields = after }) result
with_fields start d name value occurrence before after no_type (Ok rest) h = (h.0, h.1, λ ms is. record { kind = passes IsType (codes "type") ms name h.0 occurrence is.kind no_type; fields = h.2 ms is.fields })
with_fields start d name value occurrence before after no_type (Err fault) h = h

-- ---- members that are looked up

-- it, or the first fault
abbrev pub next : {A B : Type 0} → Result A GeoFaultKind → (A → Result B GeoFaultKind) → Result B GeoFaultKind
next (Ok x) f = f x
next (Err e) f = Err e

pure_next : {A B : Type 0} (f : A → Reader B) (c : Counts) (r : Result A GeoFaultKind) → and_then f (pure r c) ≡ next r (λ x. f x c)
pure_next f c (Ok x) = refl
pure_next f c (Err e) = refl

looked_up : {A B : Type 0} (of : Option Json → Result A GeoFaultKind) (f : A → Reader B) (c : Counts) (r : Result (Option Json) GeoFaultKind)
    → and_then (λ i. λ d. and_then f (pure (of i) d)) (pure r c) ≡ next (next r of) (λ x. f x c)
looked_up of f c (Ok i) = pure_next f c (of i)
looked_up of f c (Err e) = refl

module _ {A : Type 0} (of : Option Json → Result (Option A) GeoFaultKind) (none : of None ≡ Ok None) (name : List ℕ) (ms : Members) where
  seen_gives : (s : Occurrence (Result (Option A) GeoFaultKind)) → IsOccurrence (λ v x. x ≡ of (Some v)) (named name ms) s → next (find name ms) of ≡ given s
  seen_gives Never h = rw h none
  seen_gives (Once x) (v, one, is) = rw one (sym is)
  seen_gives Again (v, w, us, more) = rw more refl

module _ (exact : Bool) (ms : Members) (c : Counts) where
  -- the shape that the member `geometry` gives
  abbrev the_shape : Result (Option Shape × Counts) GeoFaultKind
  the_shape = and_then (λ o. λ d. and_then (λ object. if_some (geometry exact) object) (pure (members_if o) d)) (pure (find (codes "geometry") ms) c)

  shape_seen : (start : Start) (s : Occurrence Drawn) → start.exact ≡ exact → start.counts ≡ c → IsOccurrence (IsDrawn start) (named (codes "geometry") ms) s → the_shape ≡ drawn s c
  shape_seen start Never e f h = rw h refl
  shape_seen start (Once x) e f (v, one, is) = rw one (by_shape x.shape refl)
    where
      by_shape : (r : Result (Option Shape) GeoFaultKind) → x.shape ≡ r → drawn_shape exact v c ≡ counted r x.counts
      by_shape (Ok s) k = rw (e, f) at (rw k at is)
      by_shape (Err fault) k = rw (e, f) at (rw k at is)
  shape_seen start Again e f (v, w, us, more) = rw more refl

  -- a feature, whose shape is this
  abbrev finish : Option Id → Option Members → Option Shape → Reader Featured
  finish id properties shape = give (record { id = id; properties = properties; shape = shape })

  last_in : (id : Option Id) (properties : Option Members) (r : Result (Option Members) GeoFaultKind) (d : Counts)
      → and_then (λ object. λ e. and_then (finish id properties) (if_some (geometry exact) object e)) (pure r d) ≡ and_then (finish id properties) (and_then (λ object. if_some (geometry exact) object) (pure r d))
  last_in id properties (Ok object) d = refl
  last_in id properties (Err e) d = refl

  last : (id : Option Id) (properties : Option Members) (r : Result (Option Json) GeoFaultKind)
      → and_then (λ o. λ d. and_then (λ object. λ e. and_then (finish id properties) (if_some (geometry exact) object e)) (pure (members_if o) d)) (pure r c)
      ≡ and_then (finish id properties) (and_then (λ o. λ d. and_then (λ object. if_some (geometry exact) object) (pure (members_if o) d)) (pure r c))
  last id properties (Ok o) = last_in id properties (members_if o) c
  last id properties (Err e) = refl

  -- what is made of what these members give
  abbrev pub combined : Result (Option Id) GeoFaultKind → Result (Option Members) GeoFaultKind → Result (Option Shape × Counts) GeoFaultKind → Result (Featured × Counts) GeoFaultKind
  combined id properties shape = next id (λ i. next properties (λ p. and_then (finish i p) shape))

  after_properties : (id : Option Id) (r : Result (Option Members) GeoFaultKind) → next (find (codes "properties") ms) members_if ≡ r
      → and_then (λ p. λ d. and_then (λ properties. λ e. and_then (λ o. λ f. and_then (λ object. λ g. and_then (finish id properties) (if_some (geometry exact) object g)) (pure (members_if o) f)) (pure (find (codes "geometry") ms) e)) (pure (members_if p) d)) (pure (find (codes "properties") ms) c)
      ≡ next r (λ p. and_then (finish id p) the_shape)
  after_properties id r is = looked_up members_if _ c (find (codes "properties") ms) ∙ rw is (by_result r)
    where
      by_result : (r : Result (Option Members) GeoFaultKind) → next r (λ p. and_then (λ o. λ f. and_then (λ object. λ g. and_then (finish id p) (if_some (geometry exact) object g)) (pure (members_if o) f)) (pure (find (codes "geometry") ms) c))
          ≡ next r (λ p. and_then (finish id p) the_shape)
      by_result (Ok p) = last id p (find (codes "geometry") ms)
      by_result (Err e) = refl

  whole : (id : Result (Option Id) GeoFaultKind) (properties : Result (Option Members) GeoFaultKind) → next (find (codes "id") ms) identifier ≡ id → next (find (codes "properties") ms) members_if ≡ properties
      → feature exact ms c ≡ combined id properties the_shape
  unfolding feature
  whole id properties is also = looked_up identifier _ c (find (codes "id") ms) ∙ rw is (by_result id)
    where
      by_result : (r : Result (Option Id) GeoFaultKind)
          → next r (λ id. and_then (λ p. λ d. and_then (λ properties. λ e. and_then (λ o. λ f. and_then (λ object. λ g. and_then (finish id properties) (if_some (geometry exact) object g)) (pure (members_if o) f)) (pure (find (codes "geometry") ms) e)) (pure (members_if p) d)) (pure (find (codes "properties") ms) c))
          ≡ combined r properties the_shape
      by_result (Ok i) = after_properties i properties also
      by_result (Err e) = refl

-- what these members give is the feature
pub is_feature : (start : Start) (ms : Members) (f : Fields) → IsFields start ms f → feature start.exact ms start.counts ≡ combined start.exact ms start.counts (given f.id) (given f.properties) (drawn f.geometry start.counts)
is_feature start ms f is =
    whole start.exact ms start.counts (given f.id) (given f.properties) (seen_gives identifier refl (codes "id") ms f.id is.id) (seen_gives members_if refl (codes "properties") ms f.properties is.properties)
    ∙ ap (λ s. combined start.exact ms start.counts (given f.id) (given f.properties) s) (shape_seen start.exact ms start.counts start f.geometry refl refl is.geometry)

-- ---- the shape may be that of a feature

shape_proper_in : (exact : Bool) (r : Result (Option Members) GeoFaultKind) (c d : Counts) (x : Option Shape) → and_then (λ object. if_some (geometry exact) object) (pure r c) ≡ Ok (x, d) → is_proper_option x ≡ true
shape_proper_in exact (Ok object) c d x h = object_proper exact object c d x h
shape_proper_in exact (Err e) c d x h = absurd cc

the_shape_proper : (exact : Bool) (ms : Members) (c d : Counts) (x : Option Shape) (r : Result (Option Json) GeoFaultKind)
    → and_then (λ o. λ d. and_then (λ object. if_some (geometry exact) object) (pure (members_if o) d)) (pure r c) ≡ Ok (x, d) → is_proper_option x ≡ true
the_shape_proper exact ms c d x (Ok o) h = shape_proper_in exact (members_if o) c d x h
the_shape_proper exact ms c d x (Err e) h = absurd cc

pub is_proper_shape : (start : Start) (ms : Members) (f : Fields) → IsFields start ms f → (x : Option Shape) (d : Counts) → drawn f.geometry start.counts ≡ Ok (x, d) → is_proper_option x ≡ true
is_proper_shape start ms f is x d h =
    the_shape_proper start.exact ms start.counts d x (find (codes "geometry") ms) (shape_seen start.exact ms start.counts start f.geometry refl refl is.geometry ∙ h)

-- ---- the type

module _ (exact : Bool) (ms : Members) (c : Counts) where
  -- the feature, or the fault of its type
  abbrev pub unless : Option GeoFaultKind → Result (Featured × Counts) GeoFaultKind
  unless (Some e) = Err e
  unless None = feature exact ms c

  -- after the look-up of the type
  abbrev by_type_name : Result (List ℕ) GeoFaultKind → Result (Featured × Counts) GeoFaultKind
  by_type_name r = and_then (λ name. if bytes_eq name (codes "Feature") then feature exact ms else fail UnknownType) (pure r c)

  other_name : (o : Option GeometryType) → unless (Some UnknownType) ≡ unless (named_fault (or_fail UnknownType (map_some types.Geometry o)))
  other_name None = refl
  other_name (Some k) = refl

  by_tests : (name : List ℕ) (one other : Bool) → bytes_eq name (codes "FeatureCollection") ≡ one → bytes_eq name (codes "Feature") ≡ other → by_type_name (Ok name) ≡ unless (named_fault (or_fail UnknownType (geojson_type name)))
  unfolding geojson_type
  by_tests name true other h k = rw ((bytes_eq-Decides name (codes "FeatureCollection")).0 h) refl
  by_tests name false true h k = rw (h, k) refl
  by_tests name false false h k = rw (h, k) (other_name (geometry_type name))

  by_name : (name : List ℕ) → by_type_name (Ok name) ≡ unless (named_fault (or_fail UnknownType (geojson_type name)))
  by_name name = by_tests name (bytes_eq name (codes "FeatureCollection")) (bytes_eq name (codes "Feature")) refl refl

  module _ (v : Json) (one : named (codes "type") ms ≡ v ∷ []) where
    by_text : (o : Option (List ℕ)) → text_of v ≡ o → by_type_name (type_name ms) ≡ unless (named_fault (type_in o))
    unfolding type_name
    by_text None is = rw (one, is) refl
    by_text (Some name) is = rw (one, is) (by_name name)

  by_type : (s : Occurrence (Result GeoJsonType GeoFaultKind)) → IsOccurrence IsType (named (codes "type") ms) s → by_type_name (type_name ms) ≡ unless (type_fault s)
  unfolding type_name
  by_type Never h = rw h refl
  by_type (Once x) (v, one, is) = by_text v one (text_of v) refl ∙ ap (λ r. unless (named_fault r)) (sym is)
  by_type Again (v, w, us, more) = rw more refl

  pub is_element : (s : Occurrence (Result GeoJsonType GeoFaultKind)) → IsOccurrence IsType (named (codes "type") ms) s → feature_element exact (j.Object ms) c ≡ unless (type_fault s)
  unfolding feature_element
  is_element s h = rw (object_of-object ms) (by_type s h)

-- ---- what stands at the front

pub no_feature : (exact : Bool) (v : Json) (c : Counts) → object_of v ≡ None → feature_element exact v c ≡ Err NotObject
unfolding feature_element
no_feature exact v c h = rw h refl
