-- A layer by the members of its object.
use Rattle.std.proofs.Common.{◌≡◌, ℕ, ◌+◌, Bool, true, false, List, [], ◌∷◌, ◌++◌, length, Option, Some, None, Result, Ok, Err, Bor, refl, ap, sym, ◌∙◌, append_assoc, arith}
use Rattle.std.specs.Prelude.{bytes_eq, codes}
use Rattle.std.proofs.lemmas.List.{append-nil}
use Rattle.json_value.specs.declared.json.Json.{Json}
use Rattle.json_value.specs.declared.json.Json.TheVariants as j
use Rattle.json_value.specs.Kinds.{array_of, object_of, text_of}
use Rattle.json_value.proofs.KindsOf.{object_of-object}
use Rattle.json_reading.specs.declared.fault.Fault.{Fault}
use Rattle.geometry.specs.Lists.{map_some}
use Rattle.geojson_types.specs.declared.counts.Counts.{Counts}
use Rattle.geojson_types.specs.Features.{Featured, Shape, is_proper_option}
use Rattle.geojson_meaning.proofs.Proper.{object_proper}
use Rattle.geojson_meaning.specs.Features.{feature, feature_element}
use Rattle.geojson_meaning.specs.Geometries.{geometry, typed_geometry}
use Rattle.geojson_meaning.specs.Layers.{bare, bare_feature, collection_features, features, features_from, single_feature, typed_features}
use Rattle.geojson_meaning.specs.Members.{named, need, type_name}
use Rattle.geojson_meaning.specs.Reader.{and_then, fault_in, give, or_fail, pure, within}
use Rattle.geojson_meaning.specs.Types.{geojson_type, geometry_type}
use Rattle.geojson_meaning.specs.declared.fault.GeoFault.{GeoFault}
use Rattle.geojson_meaning.specs.declared.fault.GeoFaultKind.{GeoFaultKind}
use Rattle.geojson_meaning.specs.declared.fault.GeoFaultKind.TheVariants.{Duplicate, Missing, NotObject, UnknownType, WrongKind}
use Rattle.geojson_meaning.specs.declared.types.GeoJsonType.{GeoJsonType}
use Rattle.geojson_meaning.specs.declared.types.GeoJsonType.TheVariants as types
use Rattle.geojson_meaning.specs.declared.types.GeometryType.{GeometryType}
use Rattle.json_cursor.specs.Answers.{Stops}
use Rattle.json_cursor.specs.Arrays.{array_by}
use Rattle.json_cursor.specs.Folds.{fold}
use Rattle.json_cursor.specs.Members.{Members}
use Rattle.json_cursor.specs.declared.stop.Stop.{Stop}
use Rattle.json_cursor.specs.declared.stop.Stop.TheVariants as stop
use Rattle.geojson_model.specs.Features.{IsFields, is_field}
use Rattle.geojson_model.specs.Layers.{IsCollected, IsLayerParts, Types, array_features, members_features, numbered, stop_in, type_of}
use Rattle.geojson_model.specs.Members.{IsCoordinates, IsParts, IsOccurrence, IsType, Judges, Sees, type_in, IsGroup}
use Rattle.geojson_model.specs.declared.features.Fields.{Fields}
use Rattle.geojson_model.specs.declared.geometries.Parts.{Parts}
use Rattle.geojson_model.specs.declared.geometries.Start.{Start}
use Rattle.geojson_model.specs.declared.layers.Collected.{Collected}
use Rattle.json_cursor.specs.declared.occurrence.Occurrence.{Occurrence}
use Rattle.json_cursor.specs.declared.occurrence.Occurrence.TheVariants.{Never, Once, Again}
use Rattle.geojson_model.proofs.FeatureParts.{fields_pass}
use Rattle.geojson_model.proofs.MemberOccurrences.{not_other, passes}

-- ---- features one after another

one_longer : (fs : List Featured) (f : Featured) → length (fs ++ f ∷ []) ≡ length fs + 1
one_longer [] f = refl
one_longer (g ∷ gs) f = let k = one_longer gs f in omega (arith, k)

joined : (fs : List Featured) (f : Featured) (r : Result (List Featured × Counts) GeoFault) → and_then (λ gs. give ((fs ++ f ∷ []) ++ gs)) r ≡ and_then (λ gs. give (fs ++ gs)) (and_then (λ gs. give (f ∷ gs)) r)
joined fs f (Ok x) = ap (λ gs. Ok (gs, x.1)) (append_assoc fs (f ∷ []) x.0)
joined fs f (Err e) = refl

folded : (exact : Bool) (vs : List Json) (fs : List Featured) (c : Counts) → fold (numbered exact) fs vs c ≡ and_then (λ gs. give (fs ++ gs)) (features_from exact (length fs) vs c)
unfolding fold features_from
folded exact [] fs c = ap (λ gs. Ok (gs, c)) (sym (append-nil fs))
folded exact (v ∷ vs) fs c = by_first (λ f d. folded exact vs (fs ++ f ∷ []) d) (within (Some (length fs)) (feature_element exact v) c)
  where
    by_first : ((f : Featured) (d : Counts) → fold (numbered exact) (fs ++ f ∷ []) vs d ≡ and_then (λ gs. give ((fs ++ f ∷ []) ++ gs)) (features_from exact (length (fs ++ f ∷ [])) vs d)) → (r : Result (Featured × Counts) GeoFault)
        → and_then (λ t. fold (numbered exact) t vs) (and_then (λ f. give (fs ++ f ∷ [])) r) ≡ and_then (λ gs. give (fs ++ gs)) (and_then (λ f. λ d. and_then (λ gs. give (f ∷ gs)) (features_from exact (length fs + 1) vs d)) r)
    by_first more (Ok x) =
        more x.0 x.1 ∙ ap (λ n. and_then (λ gs. give ((fs ++ x.0 ∷ []) ++ gs)) (features_from exact n vs x.1)) (one_longer fs x.0)
        ∙ joined fs x.0 (features_from exact (length fs + 1) vs x.1)
    by_first more (Err e) = refl

nothing_before : (r : Result (List Featured × Counts) GeoFault) → and_then (λ gs. give ([] ++ gs)) r ≡ r
nothing_before (Ok x) = refl
nothing_before (Err e) = refl

pub is_array_features : (exact : Bool) (wrong : GeoFault) (v : Json) (c : Counts) → wrong ≡ fault_in None WrongKind → array_by wrong (fold (numbered exact) []) v c ≡ array_features exact v c
unfolding array_by
is_array_features exact wrong v c is = by_kind (array_of v) refl
  where
    by_kind : (o : Option (List Json)) → array_of v ≡ o → array_by wrong (fold (numbered exact) []) v c ≡ array_features exact v c
    by_kind None h = rw (h, is) refl
    by_kind (Some vs) h = rw h (folded exact vs [] c ∙ nothing_before (features_from exact 0 vs c))

pub numbered_stops : (exact : Bool) (fs : List Featured) (prefix : Option (Json × List ℕ)) (old : Counts) (why : Stop GeoFaultKind) → Stops (feature_element exact) prefix old why
    → Stops (numbered exact fs) prefix old (stop_in (Some (length fs)) why)
numbered_stops exact fs prefix old (stop.Fault e) h = λ v rest found. rw (h v rest found) refl
numbered_stops exact fs prefix old stop.NoValue h = h
numbered_stops exact fs prefix old stop.Memory h = tt

-- ---- a FeatureCollection

module _ (exact : Bool) (ms : Members) (c : Counts) where
  pub no_features : named (codes "features") ms ≡ [] → collection_features exact ms c ≡ Err (fault_in None Missing)
  unfolding collection_features need
  no_features h = rw h refl

  pub more_features : (v w : Json) (us : List Json) → named (codes "features") ms ≡ v ∷ w ∷ us → collection_features exact ms c ≡ Err (fault_in None Duplicate)
  unfolding collection_features need
  more_features v w us h = rw h refl

  pub one_features : (v : Json) → named (codes "features") ms ≡ v ∷ [] → collection_features exact ms c ≡ array_features exact v c
  unfolding collection_features need
  one_features v h = rw h refl

  -- ---- a Feature

  pub single_fault : (e : GeoFaultKind) → feature exact ms c ≡ Err e → single_feature exact ms c ≡ Err (fault_in (Some 0) e)
  unfolding single_feature
  single_fault e h = rw h refl

  pub single : (f : Featured) (d : Counts) → feature exact ms c ≡ Ok (f, d) → single_feature exact ms c ≡ Ok (f ∷ [], d)
  unfolding single_feature
  single f d h = rw h refl

  -- ---- a bare geometry

  by_tests : (name : List ℕ) (kind : GeometryType) (one other : Bool) → bytes_eq name (codes "FeatureCollection") ≡ one → bytes_eq name (codes "Feature") ≡ other → geojson_type name ≡ Some (types.Geometry kind) → geometry_type name ≡ Some kind
  unfolding geojson_type
  by_tests name kind true other h k is = let wrong : Some types.FeatureCollection ≡ Some (types.Geometry kind) = rw h at is in absurd cc
  by_tests name kind false true h k is = let wrong : Some types.Feature ≡ Some (types.Geometry kind) = rw (h, k) at is in absurd cc
  by_tests name kind false false h k is = inner (geometry_type name) (rw (h, k) at is)
    where
      inner : (o : Option GeometryType) → map_some types.Geometry o ≡ Some (types.Geometry kind) → o ≡ Some kind
      inner None e = absurd cc
      inner (Some g) e = cc

  typed : (kind : GeometryType) → Types kind ms → geometry exact ms c ≡ typed_geometry exact kind ms c
  unfolding geometry
  typed kind (name, is, type) = rw (is, by_tests name kind (bytes_eq name (codes "FeatureCollection")) (bytes_eq name (codes "Feature")) refl refl type) refl

  pub judged_bare : (kind : GeometryType) → Types kind ms → (new : Counts) (why : Stop GeoFaultKind) → Judges (geometry exact ms) c new (Err why) → Judges (bare_feature exact kind ms) c new (Err (stop_in (Some 0) why))
  unfolding bare_feature
  judged_bare kind is new (stop.Fault e) h = rw (sym (typed kind is) ∙ h) refl
  judged_bare kind is new stop.NoValue h = absurd h
  judged_bare kind is new stop.Memory h = tt

  pub a_bare : (kind : GeometryType) → Types kind ms → (s : Option Shape) (d : Counts) → geometry exact ms c ≡ Ok (s, d) → bare_feature exact kind ms c ≡ Ok (bare s ∷ [], d)
  unfolding bare_feature
  a_bare kind is s d h = rw (sym (typed kind is) ∙ h) refl

  pub bare_proper : (s : Option Shape) (d : Counts) → geometry exact ms c ≡ Ok (s, d) → is_proper_option s ≡ true
  bare_proper s d h = object_proper exact (Some ms) c d s h

  -- ---- by the type

  -- the features, or the fault of the type
  abbrev pub by_type : Result GeoJsonType GeoFaultKind → Result (List Featured × Counts) GeoFault
  by_type (Ok type) = typed_features exact type ms c
  by_type (Err e) = Err (fault_in None e)

  by_kind : (o : Option GeoJsonType) → and_then (λ type. typed_features exact type ms) (within None (pure (or_fail UnknownType o)) c) ≡ by_type (or_fail UnknownType o)
  by_kind None = refl
  by_kind (Some type) = refl

  module _ (v : Json) (one : named (codes "type") ms ≡ v ∷ []) where
    by_text : (o : Option (List ℕ)) → text_of v ≡ o → members_features exact ms c ≡ by_type (type_in o)
    unfolding type_name
    by_text None is = rw (one, is) refl
    by_text (Some name) is = rw (one, is) (by_kind (geojson_type name))

  pub is_typed : (s : Occurrence (Result GeoJsonType GeoFaultKind)) → IsOccurrence IsType (named (codes "type") ms) s → members_features exact ms c ≡ by_type (type_of s)
  unfolding type_name
  is_typed Never h = rw h refl
  is_typed (Once x) (v, one, is) = by_text v one (text_of v) refl ∙ ap by_type (sym is)
  is_typed Again (v, w, us, more) = rw more refl

  pub is_layer : features exact (j.Object ms) c ≡ members_features exact ms c
  unfolding features
  is_layer = rw (object_of-object ms) refl

pub no_layer : (exact : Bool) (v : Json) (c : Counts) → object_of v ≡ None → features exact v c ≡ Err (fault_in None NotObject)
unfolding features
no_layer exact v c h = rw h refl

-- the type of the object, where it is one of a geometry
named_kind : (ms : Members) (kind : GeometryType) (v : Json) → named (codes "type") ms ≡ v ∷ [] → (o : Option (List ℕ)) → text_of v ≡ o → type_in o ≡ Ok (types.Geometry kind) → Types kind ms
unfolding type_name
named_kind ms kind v one None is h = absurd cc
named_kind ms kind v one (Some name) is h = (name, rw (one, is) refl, known (geojson_type name) h)
  where
    known : (o : Option GeoJsonType) → or_fail UnknownType o ≡ Ok (types.Geometry kind) → o ≡ Some (types.Geometry kind)
    known None e = absurd cc
    known (Some type) e = cc

pub types_is : (ms : Members) (kind : GeometryType) (s : Occurrence (Result GeoJsonType GeoFaultKind)) → IsOccurrence IsType (named (codes "type") ms) s → type_of s ≡ Ok (types.Geometry kind) → Types kind ms
types_is ms kind Never h is = absurd cc
types_is ms kind (Once x) (v, one, e) is = named_kind ms kind v one (text_of v) refl (sym e ∙ is)
types_is ms kind Again h is = absurd cc

-- ---- members

apart_by : (name other : List ℕ) (one two three : Bool) → bytes_eq name (codes "geometry") ≡ one → bytes_eq name (codes "properties") ≡ two → bytes_eq name (codes "id") ≡ three → is_field name ≡ true
    → bytes_eq (codes "geometry") other ≡ false → bytes_eq (codes "properties") other ≡ false → bytes_eq (codes "id") other ≡ false → bytes_eq name other ≡ false
apart_by name other true two three g p i h no_g no_p no_i = not_other name (codes "geometry") other g no_g
apart_by name other false true three g p i h no_g no_p no_i = not_other name (codes "properties") other p no_p
apart_by name other false false true g p i h no_g no_p no_i = not_other name (codes "id") other i no_i
apart_by name other false false false g p i h no_g no_p no_i = let wrong : false ≡ true = rw (g, p, i) at h in absurd cc

-- a member of a feature is none of another name
pub field_apart : (name other : List ℕ) → is_field name ≡ true → bytes_eq (codes "geometry") other ≡ false → bytes_eq (codes "properties") other ≡ false → bytes_eq (codes "id") other ≡ false → bytes_eq name other ≡ false
field_apart name other h no_g no_p no_i = apart_by name other (bytes_eq name (codes "geometry")) (bytes_eq name (codes "properties")) (bytes_eq name (codes "id")) refl refl refl h no_g no_p no_i

pub record NoField (name : List ℕ) : Type 0 where
  pub geometry : bytes_eq name (codes "geometry") ≡ false
  pub properties : bytes_eq name (codes "properties") ≡ false
  pub id : bytes_eq name (codes "id") ≡ false

no_field_by : (name : List ℕ) (one two three : Bool) → bytes_eq name (codes "geometry") ≡ one → bytes_eq name (codes "properties") ≡ two → bytes_eq name (codes "id") ≡ three → is_field name ≡ false → NoField name
no_field_by name false false false g p i h = record { geometry = g; properties = p; id = i }
no_field_by name true two three g p i h = let wrong : true ≡ false = rw g at h in absurd cc
no_field_by name false true three g p i h = let wrong : true ≡ false = rw (g, p) at h in absurd cc
no_field_by name false false true g p i h = let wrong : true ≡ false = rw (g, p, i) at h in absurd cc

pub no_field : (name : List ℕ) → is_field name ≡ false → NoField name
no_field name h = no_field_by name (bytes_eq name (codes "geometry")) (bytes_eq name (codes "properties")) (bytes_eq name (codes "id")) refl refl refl h

pub bare_passes : (start : Start) (d : ℕ) (ms : Members) (name : List ℕ) (v : Json) (parts : Parts) → bytes_eq name (codes "type") ≡ false → bytes_eq name (codes "coordinates") ≡ false → bytes_eq name (codes "geometries") ≡ false
    → IsParts start d ms parts → IsParts start d (ms ++ (name, v) ∷ []) parts
bare_passes start d ms name v parts no_type no_coordinates no_geometries h = record {
  kind = passes IsType (codes "type") ms name v parts.kind h.kind no_type;
  coordinates = passes (IsCoordinates start d) (codes "coordinates") ms name v parts.coordinates h.coordinates no_coordinates;
  geometries = passes (IsGroup start) (codes "geometries") ms name v parts.geometries h.geometries no_geometries;
}

module _ {D : Type 0} (start : Start) (d : ℕ) (name value : List ℕ) (occurrence : Occurrence (Collected D)) where
  pub with_fields : (parts : Parts) (before after : Fields) → is_field name ≡ true → (result : Result (Bor (List ℕ)) Fault) → Sees (IsFields start) d name value before after result
      → Sees (IsLayerParts start d) d name value (record { bare = parts; fields = before; features = occurrence }) (record { bare = parts; fields = after; features = occurrence }) result
  with_fields parts before after field (Ok rest) h = (
    h.0,
    h.1,
    λ ms is. record {
      bare = bare_passes start d ms name h.0 parts (field_apart name (codes "type") field refl refl refl) (field_apart name (codes "coordinates") field refl refl refl) (field_apart name (codes "geometries") field refl refl refl) is.bare;
      fields = h.2 ms is.fields;
      features = passes (IsCollected start) (codes "features") ms name h.0 occurrence is.features (field_apart name (codes "features") field refl refl refl);
    },
  )
  with_fields parts before after field (Err fault) h = h

  pub with_bare : (before after : Parts) (fields : Fields) → bytes_eq name (codes "features") ≡ false → is_field name ≡ false → (result : Result (Bor (List ℕ)) Fault) → Sees (IsParts start d) d name value before after result
      → Sees (IsLayerParts start d) d name value (record { bare = before; fields = fields; features = occurrence }) (record { bare = after; fields = fields; features = occurrence }) result
  with_bare before after fields no_features none (Ok rest) h = let no = no_field name none in (
    h.0,
    h.1,
    λ ms is. record {
      bare = h.2 ms is.bare;
      fields = fields_pass start ms name h.0 fields no.geometry no.properties no.id is.fields;
      features = passes (IsCollected start) (codes "features") ms name h.0 occurrence is.features no_features;
    },
  )
  with_bare before after fields no_features none (Err fault) h = h
