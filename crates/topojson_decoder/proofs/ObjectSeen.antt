-- One object by its members.
use Rattle.std.proofs.Common.{◌≡◌, ℕ, true, false, List, [], ◌∷◌, ◌++◌, Option, None, Result, Ok, Err, refl, ap, sym, subst, ◌∙◌}
use Rattle.std.specs.Prelude.{bytes_eq, codes}
use Rattle.std.specs.Borrow.{Bor}
use Rattle.json_value.specs.declared.json.Json.{Json}
use Rattle.json_value.specs.declared.json.Json.TheVariants as j
use Rattle.json_value.specs.Kinds.{object_of}
use Rattle.json_value.proofs.KindsOf.{object_of-object}
use Rattle.json_value.specs.Members.{Members, named}
use Rattle.json_reading.specs.declared.fault.Fault.{Fault}
use Rattle.geojson_types.specs.declared.counts.Counts.{Counts}
use Rattle.geometry.specs.Points.{Point}
use Rattle.topojson_types.specs.declared.feature.TopoFeature.{TopoFeature}
use Rattle.topojson_types.specs.declared.object.TopoObject.TheVariants.{One, Many}
use Rattle.topojson_types.specs.declared.transform.Transform.{Transform}
use Rattle.topojson_meaning.specs.declared.fault.TopoFault.{TopoFault}
use Rattle.topojson_meaning.specs.declared.fault.TopoFault.TheVariants.{Missing, Duplicate, WrongKind}
use Rattle.topojson_meaning.specs.declared.geometry_type.GeometryType.{GeometryType}
use Rattle.topojson_meaning.specs.Features as features
use Rattle.topojson_meaning.specs.GeometryTypes.{is_collection, object_type}
use Rattle.topojson_meaning.specs.Members.{members, need}
use Rattle.topojson_meaning.specs.Objects as objects
use Rattle.topojson_meaning.specs.Reader.{◌>>=◌, or_fail, pure}
use Rattle.json_cursor.specs.declared.stop.Stop.{Stop}
use Rattle.json_cursor.specs.declared.stop.Stop.TheVariants as stop
use Rattle.topojson_decoder.specs.declared.feature_parts.FeatureParts.{FeatureParts}
use Rattle.topojson_decoder.specs.declared.geometry_parts.Start.{Start}
use Rattle.topojson_decoder.specs.declared.keeping.Keeping.{Keeping}
use Rattle.topojson_decoder.specs.declared.object_parts.Features.{Features}
use Rattle.topojson_decoder.specs.declared.object_parts.ObjectParts.{ObjectParts}
use Rattle.json_cursor.specs.declared.occurrence.Occurrence.{Occurrence}
use Rattle.json_cursor.specs.declared.occurrence.Occurrence.TheVariants.{Never}
use Rattle.topojson_decoder.specs.Features.{IsFeature}
use Rattle.topojson_decoder.specs.Kept.{held_object, kept_object, making}
use Rattle.topojson_decoder.specs.Members.{GoesOnWith, IsOccurrence, Judges, see}
use Rattle.topojson_decoder.specs.Geometries.{IsType}
use Rattle.topojson_decoder.specs.ObjectParts.{AreFeatures, IsObject, simple, typed_object}
use Rattle.topojson_decoder.proofs.KeptParts.{made_alike, made_fault}
use Rattle.topojson_decoder.proofs.MemberOccurrences.{passes, sees}
use Rattle.topojson_decoder.proofs.SimpleMembers.{named_simple, simple_more, simple_same}

-- ---- what was seen

-- nothing was seen of no members
pub no_parts : (start : Start) (d : ℕ) (feature : FeatureParts) → IsFeature start d [] feature → IsObject start d [] (record { feature = feature; features = Never })
unfolding named
no_parts start d feature h = record { feature = h; features = refl }

module _ (start : Start) (d : ℕ) (name : List ℕ) where
  -- the member `geometries`
  pub sees_features : (ms : Members) (occurrence : ObjectParts) (v : Json) → IsObject start d ms occurrence → (x : Features) (s : Occurrence Features) → s ≡ see occurrence.features x
      → bytes_eq name (codes "geometries") ≡ true → AreFeatures start d v x → IsObject start d (ms ++ (name, v) ∷ []) (record { feature = occurrence.feature; features = s })
  sees_features ms occurrence v h x s is same k = record {
    feature = subst (λ us. IsFeature start d us occurrence.feature) (sym (simple_same ms name v same)) h.feature;
    features = subst (IsOccurrence (AreFeatures start d) (named (codes "geometries") (ms ++ (name, v) ∷ []))) (sym is) (sees (AreFeatures start d) (codes "geometries") ms name v occurrence.features h.features x same k);
  }

  -- a member of a feature, or of another name
  pub feature_goes_on : (occurrence : ObjectParts) (after : FeatureParts) (bytes : List ℕ) → bytes_eq name (codes "geometries") ≡ false → (answer : Result (Bor (List ℕ)) Fault)
      → GoesOnWith (IsFeature start d) d name occurrence.feature after bytes answer → GoesOnWith (IsObject start d) d name occurrence (record { feature = after; features = occurrence.features }) bytes answer
  feature_goes_on occurrence after bytes other (Ok rest) g = record {
    value = g.value;
    prefix = g.prefix;
    holds = λ ms h. record { feature = subst (λ us. IsFeature start d us after) (sym (simple_more ms name g.value other)) (g.holds (simple ms) h.feature); features = passes (AreFeatures start d) (codes "geometries") ms name g.value occurrence.features h.features other };
  }
  feature_goes_on occurrence after bytes other (Err fault) g = g

-- the type was seen of all members
pub type_seen : (start : Start) (d : ℕ) (ms : Members) (occurrence : ObjectParts) → IsObject start d ms occurrence → IsOccurrence IsType (named (codes "type") ms) occurrence.feature.parts.kind
type_seen start d ms occurrence h = subst (λ vs. IsOccurrence IsType vs occurrence.feature.parts.kind) (named_simple (codes "type") refl ms) h.feature.parts.kind

module _ (t : Option Transform) (arcs : List (List Point)) where
  module _ (ms : Members) (c : Counts) where
    -- ---- a collection

    pub no_geometries : named (codes "geometries") ms ≡ [] → objects.collection t arcs ms c ≡ Err Missing
    unfolding objects.collection need
    no_geometries h = rw h refl

    pub more_geometries : (v w : Json) (us : List Json) → named (codes "geometries") ms ≡ v ∷ w ∷ us → objects.collection t arcs ms c ≡ Err Duplicate
    unfolding objects.collection need
    more_geometries v w us h = rw h refl

    module _ (v : Json) (one : named (codes "geometries") ms ≡ v ∷ []) where
      pub collected : (fs : List TopoFeature) (d : Counts) → objects.features t arcs v c ≡ Ok (fs, d) → objects.collection t arcs ms c ≡ Ok (Many fs, d)
      unfolding objects.collection need
      collected fs d h = rw (one, h) refl

      uncollected : (e : TopoFault) → objects.features t arcs v c ≡ Err e → objects.collection t arcs ms c ≡ Err e
      unfolding objects.collection need
      uncollected e h = rw (one, h) refl

      pub collection_stops : (new : Counts) (why : Stop TopoFault) → Judges (objects.features t arcs v) c new (Err why) → Judges (objects.collection t arcs ms) c new (Err why)
      collection_stops new (stop.Fault e) h = uncollected e h
      collection_stops new stop.NoValue h = absurd h
      collection_stops new stop.Memory h = tt

    -- ---- by its type

    pub faulty_type : (e : TopoFault) → object_type ms ≡ Err e → typed_object t arcs ms c ≡ Err e
    faulty_type e h = rw h refl

    module _ (type : Option GeometryType) (is : object_type ms ≡ Ok type) where
      pub is_many : is_collection type ≡ true → typed_object t arcs ms c ≡ objects.collection t arcs ms c
      is_many h = rw (is, h) refl

      is_one : is_collection type ≡ false → typed_object t arcs ms c ≡ objects.single t arcs type ms c
      is_one h = rw (is, h) refl

      module _ (other : is_collection type ≡ false) where
        pub single : (f : TopoFeature) (d : Counts) → features.feature t arcs type ms c ≡ Ok (f, d) → typed_object t arcs ms c ≡ Ok (One f, d)
        unfolding objects.single
        single f d h = is_one other ∙ rw h refl

        faulty : (e : TopoFault) → features.feature t arcs type ms c ≡ Err e → typed_object t arcs ms c ≡ Err e
        unfolding objects.single
        faulty e h = is_one other ∙ rw h refl

        pub single_stops : (new : Counts) (why : Stop TopoFault) → Judges (features.feature t arcs type ms) c new (Err why) → Judges (typed_object t arcs ms) c new (Err why)
        single_stops new (stop.Fault e) h = faulty e h
        single_stops new stop.NoValue h = absurd h
        single_stops new stop.Memory h = tt

  -- ---- by its value

  whole : (ms : Members) (c : Counts) → objects.object t arcs (j.Object ms) c ≡ typed_object t arcs ms c
  unfolding objects.object members
  whole ms c = ap (λ o. (pure (or_fail WrongKind o) >>= typed_object t arcs) c) (object_of-object ms)

  none : (v : Json) (c : Counts) → object_of v ≡ None → objects.object t arcs v c ≡ Err WrongKind
  unfolding objects.object members
  none v c h = ap (λ o. (pure (or_fail WrongKind o) >>= typed_object t arcs) c) h

-- ---- what is kept of it, by its value

module _ (k : Keeping) (t : Option Transform) (arcs : List (List Point)) where
  pub object_is : (ms : Members) (c : Counts) → kept_object k t arcs (j.Object ms) c ≡ making (held_object k) (typed_object t arcs ms) c
  object_is ms c = made_alike (held_object k) (objects.object t arcs (j.Object ms)) c (typed_object t arcs ms) (whole t arcs ms c)

  pub no_object : (v : Json) (c : Counts) → object_of v ≡ None → kept_object k t arcs v c ≡ Err WrongKind
  no_object v c h = made_fault (held_object k) (objects.object t arcs v) c WrongKind (none t arcs v c h)
