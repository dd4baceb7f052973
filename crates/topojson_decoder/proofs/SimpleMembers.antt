-- The members of an object but for `geometries`.
use Rattle.std.proofs.Common.{◌≡◌, ℕ, Bool, true, false, cond, List, [], ◌∷◌, ◌++◌, Option, Some, None, refl, ap, ◌∙◌}
use Rattle.std.specs.Prelude.{bytes_eq, codes, filter, not}
use Rattle.std.proofs.lemmas.List.{append-nil}
use Rattle.std.proofs.lemmas.List.Elements.{filter-append}
use Rattle.json_value.specs.declared.json.Json.{Json}
use Rattle.json_value.specs.Members.{Members, named}
use Rattle.geometry.specs.Points.{Point}
use Rattle.geojson_types.specs.declared.counts.Counts.{Counts}
use Rattle.topojson_types.specs.declared.transform.Transform.{Transform}
use Rattle.topojson_meaning.specs.declared.geometry_type.GeometryType.{GeometryType}
use Rattle.topojson_meaning.specs.declared.geometry_type.GeometryType.TheVariants.{Places, Arcs, Collection}
use Rattle.topojson_meaning.specs.Features.{feature}
use Rattle.topojson_meaning.specs.GeometryTypes.{is_collection}
use Rattle.topojson_meaning.specs.Members.{need}
use Rattle.topojson_meaning.specs.Shapes.{typed_shape}
use Rattle.topojson_decoder.specs.ObjectParts.{simple}
use Rattle.topojson_decoder.proofs.MemberOccurrences.{no_other}

abbrev is_simple : List ℕ × Json → Bool
is_simple m = not (bytes_eq m.0 (codes "geometries"))

module _ (ms : Members) (name : List ℕ) (v : Json) where
  pub simple_more : bytes_eq name (codes "geometries") ≡ false → simple (ms ++ (name, v) ∷ []) ≡ simple ms ++ (name, v) ∷ []
  simple_more other = filter-append is_simple ms ((name, v) ∷ []) ∙ rw other refl

  pub simple_same : bytes_eq name (codes "geometries") ≡ true → simple (ms ++ (name, v) ∷ []) ≡ simple ms
  simple_same same =
      let none : simple ms ++ filter is_simple ((name, v) ∷ []) ≡ simple ms ++ [] = rw same refl in
      filter-append is_simple ms ((name, v) ∷ []) ∙ none ∙ append-nil (simple ms)

-- the values of another name are the same
module _ (word : List ℕ) (other : bytes_eq (codes "geometries") word ≡ false) where
  by_test : (m : List ℕ × Json) (ms : Members) → named word (simple ms) ≡ named word ms → (t : Bool) → bytes_eq m.0 (codes "geometries") ≡ t → named word (simple (m ∷ ms)) ≡ named word (m ∷ ms)
  unfolding named
  by_test m ms h true e = rw (e, no_other m.0 (codes "geometries") word e other) h
  by_test m ms h false e = rw e (ap (λ z. cond (bytes_eq m.0 word) (m.1 ∷ z) z) h)

  pub named_simple : (ms : Members) → named word (simple ms) ≡ named word ms
  named_simple [] = refl
  named_simple (m ∷ ms) = by_test m ms (named_simple ms) (bytes_eq m.0 (codes "geometries")) refl

-- a feature that is no collection is the same
module _ (t : Option Transform) (arcs : List (List Point)) (ms : Members) where
  typed_simple : (type : Option GeometryType) → is_collection type ≡ false → typed_shape t arcs type (simple ms) ≡ typed_shape t arcs type ms
  unfolding typed_shape need
  typed_simple None other = refl
  typed_simple (Some (Places type)) other = rw (named_simple (codes "coordinates") refl ms) refl
  typed_simple (Some (Arcs type)) other = rw (named_simple (codes "arcs") refl ms) refl
  typed_simple (Some Collection) other = absurd cc

  pub feature_simple : (type : Option GeometryType) → is_collection type ≡ false → (c : Counts) → feature t arcs type (simple ms) c ≡ feature t arcs type ms c
  unfolding feature
  feature_simple type other c = rw (named_simple (codes "id") refl ms, named_simple (codes "properties") refl ms, typed_simple type other) refl
