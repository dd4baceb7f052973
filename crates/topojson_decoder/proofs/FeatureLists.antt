-- Features one after another.
use Rattle.std.proofs.Common.{◌≡◌, ℕ, List, [], ◌∷◌, ◌++◌, length, Option, Some, None, Result, Ok, Err, refl, ap, sym, ◌∙◌}
use Rattle.std.specs.Prelude.{map}
use Rattle.std.proofs.lemmas.List.{length-map}
use Rattle.json_value.specs.declared.json.Json.{Json}
use Rattle.json_value.specs.declared.json.Json.TheVariants as j
use Rattle.json_value.specs.Kinds.{array_of, object_of}
use Rattle.json_value.proofs.KindsOf.{object_of-object}
use Rattle.json_value.specs.Members.{Members}
use Rattle.geometry.specs.Points.{Point}
use Rattle.geojson_types.specs.declared.counts.Counts.{Counts}
use Rattle.topojson_types.specs.declared.feature.TopoFeature.{TopoFeature}
use Rattle.topojson_types.specs.declared.transform.Transform.{Transform}
use Rattle.topojson_meaning.specs.declared.fault.TopoFault.{TopoFault}
use Rattle.topojson_meaning.specs.declared.fault.TopoFault.TheVariants.{WrongKind}
use Rattle.topojson_meaning.specs.Features.{feature_element}
use Rattle.topojson_meaning.specs.Members.{elements, members}
use Rattle.topojson_meaning.specs.Objects.{features}
use Rattle.topojson_meaning.specs.Reader.{Reader, ◌>>=◌, each, gather, or_fail, pure}
use Rattle.json_cursor.specs.Answers.{Reads, Stops}
use Rattle.json_cursor.specs.Arrays.{array_by, list_by}
use Rattle.json_cursor.specs.Folds.{one, with_read}
use Rattle.json_cursor.specs.declared.stop.Stop.{Stop}
use Rattle.json_cursor.specs.declared.stop.Stop.TheVariants as stop
use Rattle.topojson_decoder.specs.declared.keeping.Keeping.{Keeping}
use Rattle.topojson_decoder.specs.Features.{typed_feature}
use Rattle.topojson_decoder.specs.Kept.{held_features, kept_elements, kept_feature, kept_features, listed, making, of_feature}
use Rattle.topojson_decoder.specs.declared.collected_features.KeptFeatures.{KeptFeatures}
use Rattle.topojson_decoder.proofs.KeptParts.{made, made_alike, made_each, made_fault, none_listed, unmade, unmade_fault}

module _ (k : Keeping) (t : Option Transform) (arcs : List (List Point)) where
  -- ---- a feature by its object

  whole_object : (ms : Members) (c : Counts) → feature_element t arcs (j.Object ms) c ≡ typed_feature t arcs ms c
  unfolding feature_element members
  whole_object ms c = ap (λ o. (pure (or_fail WrongKind o) >>= typed_feature t arcs) c) (object_of-object ms)

  pub feature_object : (ms : Members) (c : Counts) → kept_feature k t arcs (j.Object ms) c ≡ making (of_feature k) (typed_feature t arcs ms) c
  feature_object ms c = made_alike (of_feature k) (feature_element t arcs (j.Object ms)) c (typed_feature t arcs ms) (whole_object ms c)

  none : (v : Json) (c : Counts) → object_of v ≡ None → feature_element t arcs v c ≡ Err WrongKind
  unfolding feature_element members
  none v c h = ap (λ o. (pure (or_fail WrongKind o) >>= typed_feature t arcs) c) h

  pub no_feature : (v : Json) (c : Counts) → object_of v ≡ None → kept_feature k t arcs v c ≡ Err WrongKind
  no_feature v c h = made_fault (of_feature k) (feature_element t arcs v) c WrongKind (none v c h)

  -- ---- the features of an array

  by_elements : {B : Type 0} (read : List Json → Reader B) (o : Option (List Json)) (c : Counts) → (pure (or_fail WrongKind o) >>= read) c ≡ list_by WrongKind read o c
  by_elements read None c = refl
  by_elements read (Some vs) c = refl

  found_elements : (r : Result (List Json) TopoFault) (c : Counts) → (pure r >>= kept_elements k t arcs) c ≡ making (held_features k) (pure r >>= each (feature_element t arcs)) c
  found_elements (Ok vs) c = refl
  found_elements (Err e) c = refl

  pub features_are : (v : Json) (c : Counts) → array_by WrongKind (kept_elements k t arcs) v c ≡ kept_features k t arcs v c
  unfolding features elements array_by
  features_are v c = sym (by_elements (kept_elements k t arcs) (array_of v) c) ∙ found_elements (or_fail WrongKind (array_of v)) c

  abbrev as_held : Counts → List TopoFeature → ℕ → Result (KeptFeatures × Counts) TopoFault
  as_held c fs n = Ok (record { list = fs; count = n }, c)

  pub no_features : (c : Counts) → kept_elements k t arcs [] c ≡ Ok (record { list = []; count = 0 }, c)
  unfolding gather
  no_features c = ap (λ fs. as_held c fs 0) (none_listed k)

  -- ---- what is kept of each, and of all of them

  elements_are : (vs : List Json) (c : Counts) → making (map (of_feature k)) (each (feature_element t arcs) vs) c ≡ each (kept_feature k t arcs) vs c
  elements_are vs c = sym (made_each (of_feature k) (feature_element t arcs) vs c)

  module _ (prefix : Option (List Json × List ℕ)) (old : Counts) where
    pub elements_stop : (why : Stop TopoFault) → Stops (each (kept_feature k t arcs)) prefix old why → Stops (kept_elements k t arcs) prefix old why
    elements_stop (stop.Fault e) h = λ vs rest found.
        made_fault (held_features k) (each (feature_element t arcs) vs) old e (unmade_fault (map (of_feature k)) (each (feature_element t arcs) vs) old e (elements_are vs old ∙ h vs rest found))
    elements_stop stop.NoValue h = h
    elements_stop stop.Memory h = tt

    pub elements_read : (fs : List TopoFeature) (rest : List ℕ) (new : Counts) → Reads (each (kept_feature k t arcs)) prefix fs rest old new
        → (list : List TopoFeature) → list ≡ listed k fs → (n : ℕ) → n ≡ length fs → Reads (kept_elements k t arcs) prefix (record { list = list; count = n }) rest old new
    elements_read fs rest new r list is n many =
        let u = unmade (map (of_feature k)) (each (feature_element t arcs) r.value) old fs new (elements_are r.value old ∙ r.means) in
        record {
          value = r.value;
          prefix_is = r.prefix_is;
          means = made (held_features k) (each (feature_element t arcs) r.value) old u.whole new u.reads
              ∙ ap (λ xs. as_held new xs (length u.whole)) (ap (listed k) (sym u.is) ∙ sym is)
              ∙ ap (λ m. as_held new list m) (sym (length-map u.whole (of_feature k)) ∙ ap length (sym u.is) ∙ sym many);
        }

-- ---- one more

module _ {B : Type 0} (read : Json → Reader B) (now : List B) (prefix : Option (Json × List ℕ)) (old : Counts) where
  pub taken_stops : (why : Stop TopoFault) → Stops read prefix old why → Stops (with_read (one read) now) prefix old why
  taken_stops (stop.Fault e) h = λ v rest found. rw (h v rest found) refl
  taken_stops stop.NoValue h = h
  taken_stops stop.Memory h = tt

  pub taken_reads : (x : B) (rest : List ℕ) (new : Counts) → Reads read prefix x rest old new → Reads (with_read (one read) now) prefix (now ++ x ∷ []) rest old new
  taken_reads x rest new r = record { value = r.value; prefix_is = r.prefix_is; means = rw r.means refl }
