-- A feature by its members.
use Rattle.std.proofs.Common.{◌≡◌, ◌⊎◌, inl, inr, ℕ, true, false, List, [], ◌∷◌, ◌++◌, Option, Some, None, Result, Ok, Err, refl, ap, sym, subst, ◌∙◌}
use Rattle.std.specs.Prelude.{bytes_eq, codes}
use Rattle.std.specs.Borrow.{Bor}
use Rattle.json_value.specs.declared.json.Json.{Json}
use Rattle.json_value.specs.declared.json.Json.TheOpen.{Json-F}
use Rattle.json_value.specs.declared.json.Json.TheViews.{out-Json}
use Rattle.json_value.specs.Members.{Members, named, only}
use Rattle.json_reading.specs.declared.fault.Fault.{Fault}
use Rattle.geojson_types.specs.declared.counts.Counts.{Counts}
use Rattle.geojson_types.specs.declared.id.Id.{Id}
use Rattle.geometry.specs.Points.{Point}
use Rattle.topojson_types.specs.declared.feature.TopoFeature.{TopoFeature}
use Rattle.topojson_types.specs.declared.transform.Transform.{Transform}
use Rattle.topojson_types.specs.Topologies.{TopoShape}
use Rattle.topojson_meaning.specs.declared.fault.TopoFault.{TopoFault}
use Rattle.topojson_meaning.specs.declared.fault.TopoFault.TheVariants.{Duplicate}
use Rattle.topojson_meaning.specs.declared.geometry_type.GeometryType.{GeometryType}
use Rattle.topojson_meaning.specs.Features as features
use Rattle.topojson_meaning.specs.Features.{identifier, identifier_in, members_if, members_in}
use Rattle.topojson_meaning.specs.GeometryTypes.{object_type}
use Rattle.topojson_meaning.specs.Members.{find, lookup_fault}
use Rattle.topojson_meaning.specs.Reader.{Reader, ◌>>=◌, give, pure, with_fault}
use Rattle.topojson_meaning.specs.Shapes.{typed_shape}
use Rattle.json_cursor.specs.Kinds.{kind_in, kind_of}
use Rattle.json_cursor.specs.declared.stop.Stop.{Stop}
use Rattle.json_cursor.specs.declared.stop.Stop.TheVariants as stop
use Rattle.json_cursor.specs.Members.{GoesOn}
use Rattle.json_cursor.specs.Names.{name_of}
use Rattle.topojson_decoder.specs.declared.feature_parts.FeatureMember.{FeatureMember}
use Rattle.topojson_decoder.specs.declared.feature_parts.FeatureParts.{FeatureParts}
use Rattle.topojson_decoder.specs.declared.geometry_parts.GeometryParts.{GeometryParts}
use Rattle.topojson_decoder.specs.declared.geometry_parts.Start.{Start}
use Rattle.topojson_decoder.specs.declared.keeping.Keeping.{Keeping}
use Rattle.topojson_decoder.specs.declared.keeping.Keeping.TheVariants.{Whole, Shapes, Counted}
use Rattle.json_cursor.specs.declared.occurrence.Occurrence.{Occurrence}
use Rattle.json_cursor.specs.declared.occurrence.Occurrence.TheVariants.{Never}
use Rattle.topojson_decoder.specs.Features.{IsFeature, IsFound, IsMemberAt, blank_identifier, blank_members, found, found_in, kept_identifier, kept_members, member_name, typed_feature}
use Rattle.topojson_decoder.specs.Geometries.{IsParts}
use Rattle.topojson_decoder.specs.Kept.{of_option, of_read}
use Rattle.topojson_decoder.specs.Members.{GoesOnWith, IsOccurrence, Judges, see}
use Rattle.topojson_decoder.proofs.KeptParts.{whole_option}
use Rattle.topojson_decoder.proofs.PartsSeen.{sees_word}
use Rattle.topojson_decoder.proofs.MemberOccurrences.{member_goes_on, no_other, passes, sees}

-- ---- what was seen

-- nothing was seen of no members
pub no_parts : (start : Start) (d : ℕ) (parts : GeometryParts) → IsParts start d [] parts → IsFeature start d [] (record { parts = parts; id = Never; properties = Never })
unfolding named
no_parts start d parts h = record { parts = h; id = refl; properties = refl }

module _ (start : Start) (d : ℕ) (name : List ℕ) where
  module _ (ms : Members) (occurrence : FeatureParts) (v : Json) (h : IsFeature start d ms occurrence) where
    abbrev more : Members
    more = ms ++ (name, v) ∷ []

    passes_id : bytes_eq name (codes "id") ≡ false → IsOccurrence (IsFound (kept_identifier start.keeping)) (named (codes "id") more) occurrence.id
    passes_id other = passes (IsFound (kept_identifier start.keeping)) (codes "id") ms name v occurrence.id h.id other

    passes_properties : bytes_eq name (codes "properties") ≡ false → IsOccurrence (IsFound (kept_members start.keeping)) (named (codes "properties") more) occurrence.properties
    passes_properties other = passes (IsFound (kept_members start.keeping)) (codes "properties") ms name v occurrence.properties h.properties other

    pub sees_id : (x : Result (Option Id) TopoFault) (s : Occurrence (Result (Option Id) TopoFault)) → s ≡ see occurrence.id x → bytes_eq name (codes "id") ≡ true → IsFound (kept_identifier start.keeping) v x
        → IsFeature start d more (record { parts = occurrence.parts; id = s; properties = occurrence.properties })
    sees_id x s is same k = record {
      parts = sees_word start d ms occurrence.parts name v h.parts (codes "id") same refl refl refl refl;
      id = subst (IsOccurrence (IsFound (kept_identifier start.keeping)) (named (codes "id") more)) (sym is) (sees (IsFound (kept_identifier start.keeping)) (codes "id") ms name v occurrence.id h.id x same k);
      properties = passes_properties (no_other name (codes "id") (codes "properties") same refl);
    }

    pub sees_properties : (x : Result (Option Members) TopoFault) (s : Occurrence (Result (Option Members) TopoFault)) → s ≡ see occurrence.properties x → bytes_eq name (codes "properties") ≡ true → IsFound (kept_members start.keeping) v x
        → IsFeature start d more (record { parts = occurrence.parts; id = occurrence.id; properties = s })
    sees_properties x s is same k = record {
      parts = sees_word start d ms occurrence.parts name v h.parts (codes "properties") same refl refl refl refl;
      id = passes_id (no_other name (codes "properties") (codes "id") same refl);
      properties = subst (IsOccurrence (IsFound (kept_members start.keeping)) (named (codes "properties") more)) (sym is) (sees (IsFound (kept_members start.keeping)) (codes "properties") ms name v occurrence.properties h.properties x same k);
    }

    pub sees_part : (parts : GeometryParts) → bytes_eq name (codes "id") ≡ false → bytes_eq name (codes "properties") ≡ false → IsParts start d more parts
        → IsFeature start d more (record { parts = parts; id = occurrence.id; properties = occurrence.properties })
    sees_part parts no_id no_properties k = record { parts = k; id = passes_id no_id; properties = passes_properties no_properties }

  -- a member of its geometry, or of another name
  pub part_goes_on : (occurrence : FeatureParts) (after : GeometryParts) (bytes : List ℕ) → bytes_eq name (codes "id") ≡ false → bytes_eq name (codes "properties") ≡ false → (answer : Result (Bor (List ℕ)) Fault)
      → GoesOnWith (IsParts start d) d name occurrence.parts after bytes answer → GoesOnWith (IsFeature start d) d name occurrence (record { parts = after; id = occurrence.id; properties = occurrence.properties }) bytes answer
  part_goes_on occurrence after bytes no_id no_properties (Ok rest) g = record { value = g.value; prefix = g.prefix; holds = λ ms h. sees_part ms occurrence g.value h after no_id no_properties (g.holds ms h.parts) }
  part_goes_on occurrence after bytes no_id no_properties (Err fault) g = g

-- one of the members that are looked for first
pub member_at_goes_on : (start : Start) (d : ℕ) (before after : FeatureParts) (bytes : List ℕ) (member : FeatureMember) (value : Bor (List ℕ)) → IsMemberAt bytes member value
    → (answer : Result (Bor (List ℕ)) Fault) → GoesOnWith (IsFeature start d) d (member_name member) before after value.now answer → GoesOn (IsFeature start d) d before after bytes answer
member_at_goes_on start d before after bytes member value at answer h =
    member_goes_on (IsFeature start d) d before after bytes (name_of at.0) value.now (at.1 d) answer (subst (λ n. GoesOnWith (IsFeature start d) d n before after value.now answer) (sym at.2) h)

-- ---- what a member is that may be absent

module _ {A : Type 0} (read : Option Json → Result A TopoFault) where
  pub no_value : (vs : List Json) → vs ≡ [] → found_in read vs ≡ read None
  no_value vs h = rw h refl

  pub one_value : (vs : List Json) (v : Json) → vs ≡ v ∷ [] → found_in read vs ≡ read (Some v)
  one_value vs v h = rw h refl

  pub more_values : (vs : List Json) (v w : Json) (us : List Json) → vs ≡ v ∷ w ∷ us → found_in read vs ≡ Err Duplicate
  more_values vs v w us h = rw h refl

  then_found : {B : Type 0} (then : A → Reader B) (r : Result (Option Json) TopoFault) (c : Counts) → (pure r >>= λ v. pure (read v) >>= then) c ≡ (pure (found read r) >>= then) c
  then_found then (Ok v) c = refl
  then_found then (Err e) c = refl

-- ---- what is kept of it

module _ {A : Type 0} (k : Keeping) where
  -- the same is read, and this is kept of it
  pub record Kept (r : Result (Option A) TopoFault) (x : Option A) : Type 0 where
    pub whole : Option A
    pub reads : r ≡ Ok whole
    pub is : x ≡ of_option k whole

  kept_of : (r : Result (Option A) TopoFault) (x : Option A) → of_read k r ≡ Ok x → Kept r x
  kept_of (Ok y) x h = record { whole = y; reads = refl; is = sym cc }
  kept_of (Err e) x h = absurd cc

  fault_kept : (r : Result (Option A) TopoFault) (e : TopoFault) → of_read k r ≡ Err e → r ≡ Err e
  fault_kept (Ok y) e h = absurd cc
  fault_kept (Err f) e h = cc

  module _ (read : Option Json → Result (Option A) TopoFault) where
    found_kept : (r : Result (Option Json) TopoFault) → found (λ v. of_read k (read v)) r ≡ of_read k (found read r)
    found_kept (Ok v) = refl
    found_kept (Err e) = refl

    module _ (vs : List Json) where
      pub kept_found : (x : Option A) → Ok x ≡ found_in (λ v. of_read k (read v)) vs → Kept (found_in read vs) x
      kept_found x h = kept_of (found_in read vs) x (sym (found_kept (with_fault lookup_fault (only vs))) ∙ sym h)

      pub kept_fault : (e : TopoFault) → Err e ≡ found_in (λ v. of_read k (read v)) vs → found_in read vs ≡ Err e
      kept_fault e h = fault_kept (found_in read vs) e (sym (found_kept (with_fault lookup_fault (only vs))) ∙ sym h)

-- nothing is lost of the whole
all_of : {A : Type 0} (t : Option (Bor (List ℕ))) (r : Result (Option A) TopoFault) → r ≡ of_read (Whole t) r
all_of t (Ok x) = ap Ok (sym (whole_option t x))
all_of t (Err e) = refl

pub whole_read : {A : Type 0} (k : Keeping) (t : Option (Bor (List ℕ))) → k ≡ Whole t → (r : Result (Option A) TopoFault) → r ≡ of_read k r
whole_read k t h r = rw h (all_of t r)

-- and where geometries alone are kept there is as much of them as where nothing is
pub blank_read : {A : Type 0} (k : Keeping) → (k ≡ Shapes) ⊎ (k ≡ Counted) → (r : Result (Option A) TopoFault) → of_read Counted r ≡ of_read k r
blank_read (Whole t) (inl h) r = absurd cc
blank_read (Whole t) (inr h) r = absurd cc
blank_read Shapes h (Ok None) = refl
blank_read Shapes h (Ok (Some x)) = refl
blank_read Shapes h (Err e) = refl
blank_read Counted h r = refl

-- and of the kind of a value it is known whether it is faulty
blank_identifier_in : (x : Json-F Json) → blank_identifier (kind_in x) ≡ of_read Counted (identifier_in x)
blank_identifier_in Json-F.Null = refl
blank_identifier_in (Json-F.Bool b) = refl
blank_identifier_in (Json-F.Number n) = refl
blank_identifier_in (Json-F.Text t) = refl
blank_identifier_in (Json-F.Array vs) = refl
blank_identifier_in (Json-F.Object ms) = refl

pub blank_identifier_of : (v : Json) → blank_identifier (kind_of v) ≡ kept_identifier Counted (Some v)
blank_identifier_of v = blank_identifier_in (out-Json v)

blank_members_in : (x : Json-F Json) → blank_members (kind_in x) ≡ of_read Counted (members_in x)
blank_members_in Json-F.Null = refl
blank_members_in (Json-F.Bool b) = refl
blank_members_in (Json-F.Number n) = refl
blank_members_in (Json-F.Text t) = refl
blank_members_in (Json-F.Array vs) = refl
blank_members_in (Json-F.Object ms) = refl

pub blank_members_of : (v : Json) → blank_members (kind_of v) ≡ kept_members Counted (Some v)
blank_members_of v = blank_members_in (out-Json v)

-- ---- the feature, part by part

module _ (t : Option Transform) (arcs : List (List Point)) (type : Option GeometryType) (ms : Members) (c : Counts) where
  abbrev with_both : Option Id → Option Members → Reader TopoFeature
  with_both id properties = do
    shape ← typed_shape t arcs type ms
    give (record { id = id; properties = properties; shape = shape })

  abbrev with_id : Option Id → Reader TopoFeature
  with_id id = do
    p ← pure (find (codes "properties") ms)
    properties ← pure (members_if p)
    with_both id properties

  by_id : features.feature t arcs type ms c ≡ (pure (found_in identifier (named (codes "id") ms)) >>= with_id) c
  unfolding features.feature
  by_id = then_found identifier with_id (find (codes "id") ms) c

  pub faulty_id : (e : TopoFault) → found_in identifier (named (codes "id") ms) ≡ Err e → features.feature t arcs type ms c ≡ Err e
  faulty_id e h = by_id ∙ rw h refl

  module _ (id : Option Id) (is : found_in identifier (named (codes "id") ms) ≡ Ok id) where
    by_properties : features.feature t arcs type ms c ≡ (pure (found_in members_if (named (codes "properties") ms)) >>= with_both id) c
    by_properties = by_id ∙ rw is (then_found members_if (with_both id) (find (codes "properties") ms) c)

    pub faulty_properties : (e : TopoFault) → found_in members_if (named (codes "properties") ms) ≡ Err e → features.feature t arcs type ms c ≡ Err e
    faulty_properties e h = by_properties ∙ rw h refl

    module _ (properties : Option Members) (are : found_in members_if (named (codes "properties") ms) ≡ Ok properties) where
      by_shape : features.feature t arcs type ms c ≡ with_both id properties c
      by_shape = by_properties ∙ rw are refl

      pub shaped : (shape : Option TopoShape) (d : Counts) → typed_shape t arcs type ms c ≡ Ok (shape, d) → features.feature t arcs type ms c ≡ Ok (record { id = id; properties = properties; shape = shape }, d)
      shaped shape d h = by_shape ∙ rw h refl

      faulty_shape : (e : TopoFault) → typed_shape t arcs type ms c ≡ Err e → features.feature t arcs type ms c ≡ Err e
      faulty_shape e h = by_shape ∙ rw h refl

      pub shape_stops : (new : Counts) (why : Stop TopoFault) → Judges (typed_shape t arcs type ms) c new (Err why) → Judges (features.feature t arcs type ms) c new (Err why)
      shape_stops new (stop.Fault e) h = faulty_shape e h
      shape_stops new stop.NoValue h = absurd h
      shape_stops new stop.Memory h = tt

  pub faulty_type : (e : TopoFault) → object_type ms ≡ Err e → typed_feature t arcs ms c ≡ Err e
  faulty_type e h = rw h refl

  pub known_type : object_type ms ≡ Ok type → typed_feature t arcs ms c ≡ features.feature t arcs type ms c
  known_type h = rw h refl
