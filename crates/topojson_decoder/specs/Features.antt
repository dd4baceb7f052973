-- What was seen of the members of a feature (TopoJSON 1.0, section 2.2).
use Rattle.std.specs.Prelude.{◌≡◌, ℕ, List, Option, Some, None, Result, Ok, Err, codes}
use Rattle.std.specs.Borrow.{Bor}
use Rattle.std.specs.Option.{option_copied}
use Rattle.json_value.specs.declared.json.Json.{Json}
use Rattle.json_value.specs.Members.{Members, named, only}
use Rattle.geojson_types.specs.declared.id.Id.{Id}
use Rattle.geometry.specs.Points.{Point}
use Rattle.json_cursor.specs.declared.kinds.Kind.{Kind}
use Rattle.json_cursor.specs.declared.kinds.Kind.TheVariants.{Null, Number, Text, Object}
use Rattle.json_cursor.specs.declared.names.Name.{Name}
use Rattle.json_cursor.specs.Members.{Names}
use Rattle.json_cursor.specs.Names.{name_of}
use Rattle.topojson_types.specs.declared.feature.TopoFeature.{TopoFeature}
use Rattle.topojson_types.specs.declared.transform.Transform.{Transform}
use Rattle.topojson_meaning.specs.declared.fault.TopoFault.{TopoFault}
use Rattle.topojson_meaning.specs.declared.fault.TopoFault.TheVariants.{WrongKind}
use Rattle.topojson_meaning.specs.declared.geometry_type.GeometryType.{GeometryType}
use Rattle.topojson_meaning.specs.Features as features
use Rattle.topojson_meaning.specs.Features.{identifier, members_if}
use Rattle.topojson_meaning.specs.GeometryTypes.{object_type}
use Rattle.topojson_meaning.specs.Members.{lookup_fault}
use Rattle.topojson_meaning.specs.Reader.{Reader, ◌>>=◌, pure, with_fault}
use Rattle.topojson_decoder.specs.Geometries.{IsParts}
use Rattle.topojson_decoder.specs.Kept.{making, of_feature, of_read}
use Rattle.topojson_decoder.specs.Members.{IsOccurrence}
use Rattle.topojson_decoder.specs.declared.feature_parts.FeatureMember.{FeatureMember}
use Rattle.topojson_decoder.specs.declared.feature_parts.FeatureMember.TheVariants as of_member
use Rattle.topojson_decoder.specs.declared.feature_parts.FeatureParts.{FeatureParts}
use Rattle.topojson_decoder.specs.declared.geometry_parts.Start.{Start}
use Rattle.topojson_decoder.specs.declared.keeping.Keeping.{Keeping}

-- what is found among these values of a name, and what that is read as, or a fault
abbrev pub found : {A : Type 0} → (Option Json → Result A TopoFault) → Result (Option Json) TopoFault → Result A TopoFault
found read (Ok v) = read v
found read (Err e) = Err e

abbrev pub found_in : {A : Type 0} → (Option Json → Result A TopoFault) → List Json → Result A TopoFault
found_in read vs = found read (with_fault lookup_fault (only vs))

-- this is what the value is read as where it is there
abbrev pub IsFound : {A : Type 0} → (Option Json → Result A TopoFault) → Json → Result A TopoFault → Type 0
IsFound read v x = x ≡ read (Some v)

-- what is kept of the identifier that the member `id` gives, and of the members of the object that a member is
abbrev pub kept_identifier : Keeping → Option Json → Result (Option Id) TopoFault
kept_identifier keeping v = of_read keeping (identifier v)

abbrev pub kept_members : Keeping → Option Json → Result (Option Members) TopoFault
kept_members keeping v = of_read keeping (members_if v)

-- what they are read as by the kind of the value alone, where none are kept
abbrev pub blank_identifier : Kind → Result (Option Id) TopoFault
blank_identifier Null = Ok None
blank_identifier Number = Ok None
blank_identifier Text = Ok None
blank_identifier kind = Err WrongKind

abbrev pub blank_members : Kind → Result (Option Members) TopoFault
blank_members Null = Ok None
blank_members Object = Ok None
blank_members kind = Err WrongKind

-- the names of the members that are looked for first
abbrev pub member_name : FeatureMember → List ℕ
member_name of_member.Kind = codes "type"
member_name of_member.Properties = codes "properties"
member_name of_member.Arcs = codes "arcs"
member_name of_member.Id = codes "id"
member_name of_member.Coordinates = codes "coordinates"

-- this one stands at the front, and its value begins there
abbrev pub IsMemberAt : List ℕ → FeatureMember → Bor (List ℕ) → Type 0
IsMemberAt bytes member value = (name : Name) × Names bytes (Ok (name, value)) × (name_of name ≡ member_name member)

-- what was seen of these members
pub record IsFeature (start : Start) (d : ℕ) (ms : Members) (occurrence : FeatureParts) : Type 0 where
  pub parts : IsParts start d ms occurrence.parts
  pub id : IsOccurrence (IsFound (kept_identifier start.keeping)) (named (codes "id") ms) occurrence.id
  pub properties : IsOccurrence (IsFound (kept_members start.keeping)) (named (codes "properties") ms) occurrence.properties

-- what is kept of the feature of this type with these members
abbrev pub feature : Start → Option GeometryType → Members → Reader TopoFeature
feature start type ms = making (of_feature start.keeping) (features.feature (option_copied start.transform) start.arcs.now type ms)

-- the feature with these members, whose `type` is looked at first
abbrev pub typed_feature : Option Transform → List (List Point) → Members → Reader TopoFeature
typed_feature transform arcs ms = do
  type ← pure (object_type ms)
  features.feature transform arcs type ms

-- what is kept of it
abbrev pub kept_typed_feature : Start → Members → Reader TopoFeature
kept_typed_feature start ms = making (of_feature start.keeping) (typed_feature (option_copied start.transform) start.arcs.now ms)
