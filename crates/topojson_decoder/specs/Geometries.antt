-- What was seen of the members of a geometry (TopoJSON 1.0, section 2.2).
use Rattle.std.specs.Prelude.{◌≡◌, ℕ, List, Option, Some, None, Result, Ok, Err, codes}
use Rattle.std.specs.Borrow.{Bor}
use Rattle.std.specs.Option.{option_copied}
use Rattle.json_value.specs.declared.json.Json.{Json}
use Rattle.json_value.specs.Members.{Members, named}
use Rattle.json_reading.specs.declared.fault.Fault.{Fault}
use Rattle.json_reading.specs.Gives.{Fails}
use Rattle.topojson_types.specs.Topologies.{TopoShape}
use Rattle.topojson_meaning.specs.declared.fault.TopoFault.{TopoFault}
use Rattle.topojson_meaning.specs.declared.fault.TopoFault.TheVariants.{WrongKind}
use Rattle.topojson_meaning.specs.declared.geometry_type.GeometryType.{GeometryType}
use Rattle.topojson_meaning.specs.declared.geometry_type.GeometryType.TheVariants as types
use Rattle.topojson_meaning.specs.GeometryTypes.{part_name, type_of}
use Rattle.topojson_meaning.specs.Reader.{Reader}
use Rattle.topojson_meaning.specs.Shapes as shapes
use Rattle.json_cursor.specs.declared.kinds.Kind.{Kind}
use Rattle.json_cursor.specs.declared.kinds.Kind.TheVariants.{Null}
use Rattle.json_cursor.specs.Arrays.{prefix_value}
use Rattle.json_cursor.specs.Held.{IsHeld}
use Rattle.topojson_decoder.specs.Members.{BeginsAt, IsOccurrence, IsOnly}
use Rattle.topojson_decoder.specs.declared.geometry_parts.PartType.{PartType}
use Rattle.topojson_decoder.specs.declared.geometry_parts.PartType.TheVariants.{Places, Arcs}
use Rattle.topojson_decoder.specs.declared.geometry_parts.GeometryParts.{GeometryParts}
use Rattle.topojson_decoder.specs.declared.geometry_parts.Group.{Group}
use Rattle.topojson_decoder.specs.declared.geometry_parts.Read.{Read}
use Rattle.topojson_decoder.specs.declared.geometry_parts.Start.{Start}

-- the type of a geometry that is made of places or of arcs
abbrev pub of_part : PartType → GeometryType
of_part (Places type) = types.Places type
of_part (Arcs type) = types.Arcs type

-- what a value is read as by such a type
abbrev pub part : Start → PartType → Json → Reader (Option TopoShape)
part start type v = shapes.part (option_copied start.transform) start.arcs.now (of_part type) v

-- the shape of a geometry of this type with these members, and that of one with these members
abbrev pub typed_shape : Start → Option GeometryType → Members → Reader (Option TopoShape)
typed_shape start type ms = shapes.typed_shape (option_copied start.transform) start.arcs.now type ms

abbrev pub geometry : Start → Members → Reader (Option TopoShape)
geometry start ms = shapes.geometry (option_copied start.transform) start.arcs.now ms

-- the type that the value of the member `type` names, or its fault
abbrev pub IsType : Json → Result (Option GeometryType) TopoFault → Type 0
IsType v type = type ≡ type_of v

-- the type that a value of this kind names, which is no text
abbrev pub textless_type : Kind → Result (Option GeometryType) TopoFault
textless_type Null = Ok None
textless_type kind = Err WrongKind

-- the value was read so by this type
abbrev pub IsReadBy : Start → PartType → Json → Read → Type 0
IsReadBy start kind v read = IsHeld (part start kind) start.counts read.counts v read.shape

-- it was, if it was by this very type
abbrev pub IsTaken : Start → PartType → Json → Read → Type 0
IsTaken start kind v read = read.by ≡ Some kind → IsReadBy start kind v read

-- the value that comes next was read so by its type, or wasn't read where none is known
abbrev pub IsNext : Start → Option PartType → Json → Read → Read → Type 0
IsNext start None v before after = after ≡ before
IsNext start (Some kind) v before after = (after.by ≡ Some kind) × IsReadBy start kind v after

-- a value stands at the front, which comes next, and this follows it; or none stands there, or nothing is said
abbrev pub ReadsPart : Start → Option PartType → ℕ → Read → Read → List ℕ → Result (Bor (List ℕ)) Fault → Type 0
ReadsPart start kind d before after bytes (Ok rest) = (v : Json) × (prefix_value d bytes ≡ Some (v, rest.now)) × IsNext start kind v before after
ReadsPart start kind d before after bytes (Err fault) = Fails fault (prefix_value d bytes)

-- a value of the member that a geometry of this type is made of was read so, if one was; and it is the one that counts, where there is one alone
abbrev pub IsReadOf : Start → Members → Read → Option PartType → Type 0
IsReadOf start ms read None = Unit {0}
IsReadOf start ms read (Some kind) = IsOnly (λ v. IsReadBy start kind v read) (named (part_name (of_part kind)) ms)

abbrev pub IsRead : Start → Members → Read → Type 0
IsRead start ms read = IsReadOf start ms read read.by

-- this is what the value of `geometries` is read as
abbrev pub IsGroup : Start → Json → Group → Type 0
IsGroup start v group = IsHeld (shapes.shapes (option_copied start.transform) start.arcs.now) start.counts group.counts v group.shapes

-- what was seen of these members
pub record IsParts (start : Start) (d : ℕ) (ms : Members) (parts : GeometryParts) : Type 0 where
  pub kind : IsOccurrence IsType (named (codes "type") ms) parts.kind
  pub coordinates : IsOccurrence (BeginsAt d) (named (codes "coordinates") ms) parts.coordinates
  pub arcs : IsOccurrence (BeginsAt d) (named (codes "arcs") ms) parts.arcs
  pub geometries : IsOccurrence (IsGroup start) (named (codes "geometries") ms) parts.geometries
  pub read : IsRead start ms parts.read
