-- The transform of a topology by its members, as they were seen among the others (TopoJSON 1.0, section 2.1.2).
use Rattle.std.specs.Prelude.{◌≡◌, ℕ, List, Option, Some, None, Result, Ok, Err, codes}
use Rattle.json_value.specs.declared.json.Json.{Json}
use Rattle.json_value.specs.Members.{Members, named}
use Rattle.geojson_types.specs.declared.counts.Counts.{Counts}
use Rattle.topojson_types.specs.declared.transform.Transform.{Transform}
use Rattle.topojson_meaning.specs.declared.fault.TopoFault.{TopoFault}
use Rattle.topojson_meaning.specs.declared.fault.TopoFault.TheVariants.{Missing, Duplicate, WrongKind}
use Rattle.topojson_meaning.specs.Arcs.{number_text}
use Rattle.topojson_meaning.specs.Reader.{Reader, ◌>>=◌, give, pure}
use Rattle.topojson_meaning.specs.Transforms.{texts, transform_if}
use Rattle.json_cursor.specs.declared.kinds.Kind.{Kind}
use Rattle.json_cursor.specs.declared.kinds.Kind.TheVariants.{Null}
use Rattle.topojson_decoder.specs.Members.{IsOccurrence}
use Rattle.json_cursor.specs.declared.occurrence.Occurrence.{Occurrence}
use Rattle.json_cursor.specs.declared.occurrence.Occurrence.TheVariants.{Never, Once, Again}
use Rattle.topojson_decoder.specs.declared.transforms.NumberTexts.{NumberTexts}
use Rattle.topojson_decoder.specs.declared.transforms.TransformParts.{TransformParts}

-- ---- the number texts of an array

-- one more is the first, or else the second
abbrev pub put_in : Option (List ℕ) → Option (List ℕ) → List ℕ → NumberTexts
put_in None y t = record { x = Some t; y = y }
put_in (Some s) y t = record { x = Some s; y = Some t }

abbrev pub put : NumberTexts → List ℕ → NumberTexts
put s t = put_in s.x s.y t

-- an element must be a number, unless both were read
abbrev pub take_in : Option (List ℕ) → NumberTexts → Json → Reader NumberTexts
take_in None s v = do
  t ← pure (number_text v)
  give (put s t)
take_in (Some u) s v = give s

abbrev pub take : NumberTexts → Json → Reader NumberTexts
take s v = take_in s.y s v

-- both must be there
abbrev pub both_in : Option (List ℕ) → Option (List ℕ) → Result (List ℕ × List ℕ) TopoFault
both_in None y = Err WrongKind
both_in (Some s) None = Err WrongKind
both_in (Some s) (Some t) = Ok (s, t)

abbrev pub both_of : Result NumberTexts TopoFault → Result (List ℕ × List ℕ) TopoFault
both_of (Err e) = Err e
both_of (Ok s) = both_in s.x s.y

-- ---- the members

-- these are the number texts of the value, or this is its fault
abbrev pub IsTexts : Json → Result (List ℕ × List ℕ) TopoFault → Type 0
IsTexts v ts = (counts : Counts) → texts v counts ≡ pure ts counts

-- what was seen of these members
pub record IsTransform (ms : Members) (parts : TransformParts) : Type 0 where
  pub scale : IsOccurrence IsTexts (named (codes "scale") ms) parts.scale
  pub translate : IsOccurrence IsTexts (named (codes "translate") ms) parts.translate

-- what must be there once
abbrev pub needed : {A : Type 0} → Occurrence (Result A TopoFault) → Result A TopoFault
needed Never = Err Missing
needed (Once x) = x
needed Again = Err Duplicate

-- the transform that a value of this kind is, which is no object
abbrev pub other_transform : Kind → Result (Option Transform) TopoFault
other_transform Null = Ok None
other_transform kind = Err WrongKind

-- this is the transform that the value is, or its fault
abbrev pub IsTransformOf : Json → Result (Option Transform) TopoFault → Type 0
IsTransformOf v t = (counts : Counts) → transform_if (Some v) counts ≡ pure t counts
