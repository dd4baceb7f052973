-- What was seen of the members of a topology (TopoJSON 1.0, section 2.1).
use Rattle.std.specs.Prelude.{◌≡◌, ◌⊎◌, ℕ, ◌-◌, ◌<◌, List, Option, Some, None, Result, Ok, Err, codes}
use Rattle.std.specs.Borrow.{Bor}
use Rattle.json_value.specs.declared.json.Json.{Json}
use Rattle.json_value.specs.declared.json.Json.TheVariants as j
use Rattle.json_value.specs.Kinds.{object_of}
use Rattle.json_reading.specs.declared.fault.Fault.{Fault}
use Rattle.json_reading.specs.Gives.{Fails}
use Rattle.json_value.specs.Members.{Members, named}
use Rattle.topojson_types.specs.declared.transform.Transform.{Transform}
use Rattle.topojson_meaning.specs.declared.fault.TopoFault.{TopoFault}
use Rattle.json_cursor.specs.Arrays.{prefix_value}
use Rattle.json_cursor.specs.Held.{IsHeld}
use Rattle.json_cursor.specs.Members.{TakesMember, TakesMembers, prefix_member}
use Rattle.topojson_decoder.specs.Members.{BeginsAt, IsOccurrence, TakesValue}
use Rattle.topojson_decoder.specs.Transforms.{IsTransformOf}
use Rattle.topojson_decoder.specs.Kept.{kept_arc_list}
use Rattle.topojson_decoder.specs.declared.index.By.{By}
use Rattle.topojson_decoder.specs.declared.index.FoundArcs.{FoundArcs}
use Rattle.topojson_decoder.specs.declared.index.Index.{Index}
use Rattle.topojson_decoder.specs.declared.index.ReadArcs.{ReadArcs}
use Rattle.json_cursor.specs.declared.occurrence.Occurrence.{Occurrence}
use Rattle.json_cursor.specs.declared.occurrence.Occurrence.TheVariants.{Never, Once, Again}

-- the transform of a topology of whose member `transform` this was seen, unless it has a fault
abbrev pub transform_by : Occurrence (Result (Option Transform) TopoFault) → Option (Option Transform)
transform_by Never = Some None
transform_by (Once (Ok t)) = Some t
transform_by (Once (Err e)) = None
transform_by Again = None

-- what the value of `arcs` was read as by this transform, if there is one and it was read
abbrev pub AreRead : By → Option (Option Transform) → Json → Option ReadArcs → Type 0
AreRead start t v None = Unit {0}
AreRead start None v (Some read) = Unit {0}
AreRead start (Some t) v (Some read) = IsHeld (kept_arc_list start.keeping t) start.counts read.counts v read.arcs

-- the value begins there, and was read so, if it was
pub record AreArcs (start : By) (t : Option (Option Transform)) (d : ℕ) (v : Json) (x : FoundArcs) : Type 0 where
  pub prefix : BeginsAt d v x.prefix
  pub read : AreRead start t v x.read

-- where they stand is known alone
abbrev pub unread : Occurrence FoundArcs → Occurrence FoundArcs
unread Never = Never
unread (Once x) = Once (record { prefix = x.prefix; read = None })
unread Again = Again

-- what was seen of these members
pub record IsIndex (start : By) (d : ℕ) (ms : Members) (i : Index) : Type 0 where
  pub kind : IsOccurrence (BeginsAt d) (named (codes "type") ms) i.kind
  pub transform : IsOccurrence IsTransformOf (named (codes "transform") ms) i.transform
  pub arcs : IsOccurrence (AreArcs start (transform_by i.transform) d) (named (codes "arcs") ms) i.arcs
  pub objects : IsOccurrence (BeginsAt d) (named (codes "objects") ms) i.objects

-- ---- what was leaped over

-- this follows whatever value stands at the front; or none stands there, or nothing is said
abbrev pub EndsAt : ℕ → List ℕ → Result (Bor (List ℕ)) Fault → Type 0
EndsAt d bytes (Ok rest) = (v : Json) (end : List ℕ) → prefix_value d bytes ≡ Some (v, end) → end ≡ rest.now
EndsAt d bytes (Err fault) = Fails fault (prefix_value d bytes)

-- no value stands where `arcs` begin, which were leaped over; or there are two of them, of which nothing is kept
abbrev pub NoArcs : ℕ → Occurrence FoundArcs → Type 0
NoArcs d Never = ⊥
NoArcs d (Once x) = (prefix_value d x.prefix.now ≡ None) × (x.read ≡ None)
NoArcs d Again = Unit {0}

-- no value stands where `objects` begin, or there are two of them, of which nothing is kept
abbrev pub NoObjects : ℕ → Occurrence (Bor (List ℕ)) → Type 0
NoObjects d Never = ⊥
NoObjects d (Once x) = prefix_value d x.now ≡ None
NoObjects d Again = Unit {0}

abbrev pub IsLost : ℕ → Index → Type 0
IsLost d i = NoArcs d i.arcs ⊎ NoObjects d i.objects

-- A value stands at the front, and then the rest, and they are arcs that are read so, if they are. Or none does, and they aren't read. Or none
-- does, or nothing is said.
abbrev pub FindsArcs : By → Option (Option Transform) → ℕ → List ℕ → Result (FoundArcs × Bor (List ℕ)) Fault → Type 0
FindsArcs start t d bytes (Ok x) = ((v : Json) × (prefix_value d bytes ≡ Some (v, x.1.now)) × AreArcs start t d v x.0) ⊎ ((prefix_value d bytes ≡ None) × NoArcs d (Once x.0))
FindsArcs start t d bytes (Err fault) = Fails fault (prefix_value d bytes)

-- A value stands at the front, and the index goes on with it as the one of this name. Or none does, and the index is lost. One that was lost
-- stays so. Or none does, or nothing is said.
abbrev pub GoesOnOrLoses : By → ℕ → List ℕ → Index → Index → List ℕ → Result (Bor (List ℕ)) Fault → Type 0
GoesOnOrLoses start d name before after bytes (Ok rest) = (TakesValue (IsIndex start d) d name before after bytes rest.now ⊎ ((prefix_value d bytes ≡ None) × IsLost d after)) × (IsLost d before → IsLost d after)
GoesOnOrLoses start d name before after bytes (Err fault) = Fails fault (prefix_value d bytes)

-- A member stands at the front, and the index goes on with it. Or none does, and the index is lost. One that was lost stays so. Or nothing is said.
abbrev pub TakesOrLoses : By → ℕ → Index → Index → List ℕ → Result (Bor (List ℕ)) Fault → Type 0
TakesOrLoses start d before after bytes (Ok rest) = (TakesMember (IsIndex start d) d before after bytes rest.now ⊎ ((prefix_member d bytes ≡ None) × IsLost d after)) × (IsLost d before → IsLost d after)
TakesOrLoses start d before after bytes (Err fault) = Fails fault (prefix_member d bytes)

-- Members stand at the front, and the index goes on with them. Or none do, and the index is lost. One that was lost stays so. Or nothing is said.
abbrev pub TakesAllOrLoses : By → ℕ → Option (Members × List ℕ) → Index → Index → Result (Bor (List ℕ)) Fault → Type 0
TakesAllOrLoses start d found before after (Ok rest) = TakesMembers (IsIndex start d) found before after rest.now ⊎ ((found ≡ None) × IsLost d after)
TakesAllOrLoses start d found before after (Err fault) = Fails fault found

-- an object stands at the front, and then the rest, and this was seen of its members
pub record IsIndexed (start : By) (d : ℕ) (bytes : List ℕ) (i : Index) (rest : List ℕ) : Type 0 where
  pub members : Members
  pub prefix : prefix_value d bytes ≡ Some (j.Object members, rest)
  pub index : IsIndex start (d - 1) members i

-- an object stands at the front, and this was seen of its members; or no value does, and the index is lost; or whatever value stands there
-- is no object; or none stands there, or nothing is said
abbrev pub Indexes : By → ℕ → List ℕ → Result (Option (Index × Bor (List ℕ))) Fault → Type 0
Indexes start d bytes (Ok (Some x)) = (0 < d) × (IsIndexed start d bytes x.0 x.1.now ⊎ ((prefix_value d bytes ≡ None) × IsLost (d - 1) x.0))
Indexes start d bytes (Ok None) = (v : Json) (end : List ℕ) → prefix_value d bytes ≡ Some (v, end) → object_of v ≡ None
Indexes start d bytes (Err fault) = Fails fault (prefix_value d bytes)
