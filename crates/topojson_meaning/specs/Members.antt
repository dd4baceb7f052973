-- Looking up a member of an object by its name, where a look-up's fault is one of a topology.
use Rattle.std.specs.Prelude.{ℕ, List, Option, Result}
use Rattle.json_value.specs.declared.json.Json.{Json}
use Rattle.json_value.specs.Kinds.{array_of, object_of}
use Rattle.json_value.specs.declared.fault.LookupFault.{LookupFault}
use Rattle.json_value.specs.declared.fault.LookupFault.TheVariants as of_lookup
use Rattle.json_value.specs.Members as members_by
pub use Rattle.json_value.specs.Members.{Members}
unfoldable pub use Rattle.json_value.specs.Members.{named}
use Rattle.topojson_meaning.specs.declared.fault.TopoFault.{TopoFault}
use Rattle.topojson_meaning.specs.declared.fault.TopoFault.TheVariants.{Missing, Duplicate, WrongKind}
use Rattle.topojson_meaning.specs.Reader.{Reader, ◌>>=◌, pure, or_fail, with_fault}

-- the fault that a look-up's is
abbrev pub lookup_fault : LookupFault → TopoFault
lookup_fault of_lookup.Missing = Missing
lookup_fault of_lookup.Duplicate = Duplicate
lookup_fault of_lookup.WrongKind = WrongKind

-- the value of the member of this name, if there is one
abbrev pub find : {V : Type 0} → List ℕ → List (List ℕ × V) → Result (Option V) TopoFault
find name ms = with_fault lookup_fault (members_by.find name ms)

-- the value of the member of this name
unfoldable pub need : {V : Type 0} → List ℕ → List (List ℕ × V) → Result V TopoFault
need name ms = with_fault lookup_fault (members_by.need name ms)

-- the value of the member of this name, and what it is read as
abbrev pub need_as : {V B : Type 0} → List ℕ → (V → Reader B) → List (List ℕ × V) → Reader B
need_as name read ms = do
  v ← pure (need name ms)
  read v

-- the elements of a value that must be an array
unfoldable pub elements : Json → Result (List Json) TopoFault
elements v = or_fail WrongKind (array_of v)

-- the members of a value that must be an object
unfoldable pub members : Json → Result Members TopoFault
members v = or_fail WrongKind (object_of v)
