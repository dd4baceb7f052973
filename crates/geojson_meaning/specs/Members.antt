-- Looking up a member of an object by its name, where a look-up's fault is one of a layer.
use Rattle.std.specs.Prelude.{ℕ, List, Option, Result, codes}
use Rattle.json_value.specs.declared.fault.LookupFault.{LookupFault}
use Rattle.json_value.specs.declared.fault.LookupFault.TheVariants as of_lookup
use Rattle.json_value.specs.Members as members_by
pub use Rattle.json_value.specs.Members.{Members}
unfoldable pub use Rattle.json_value.specs.Members.{named}
use Rattle.geojson_meaning.specs.declared.fault.GeoFaultKind.{GeoFaultKind}
use Rattle.geojson_meaning.specs.declared.fault.GeoFaultKind.TheVariants.{Missing, Duplicate, WrongKind}
use Rattle.geojson_meaning.specs.Reader.{Reader, ◌>>=◌, pure, with_fault}

-- the fault that a look-up's is
abbrev pub lookup_fault : LookupFault → GeoFaultKind
lookup_fault of_lookup.Missing = Missing
lookup_fault of_lookup.Duplicate = Duplicate
lookup_fault of_lookup.WrongKind = WrongKind

-- the value of the member of this name, if there is one
abbrev pub find : {V : Type 0} → List ℕ → List (List ℕ × V) → Result (Option V) GeoFaultKind
find name ms = with_fault lookup_fault (members_by.find name ms)

-- the value of the member of this name
unfoldable pub need : {V : Type 0} → List ℕ → List (List ℕ × V) → Result V GeoFaultKind
need name ms = with_fault lookup_fault (members_by.need name ms)

-- the value of the member of this name, and what it is read as
abbrev pub need_as : {V B : Type 0} → List ℕ → (V → Reader B) → List (List ℕ × V) → Reader B
need_as name read ms = do
  v ← pure (need name ms)
  read v

-- the name of the type of an object with these members
unfoldable pub type_name : Members → Result (List ℕ) GeoFaultKind
type_name ms = with_fault lookup_fault (members_by.need_text (codes "type") ms)
